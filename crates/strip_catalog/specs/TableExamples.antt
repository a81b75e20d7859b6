-- Tables, streams, derived tables and queries with what they are refused for: taken and unknown names, limits, kinds,
-- magnitudes and groups.
use Rattle.std.specs.Prelude.{◌≡◌, ℕ, zero, suc, true, false, codes, List, [], ◌∷◌, map, pos, replicate, Option, Some, None, refl}
use Rattle.std.specs.Fmt.{digits}
use Rattle.strip_value.specs.declared.expressions.Calc.TheVariants as calc
use Rattle.strip_value.specs.declared.expressions.Cmp.TheVariants as cmp
use Rattle.strip_value.specs.declared.expressions.Test.TheVariants as test
use Rattle.strip_value.specs.declared.tables.TableDef.{TableDef}
use Rattle.strip_value.specs.Trees as tree
use Rattle.strip_ast.specs.declared.deeds.Deed.TheVariants as deed
use Rattle.strip_ast.specs.declared.expressions.Expr.{Expr}
use Rattle.strip_ast.specs.declared.expressions.Op.TheVariants as op
use Rattle.strip_ast.specs.declared.queries.ItemTree.{ItemTree}
use Rattle.strip_ast.specs.declared.queries.Origin.TheVariants as origin
use Rattle.strip_ast.specs.declared.queries.QueryTree.{QueryTree}
use Rattle.strip_ast.specs.declared.statements.Statement.TheVariants as st
use Rattle.strip_setup.specs.declared.errors.LimitKind.TheVariants as limit
use Rattle.strip_setup.specs.declared.errors.SetupError.{SetupError}
use Rattle.strip_setup.specs.declared.errors.SetupError.TheVariants.{Closed, Exists, Unknown, Limit, KindMismatch, TooWide, ReadsDerived, NotGrouped}
use Rattle.strip_setup.specs.Adds.{with_statement}
use Rattle.strip_setup.specs.Catalog.{Catalog, nothing, columns_of, table_named}
use Rattle.strip_catalog.specs.Examples.{parts, comps, declared}
use Rattle.strip_setup.specs.Queries.{item_names, entries_of, own_entry, filter_of}
use Rattle.strip_catalog.specs.Refusals.{refusal}
use Rattle.strip_setup.specs.Resolve.{outside_rules, sets_of}
use Rattle.strip_setup.specs.Trees.{Two, Not}
use Rattle.strip_catalog.specs.Writing.{bare, dotted, number, text, item, item_as, sum_as, count_as, table, table_as, before, moved, select, select_where, grouped, grouped_where, column, column_of, int, txt, names, make_table, derive}

-- why a query is refused that is asked after setup
abbrev asked : QueryTree → Option SetupError
asked query = refusal (with_statement declared st.Ready) (st.Deed None (deed.Select query))

-- why a derived table of this query is refused
abbrev derived : QueryTree → Option SetupError
derived query = refusal declared (derive "d" query)

-- ---- setup is over

pub ready_once : refusal declared st.Ready ≡ None
unfolding refusal with_statement
ready_once = refl

pub ready_twice : refusal (with_statement declared st.Ready) st.Ready ≡ Some Closed
unfolding refusal with_statement
ready_twice = refl

-- also a table that is there
pub table_after_ready : refusal (with_statement declared st.Ready) parts ≡ Some Closed
unfolding refusal with_statement
table_after_ready = refl

-- ---- taken names

-- a stream may have a table's name
pub stream_named_as_a_table : refusal declared (st.Stream (codes "parts") (codes "parts") true) ≡ None
unfolding refusal with_statement
stream_named_as_a_table = refl

pub stream_is_there :
    refusal (with_statement declared (st.Stream (codes "s") (codes "parts") true)) (st.Stream (codes "s") (codes "parts") false) ≡ Some (Exists (codes "s"))
unfolding refusal with_statement
stream_is_there = refl

pub derived_as_a_table : refusal declared comps ≡ Some (Exists (codes "comps"))
unfolding refusal with_statement
derived_as_a_table = refl

-- table t (a int, b int, b text, a int, key a)
pub column_twice : refusal declared (make_table "t" (int "a" ∷ int "b" ∷ txt "b" ∷ int "a" ∷ []) ("a" ∷ [])) ≡ Some (Exists (codes "b"))
unfolding refusal with_statement
column_twice = refl

-- table t (a int, key a, a)
pub key_column_twice : refusal declared (make_table "t" (int "a" ∷ []) ("a" ∷ "a" ∷ [])) ≡ Some (Exists (codes "a"))
unfolding refusal with_statement
key_column_twice = refl

-- select 1 as a from parts, parts
pub alias_twice : asked (select (item_as (number 1) "a" ∷ []) (table "parts" ∷ table "parts" ∷ [])) ≡ Some (Exists (codes "parts"))
unfolding refusal with_statement
alias_twice = refl

-- select p.comp, q.comp from parts p, parts q
pub item_twice : asked (select (item (dotted "p" "comp") ∷ item (dotted "q" "comp") ∷ []) (table_as "parts" "p" ∷ table_as "parts" "q" ∷ [])) ≡ Some (Exists (codes "comp"))
unfolding refusal with_statement
item_twice = refl

-- the names of `price, price * 2, 3 as x`
pub names_of_items : item_names (item (bare "price") ∷ item (Two op.Mul (bare "price") (number 2)) ∷ item_as (number 3) "x" ∷ []) ≡ names ("price" ∷ "item_2" ∷ "x" ∷ [])
unfolding digits
names_of_items = refl

-- select 1 as item_2, 2 from parts
pub item_named_by_its_number : asked (select (item_as (number 1) "item_2" ∷ item (number 2) ∷ []) (table "parts" ∷ [])) ≡ Some (Exists (codes "item_2"))
unfolding refusal with_statement digits
item_named_by_its_number = refl

-- update nope set a = 1, a = 2
pub column_set_twice :
    refusal declared (st.Deed None (deed.Update (codes "nope") (record { column = codes "a"; value = number 1 } ∷ record { column = codes "a"; value = number 2 } ∷ []) None))
    ≡ Some (Exists (codes "a"))
unfolding refusal with_statement
column_set_twice = refl

-- ---- unknown names

-- table t (a int, key b, a)
pub key_of_no_column : refusal declared (make_table "t" (int "a" ∷ []) ("b" ∷ "a" ∷ [])) ≡ Some (Unknown (codes "b"))
unfolding refusal with_statement
key_of_no_column = refl

-- select x from nope
pub column_of_nothing : asked (select (item (bare "x") ∷ []) (table "nope" ∷ [])) ≡ Some (Unknown (codes "x"))
unfolding refusal with_statement
column_of_nothing = refl

-- select 1 as a from nope
pub table_of_nothing : asked (select (item_as (number 1) "a" ∷ []) (table "nope" ∷ [])) ≡ Some (Unknown (codes "nope"))
unfolding refusal with_statement
table_of_nothing = refl

-- select x from inserted
pub column_outside : asked (select (item (bare "x") ∷ []) (moved origin.Inserted ∷ [])) ≡ Some (Unknown (codes "x"))
unfolding refusal with_statement
column_outside = refl

-- select 1 as a from inserted
pub inserted_outside : asked (select (item_as (number 1) "a" ∷ []) (moved origin.Inserted ∷ [])) ≡ Some (Unknown (codes "inserted"))
unfolding refusal with_statement
inserted_outside = refl

-- select 1 as a from before parts
pub before_outside : asked (select (item_as (number 1) "a" ∷ []) (before "parts" ∷ [])) ≡ Some (Unknown (codes "before"))
unfolding refusal with_statement
before_outside = refl

-- select price from before parts: its columns are there
pub column_of_before_outside : asked (select (item (bare "price") ∷ []) (before "parts" ∷ [])) ≡ Some (Unknown (codes "before"))
unfolding refusal with_statement
column_of_before_outside = refl

-- select comp from parts, comps
pub column_of_two : asked (select (item (bare "comp") ∷ []) (table "parts" ∷ table "comps" ∷ [])) ≡ Some (Unknown (codes "comp"))
unfolding refusal with_statement
column_of_two = refl

-- select price, comps.comp from parts, comps
pub column_of_one : asked (select (item (bare "price") ∷ item (dotted "comps" "comp") ∷ []) (table "parts" ∷ table "comps" ∷ [])) ≡ None
unfolding refusal with_statement
column_of_one = refl

-- select parts.comp from parts p
pub name_behind_an_alias : asked (select (item (dotted "parts" "comp") ∷ []) (table_as "parts" "p" ∷ [])) ≡ Some (Unknown (codes "parts"))
unfolding refusal with_statement
name_behind_an_alias = refl

-- select p.total from parts p
pub column_of_an_alias : asked (select (item (dotted "p" "total") ∷ []) (table_as "parts" "p" ∷ [])) ≡ Some (Unknown (codes "total"))
unfolding refusal with_statement
column_of_an_alias = refl

-- derive d as select comp, count(*) as k from parts where v = 1 group by x, comp
pub filter_before_groups :
    derived (grouped_where (item (bare "comp") ∷ count_as "k" ∷ []) (table "parts" ∷ []) (Two op.Eq (bare "v") (number 1)) (column "x" ∷ column "comp" ∷ [])) ≡ Some (Unknown (codes "v"))
unfolding refusal with_statement
filter_before_groups = refl

-- derive d as select comp, count(*) as k from parts group by comp, x
pub group_of_no_column : derived (grouped (item (bare "comp") ∷ count_as "k" ∷ []) (table "parts" ∷ []) (column "comp" ∷ column "x" ∷ [])) ≡ Some (Unknown (codes "x"))
unfolding refusal with_statement
group_of_no_column = refl

-- update parts set nope = other
pub column_before_its_value :
    refusal declared (st.Deed None (deed.Update (codes "parts") (record { column = codes "nope"; value = bare "other" } ∷ []) None)) ≡ Some (Unknown (codes "nope"))
unfolding refusal with_statement
column_before_its_value = refl

-- delete parts where parts.price = 1, and where p.price = 1: the table's alias is its name
pub delete_by_the_table_name : refusal declared (st.Deed None (deed.Delete (codes "parts") (Some (Two op.Eq (dotted "parts" "price") (number 1))))) ≡ None
unfolding refusal with_statement
delete_by_the_table_name = refl

pub delete_by_another_name : refusal declared (st.Deed None (deed.Delete (codes "parts") (Some (Two op.Eq (dotted "p" "price") (number 1))))) ≡ Some (Unknown (codes "p"))
unfolding refusal with_statement
delete_by_another_name = refl

-- insert into nope, put into nope, show nope
pub insert_into_nothing : refusal declared (st.Deed None (deed.Insert (codes "nope") [])) ≡ Some (Unknown (codes "nope"))
unfolding refusal with_statement
insert_into_nothing = refl

pub put_into_nothing : refusal declared (st.Deed None (deed.Put (codes "nope") [])) ≡ Some (Unknown (codes "nope"))
unfolding refusal with_statement
put_into_nothing = refl

pub show_of_nothing : refusal declared (st.Deed None (deed.Show (codes "nope"))) ≡ Some (Unknown (codes "nope"))
unfolding refusal with_statement
show_of_nothing = refl

-- what is there may be named, a derived table too
pub insert_into_parts : refusal declared (st.Deed None (deed.Insert (codes "parts") [])) ≡ None
unfolding refusal with_statement
insert_into_parts = refl

pub put_into_parts : refusal declared (st.Deed None (deed.Put (codes "parts") [])) ≡ None
unfolding refusal with_statement
put_into_parts = refl

pub show_of_comps : refusal declared (st.Deed None (deed.Show (codes "comps"))) ≡ None
unfolding refusal with_statement
show_of_comps = refl

-- ---- limits

-- so many items
abbrev ones : ℕ → List ItemTree
ones zero = []
ones (suc n) = item (number 1) ∷ ones n

pub sixteen_items : asked (select (ones 16) (table "parts" ∷ [])) ≡ None
unfolding refusal with_statement digits
sixteen_items = refl

pub seventeen_items : asked (select (ones 17) (table "parts" ∷ [])) ≡ Some (Limit limit.Columns 16)
unfolding refusal with_statement digits
seventeen_items = refl

-- 17 items and two entries of a query with groups: the items stand first
pub items_before_entries : asked (grouped (ones 17) (table_as "parts" "p" ∷ table_as "parts" "q" ∷ []) (column_of "p" "comp" ∷ [])) ≡ Some (Limit limit.Columns 16)
unfolding refusal with_statement digits
items_before_entries = refl

pub seventeen_columns :
    refusal declared (make_table "t" (int "a" ∷ int "b" ∷ int "c" ∷ int "d" ∷ int "e" ∷ int "f" ∷ int "g" ∷ int "h" ∷ int "i" ∷ int "j" ∷ int "k" ∷ int "l" ∷ int "m" ∷ int "n" ∷ int "o" ∷ int "p" ∷ int "q" ∷ []) ("a" ∷ []))
    ≡ Some (Limit limit.Columns 16)
unfolding refusal with_statement
seventeen_columns = refl

pub four_entries :
    asked (select (item_as (number 1) "x" ∷ []) (table_as "parts" "a" ∷ table_as "parts" "b" ∷ table_as "parts" "c" ∷ table_as "parts" "d" ∷ [])) ≡ Some (Limit limit.Entries 3)
unfolding refusal with_statement
four_entries = refl

-- so many tables that are there, under one name
abbrev with_tables : ℕ → Catalog
with_tables n = record nothing { tables = replicate n (record { name = codes "t"; columns = []; key = []; limit = None; query = None; kept = None; declared = false }) }

pub table_64 : refusal (with_tables 63) parts ≡ None
unfolding refusal
table_64 = refl

pub table_65 : refusal (with_tables 64) parts ≡ Some (Limit limit.Tables 64)
unfolding refusal
table_65 = refl

-- so many streams that are there, under one name
abbrev with_streams : ℕ → Catalog
with_streams n = record declared { streams = replicate n (record { name = codes "q"; table = 0; marked = false; columns = []; key = [] }) }

pub stream_64 : refusal (with_streams 63) (st.Stream (codes "s") (codes "parts") false) ≡ None
unfolding refusal with_statement
stream_64 = refl

pub stream_65 : refusal (with_streams 64) (st.Stream (codes "s") (codes "parts") false) ≡ Some (Limit limit.Streams 64)
unfolding refusal with_statement
stream_65 = refl

-- table t (a int, key a) limit 1048576, and one row more
pub most_rows_at_most : refusal declared (st.Table (codes "t") (int "a" ∷ []) (codes "a" ∷ []) (Some 1048576)) ≡ None
unfolding refusal with_statement
most_rows_at_most = refl

pub more_rows : refusal declared (st.Table (codes "t") (int "a" ∷ []) (codes "a" ∷ []) (Some 1048577)) ≡ Some (Limit limit.Rows 1048576)
unfolding refusal with_statement
more_rows = refl

-- ---- kinds

-- select price from parts where ..
abbrev where_ : Expr → Option SetupError
where_ e = asked (select_where (item (bare "price") ∷ []) (table "parts" ∷ []) e)

-- price = 'x'
pub number_with_text : where_ (Two op.Eq (bare "price") (text "x")) ≡ Some (KindMismatch (Some (codes "price")))
unfolding refusal with_statement
number_with_text = refl

-- comp = 'x' and price < weight
pub alike : where_ (Two op.And (Two op.Eq (bare "comp") (text "x")) (Two op.Lt (bare "price") (bare "weight"))) ≡ None
unfolding refusal with_statement
alike = refl

-- price < 3 or not comp = 'x'
pub alike_by_or : where_ (Two op.Or (Two op.Lt (bare "price") (number 3)) (Not (Two op.Eq (bare "comp") (text "x")))) ≡ None
unfolding refusal with_statement
alike_by_or = refl

-- price = weight + comp: the sum is named, which is a part
pub part_before_whole : where_ (Two op.Eq (bare "price") (Two op.Add (bare "weight") (bare "comp"))) ≡ Some (KindMismatch (Some (codes "weight")))
unfolding refusal with_statement
part_before_whole = refl

-- price: a value where a truth value is wanted
pub value_as_filter : where_ (bare "price") ≡ Some (KindMismatch (Some (codes "price")))
unfolding refusal with_statement
value_as_filter = refl

-- 1
pub number_as_filter : where_ (number 1) ≡ Some (KindMismatch None)
unfolding refusal with_statement
number_as_filter = refl

-- not weight
pub negated_value : where_ (Not (bare "weight")) ≡ Some (KindMismatch (Some (codes "weight")))
unfolding refusal with_statement
negated_value = refl

-- price = (weight = 1)
pub truth_compared : where_ (Two op.Eq (bare "price") (Two op.Eq (bare "weight") (number 1))) ≡ Some (KindMismatch (Some (codes "weight")))
unfolding refusal with_statement
truth_compared = refl

-- select price = 1 as x from parts
pub truth_as_item : asked (select (item_as (Two op.Eq (bare "price") (number 1)) "x" ∷ []) (table "parts" ∷ [])) ≡ Some (KindMismatch (Some (codes "price")))
unfolding refusal with_statement
truth_as_item = refl

-- select comp, sum(e) as s from parts group by comp
abbrev summed_up : Expr → Option SetupError
summed_up e = asked (grouped (item (bare "comp") ∷ sum_as e "s" ∷ []) (table "parts" ∷ []) (column "comp" ∷ []))

-- sum('x'), where no column is in it
pub sum_of_a_text_alone : summed_up (text "x") ≡ Some (KindMismatch None)
unfolding refusal with_statement
sum_of_a_text_alone = refl

-- sum(price = 1)
pub sum_of_a_truth_value : summed_up (Two op.Eq (bare "price") (number 1)) ≡ Some (KindMismatch (Some (codes "price")))
unfolding refusal with_statement
sum_of_a_truth_value = refl

-- sum(1)
pub sum_of_a_number : summed_up (number 1) ≡ None
unfolding refusal with_statement
sum_of_a_number = refl

-- update parts set weight = price + comp
pub text_in_a_set :
    refusal declared (st.Deed None (deed.Update (codes "parts") (record { column = codes "weight"; value = Two op.Add (bare "price") (bare "comp") } ∷ []) None))
    ≡ Some (KindMismatch (Some (codes "price")))
unfolding refusal with_statement
text_in_a_set = refl

-- ---- magnitudes

-- price * weight * price * weight: the product of three is named, which is a part
pub wide_part :
    where_ (Two op.Lt (Two op.Mul (Two op.Mul (Two op.Mul (bare "price") (bare "weight")) (bare "price")) (bare "weight")) (number 1)) ≡ Some (TooWide 9903520314283042199192993792)
unfolding refusal with_statement
wide_part = refl

-- the greatest number that is narrow, and the next
pub narrow_number : asked (select (item (number 9223372036854775807) ∷ []) (table "parts" ∷ [])) ≡ None
unfolding refusal with_statement digits
narrow_number = refl

pub wide_number : asked (select (item (number 9223372036854775808) ∷ []) (table "parts" ∷ [])) ≡ Some (TooWide 9223372036854775808)
unfolding refusal with_statement digits
wide_number = refl

-- a total may be shown, but neither computed with nor summed up
pub total_shown : asked (select (item (bare "total") ∷ []) (table "comps" ∷ [])) ≡ None
unfolding refusal with_statement
total_shown = refl

pub total_computed_with : asked (select (item (Two op.Add (bare "total") (number 1)) ∷ []) (table "comps" ∷ [])) ≡ Some (TooWide 85070591730234615865843651857942052865)
unfolding refusal with_statement digits
total_computed_with = refl

pub total_summed_up :
    asked (grouped (item (bare "comp") ∷ sum_as (bare "total") "s" ∷ []) (table "comps" ∷ []) (column "comp" ∷ [])) ≡ Some (TooWide 85070591730234615865843651857942052864)
unfolding refusal with_statement
total_summed_up = refl

-- price * price * price
abbrev cube : Expr
cube = Two op.Mul (Two op.Mul (bare "price") (bare "price")) (bare "price")

-- update parts set weight = CUBE, and update parts set weight = 1 where CUBE = 1
pub wide_set : refusal declared (st.Deed None (deed.Update (codes "parts") (record { column = codes "weight"; value = cube } ∷ []) None)) ≡ Some (TooWide 9903520314283042199192993792)
unfolding refusal with_statement
wide_set = refl

pub wide_filter_of_an_update :
    refusal declared (st.Deed None (deed.Update (codes "parts") (record { column = codes "weight"; value = number 1 } ∷ []) (Some (Two op.Eq cube (number 1))))) ≡ Some (TooWide 9903520314283042199192993792)
unfolding refusal with_statement
wide_filter_of_an_update = refl

-- a product of two may be set
pub narrow_set : refusal declared (st.Deed None (deed.Update (codes "parts") (record { column = codes "weight"; value = Two op.Mul (bare "price") (bare "price") } ∷ []) None)) ≡ None
unfolding refusal with_statement
narrow_set = refl

-- delete parts where CUBE = 1
pub wide_filter_of_a_delete : refusal declared (st.Deed None (deed.Delete (codes "parts") (Some (Two op.Eq cube (number 1))))) ≡ Some (TooWide 9903520314283042199192993792)
unfolding refusal with_statement
wide_filter_of_a_delete = refl

-- ---- derived tables that are read

pub stream_into_derived : refusal declared (st.Stream (codes "s") (codes "comps") false) ≡ Some (ReadsDerived (codes "comps"))
unfolding refusal with_statement
stream_into_derived = refl

-- ---- groups

-- select comp, sum(price) as s from parts
pub sum_without_groups : asked (select (item (bare "comp") ∷ sum_as (bare "price") "s" ∷ []) (table "parts" ∷ [])) ≡ Some NotGrouped
unfolding refusal with_statement
sum_without_groups = refl

-- select price, count(*) as n from parts group by comp
pub item_of_no_group : asked (grouped (item (bare "price") ∷ count_as "n" ∷ []) (table "parts" ∷ []) (column "comp" ∷ [])) ≡ Some NotGrouped
unfolding refusal with_statement
item_of_no_group = refl

-- select count(*) as n, comp from parts group by comp, symbol: may be asked, and not derived
abbrev in_another_order : QueryTree
in_another_order = grouped (count_as "n" ∷ item (bare "comp") ∷ []) (table "parts" ∷ []) (column "comp" ∷ column "symbol" ∷ [])

pub asked_in_another_order : asked in_another_order ≡ None
unfolding refusal with_statement
asked_in_another_order = refl

pub derived_in_another_order : derived in_another_order ≡ Some NotGrouped
unfolding refusal with_statement
derived_in_another_order = refl

-- derive d as select symbol, comp, count(*) as n from parts group by comp, symbol
pub groups_in_another_order :
    derived (grouped (item (bare "symbol") ∷ item (bare "comp") ∷ count_as "n" ∷ []) (table "parts" ∷ []) (column "comp" ∷ column "symbol" ∷ [])) ≡ Some NotGrouped
unfolding refusal with_statement
groups_in_another_order = refl

-- derive d as select comp, comp as again, count(*) as n from parts group by comp
pub group_column_again : derived (grouped (item (bare "comp") ∷ item_as (bare "comp") "again" ∷ count_as "n" ∷ []) (table "parts" ∷ []) (column "comp" ∷ [])) ≡ Some NotGrouped
unfolding refusal with_statement
group_column_again = refl

-- derive d as select comp, comp as again, count(*) as n from parts group by comp, comp: both are the key
abbrev grouped_twice : QueryTree
grouped_twice = grouped (item (bare "comp") ∷ item_as (bare "comp") "again" ∷ count_as "n" ∷ []) (table "parts" ∷ []) (column "comp" ∷ column "comp" ∷ [])

pub group_column_twice : derived grouped_twice ≡ None
unfolding refusal with_statement
group_column_twice = refl

-- with one item for both
pub group_column_twice_and_shown_once : derived (grouped (item (bare "comp") ∷ count_as "n" ∷ []) (table "parts" ∷ []) (column "comp" ∷ column "comp" ∷ [])) ≡ Some NotGrouped
unfolding refusal with_statement
group_column_twice_and_shown_once = refl

-- derive d as select comp from parts group by comp
pub derived_without_totals : derived (grouped (item (bare "comp") ∷ []) (table "parts" ∷ []) (column "comp" ∷ [])) ≡ Some NotGrouped
unfolding refusal with_statement
derived_without_totals = refl

-- ---- what comes first, where several causes apply

-- an unknown name behind 17 items
pub unknown_before_limits : asked (select_where (ones 17) (table "parts" ∷ []) (bare "x")) ≡ Some (Unknown (codes "x"))
unfolding refusal with_statement digits
unknown_before_limits = refl

-- select 1 as a from nope where x = 1: the table stands first
pub entries_before_filter : asked (select_where (item_as (number 1) "a" ∷ []) (table "nope" ∷ []) (Two op.Eq (bare "x") (number 1))) ≡ Some (Unknown (codes "nope"))
unfolding refusal with_statement
entries_before_filter = refl

-- a text in arithmetic before 17 items
pub limits_before_kinds : asked (select (item_as (Two op.Add (bare "comp") (number 1)) "x" ∷ ones 16) (table "parts" ∷ [])) ≡ Some (Limit limit.Columns 16)
unfolding refusal with_statement digits
limits_before_kinds = refl

-- table t (a int) limit 0
pub limits_before_key : refusal declared (st.Table (codes "t") (int "a" ∷ []) [] (Some 0)) ≡ Some (Limit limit.Rows 1048576)
unfolding refusal with_statement
limits_before_key = refl

-- where price * price * price = 'x'
pub kinds_before_magnitudes : where_ (Two op.Eq (Two op.Mul (Two op.Mul (bare "price") (bare "price")) (bare "price")) (text "x")) ≡ Some (KindMismatch (Some (codes "price")))
unfolding refusal with_statement
kinds_before_magnitudes = refl

-- where comp + 1 = symbol + 1: the left part is named
pub left_before_right : where_ (Two op.Eq (Two op.Add (bare "comp") (number 1)) (Two op.Add (bare "symbol") (number 1))) ≡ Some (KindMismatch (Some (codes "comp")))
unfolding refusal with_statement
left_before_right = refl

-- select comp + 1 as x from parts where weight
pub items_before_filter : asked (select_where (item_as (Two op.Add (bare "comp") (number 1)) "x" ∷ []) (table "parts" ∷ []) (bare "weight")) ≡ Some (KindMismatch (Some (codes "comp")))
unfolding refusal with_statement
items_before_filter = refl

-- derive d as select comp, sum(total) as s from comps group by comp
pub magnitudes_before_what_is_read :
    derived (grouped (item (bare "comp") ∷ sum_as (bare "total") "s" ∷ []) (table "comps" ∷ []) (column "comp" ∷ [])) ≡ Some (TooWide 85070591730234615865843651857942052864)
unfolding refusal with_statement
magnitudes_before_what_is_read = refl

-- derive d as select comp from comps
pub what_is_read_before_groups : derived (select (item (bare "comp") ∷ []) (table "comps" ∷ [])) ≡ Some (ReadsDerived (codes "comps"))
unfolding refusal with_statement
what_is_read_before_groups = refl

-- ---- what statements declare

-- stream s into parts marked
pub stream_declared : (with_statement declared (st.Stream (codes "s") (codes "parts") true)).streams ≡ record {
  name = codes "s";
  table = 0;
  marked = true;
  columns = txt "comp" ∷ txt "symbol" ∷ int "price" ∷ int "weight" ∷ [];
  key = 0 ∷ 1 ∷ [];
} ∷ []
unfolding with_statement
stream_declared = refl

-- table t (a int, b text, key b, a) limit 5
pub table_declared : (with_statement nothing (st.Table (codes "t") (int "a" ∷ txt "b" ∷ []) (names ("b" ∷ "a" ∷ [])) (Some 5))).tables ≡ record {
  name = codes "t";
  columns = int "a" ∷ txt "b" ∷ [];
  key = 1 ∷ 0 ∷ [];
  limit = Some 5;
  query = None;
  kept = None;
  declared = false;
} ∷ []
unfolding with_statement
table_declared = refl

-- both columns that a query groups by are the key, also where they are one column
pub key_of_one_column_twice : map (λ (table : TableDef). table.key) (with_statement declared (derive "d" grouped_twice)).tables ≡ (0 ∷ 1 ∷ []) ∷ (0 ∷ []) ∷ (0 ∷ 1 ∷ []) ∷ []
unfolding with_statement
key_of_one_column_twice = refl

-- what `weight = parts.price * 2, comp = 'x'` sets
pub sets_declared : sets_of (own_entry declared.tables (codes "parts")) (columns_of (table_named declared.tables (codes "parts"))) (record { column = codes "weight"; value = Two op.Mul (dotted "parts" "price") (number 2) } ∷ record { column = codes "comp"; value = text "x" } ∷ [])
    ≡ record { column = 3; value = tree.Mul (calc.Column 0 2) (calc.Number (pos 2)) } ∷ record { column = 0; value = calc.Text (codes "x") } ∷ []
unfolding with_statement
sets_declared = refl

-- where not (price < 3 or q.comp = 'x'), from comps, parts q
pub filter_resolved : filter_of (entries_of (outside_rules declared.tables) (select [] (table "comps" ∷ table_as "parts" "q" ∷ []))) (Some (Not (Two op.Or (Two op.Lt (bare "price") (number 3)) (Two op.Eq (dotted "q" "comp") (text "x")))))
    ≡ tree.Not (tree.Or (test.Compare cmp.Lt (calc.Column 1 2) (calc.Number (pos 3))) (test.Compare cmp.Eq (calc.Column 1 0) (calc.Text (codes "x"))))
unfolding with_statement
filter_resolved = refl
