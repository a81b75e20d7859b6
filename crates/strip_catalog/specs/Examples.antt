-- Statements with what they are refused for, or what they declare: a table of parts and a table derived from it.
use Rattle.std.specs.Prelude.{◌≡◌, false, codes, [], ◌∷◌, Some, None, refl}
use Prim.Native.String.{String}
use Rattle.strip_value.specs.declared.expressions.Calc.TheVariants as calc
use Rattle.strip_value.specs.declared.expressions.Test.TheVariants as test
use Rattle.strip_value.specs.declared.queries.Input.TheVariants as input
use Rattle.strip_value.specs.declared.queries.What.TheVariants as what
use Rattle.strip_value.specs.declared.tables.TableDef.{TableDef}
use Rattle.strip_value.specs.Trees as tree
use Rattle.strip_ast.specs.declared.expressions.Op.TheVariants as op
use Rattle.strip_ast.specs.declared.queries.Origin.TheVariants as origin
use Rattle.strip_ast.specs.declared.rules.EventTree.TheVariants as event
use Rattle.strip_ast.specs.declared.rules.Manner.{Manner}
use Rattle.strip_ast.specs.declared.statements.Statement.{Statement}
use Rattle.strip_ast.specs.declared.statements.Statement.TheVariants as st
use Rattle.strip_setup.specs.declared.errors.LimitKind.TheVariants as limit
use Rattle.strip_setup.specs.declared.errors.SetupError.TheVariants.{Exists, Unknown, Limit, KindMismatch, TooWide, NoKey, ReadsDerived, BoundDiffers, NotGrouped}
use Rattle.strip_setup.specs.Adds.{with_statement}
use Rattle.strip_setup.specs.Catalog.{Catalog, nothing}
use Rattle.strip_catalog.specs.Refusals.{refusal}
use Rattle.strip_setup.specs.Trees.{Two}
use Rattle.strip_catalog.specs.Writing.{bare, dotted, item, sum_as, count_as, table, table_as, moved_as, select, grouped, grouped_where, column, column_of, int, big, txt, make_table, derive, redo, function, binds, plainly, unique, rule}

-- ---- parts and what is derived from them

-- table parts (comp text, symbol text, price int, weight int, key comp, symbol)
abbrev pub parts : Statement
parts = make_table "parts" (txt "comp" ∷ txt "symbol" ∷ int "price" ∷ int "weight" ∷ []) ("comp" ∷ "symbol" ∷ [])

-- derive comps as select comp, sum(price * weight) as total, count(*) as n from parts group by comp
abbrev pub comps : Statement
comps = derive "comps" (grouped (item (bare "comp") ∷ sum_as (Two op.Mul (bare "price") (bare "weight")) "total" ∷ count_as "n" ∷ []) (table "parts" ∷ []) (column "comp" ∷ []))

-- both are declared
abbrev pub declared : Catalog
declared = with_statement (with_statement nothing parts) comps

pub parts_may_be_declared : refusal nothing parts ≡ None
unfolding refusal
parts_may_be_declared = refl

pub comps_may_be_declared : refusal (with_statement nothing parts) comps ≡ None
unfolding refusal with_statement
comps_may_be_declared = refl

abbrev pub parts_def : TableDef
parts_def = record {
  name = codes "parts";
  columns = txt "comp" ∷ txt "symbol" ∷ int "price" ∷ int "weight" ∷ [];
  key = 0 ∷ 1 ∷ [];
  limit = Some 1048576;
  query = None;
  kept = None;
  declared = false;
}

abbrev pub comps_def : TableDef
comps_def = record {
  name = codes "comps";
  columns = txt "comp" ∷ big "total" ∷ big "n" ∷ [];
  key = 0 ∷ [];
  limit = None;
  query = Some (record {
    items = record { name = codes "comp"; what = what.Plain (calc.Column 0 0) } ∷ record { name = codes "total"; what = what.Sum (tree.Mul (calc.Column 0 2) (calc.Column 0 3)) } ∷ record { name = codes "n"; what = what.Count } ∷ [];
    entries = input.Table 0 ∷ [];
    filter = test.True;
    group = Some (record { entry = 0; column = 0 } ∷ []);
  });
  kept = None;
  declared = false;
}

pub what_is_declared : declared.tables ≡ parts_def ∷ comps_def ∷ []
unfolding with_statement
what_is_declared = refl

-- ---- one refusal each

-- table parts (a int, key a)
pub table_is_there : refusal declared (make_table "parts" (int "a" ∷ []) ("a" ∷ [])) ≡ Some (Exists (codes "parts"))
unfolding refusal with_statement
table_is_there = refl

-- stream s into nope
pub stream_into_nothing : refusal declared (st.Stream (codes "s") (codes "nope") false) ≡ Some (Unknown (codes "nope"))
unfolding refusal with_statement
stream_into_nothing = refl

-- table t (a int, key a) limit 0
pub limit_of_no_rows : refusal declared (st.Table (codes "t") (int "a" ∷ []) (codes "a" ∷ []) (Some 0)) ≡ Some (Limit limit.Rows 1048576)
unfolding refusal with_statement
limit_of_no_rows = refl

-- derive d as select p.comp, count(*) as k from parts p, parts q where p.symbol = q.symbol group by p.comp
pub groups_over_two :
    refusal declared (derive "d" (grouped_where (item (dotted "p" "comp") ∷ count_as "k" ∷ []) (table_as "parts" "p" ∷ table_as "parts" "q" ∷ []) (Two op.Eq (dotted "p" "symbol") (dotted "q" "symbol")) (column_of "p" "comp" ∷ [])))
    ≡ Some (Limit limit.Entries 1)
unfolding refusal with_statement
groups_over_two = refl

-- derive d as select symbol, sum(symbol) as s from parts group by symbol
pub sum_of_a_text :
    refusal declared (derive "d" (grouped (item (bare "symbol") ∷ sum_as (bare "symbol") "s" ∷ []) (table "parts" ∷ []) (column "symbol" ∷ [])))
    ≡ Some (KindMismatch (Some (codes "symbol")))
unfolding refusal with_statement
sum_of_a_text = refl

-- table t (a int)
pub table_without_key : refusal declared (make_table "t" (int "a" ∷ []) []) ≡ Some NoKey
unfolding refusal with_statement
table_without_key = refl

-- derive d as select comp, count(*) as k from comps group by comp
pub derived_from_derived :
    refusal declared (derive "d" (grouped (item (bare "comp") ∷ count_as "k" ∷ []) (table "comps" ∷ []) (column "comp" ∷ [])))
    ≡ Some (ReadsDerived (codes "comps"))
unfolding refusal with_statement
derived_from_derived = refl

-- derive d as select symbol, price from parts
pub derived_without_groups : refusal declared (derive "d" (select (item (bare "symbol") ∷ item (bare "price") ∷ []) (table "parts" ∷ []))) ≡ Some NotGrouped
unfolding refusal with_statement
derived_without_groups = refl

-- table t (id int, a int, b int, c int, key id); derive d as select id, sum(a * b * c) as s from t group by id
pub product_of_three :
    refusal (with_statement nothing (make_table "t" (int "id" ∷ int "a" ∷ int "b" ∷ int "c" ∷ []) ("id" ∷ []))) (derive "d" (grouped (item (bare "id") ∷ sum_as (Two op.Mul (Two op.Mul (bare "a") (bare "b")) (bare "c")) "s" ∷ []) (table "t" ∷ []) (column "id" ∷ [])))
    ≡ Some (TooWide 9903520314283042199192993792)
unfolding refusal with_statement
product_of_three = refl

-- function f redo comps by b
abbrev pub f_declared : Catalog
f_declared = with_statement declared (function "f" (redo "comps" "b" ∷ []))

-- rule NAME on parts when inserted then evaluate (select i.comp from inserted i) bind as b execute f MANNER
abbrev rule_of_f : String → Manner → Statement
rule_of_f name manner = rule name "parts" (event.Inserted ∷ []) (binds (select (item (dotted "i" "comp") ∷ []) (moved_as origin.Inserted "i" ∷ [])) "b" ∷ []) "f" manner

pub first_rule : refusal f_declared (rule_of_f "r" plainly) ≡ None
unfolding refusal with_statement
first_rule = refl

pub second_rule : refusal (with_statement f_declared (rule_of_f "r" plainly)) (rule_of_f "r2" unique) ≡ Some (BoundDiffers (codes "f"))
unfolding refusal with_statement
second_rule = refl

-- the same manner, and another name
pub second_rule_alike : refusal (with_statement f_declared (rule_of_f "r" plainly)) (rule_of_f "r2" plainly) ≡ None
unfolding refusal with_statement
second_rule_alike = refl
