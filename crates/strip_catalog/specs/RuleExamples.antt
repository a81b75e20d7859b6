-- Functions and rules with what they are refused for, or what they declare.
use Rattle.std.specs.Prelude.{◌≡◌, ℕ, true, codes, pos, List, [], ◌∷◌, map, replicate, Option, Some, None, refl}
use Rattle.strip_value.specs.declared.expressions.Calc.TheVariants as calc
use Rattle.strip_value.specs.declared.expressions.Test.TheVariants as test
use Rattle.strip_value.specs.declared.queries.Input.TheVariants as input
use Rattle.strip_value.specs.declared.queries.What.TheVariants as what
use Rattle.strip_value.specs.declared.rules.Event.TheVariants as bound_event
use Rattle.strip_value.specs.declared.rules.Step.TheVariants as bound_step
use Rattle.strip_value.specs.declared.tables.By.{By}
use Rattle.strip_value.specs.declared.tables.By.TheVariants as by
use Rattle.strip_ast.specs.declared.expressions.Op.TheVariants as op
use Rattle.strip_ast.specs.declared.queries.ItemTree.{ItemTree}
use Rattle.strip_ast.specs.declared.queries.Origin.TheVariants as origin
use Rattle.strip_ast.specs.declared.queries.QueryTree.{QueryTree}
use Rattle.strip_ast.specs.declared.rules.BoundTree.{BoundTree}
use Rattle.strip_ast.specs.declared.rules.EventTree.TheVariants as event
use Rattle.strip_ast.specs.declared.rules.Manner.{Manner}
use Rattle.strip_ast.specs.declared.rules.StepTree.{StepTree}
use Rattle.strip_ast.specs.declared.statements.Statement.{Statement}
use Rattle.strip_ast.specs.declared.statements.Statement.TheVariants as st
use Rattle.strip_setup.specs.declared.errors.LimitKind.TheVariants as limit
use Rattle.strip_setup.specs.declared.errors.SetupError.{SetupError}
use Rattle.strip_setup.specs.declared.errors.SetupError.TheVariants.{Exists, Unknown, Limit, KindMismatch, TooWide, ReadsDerived, NotBound, BoundDiffers, NotGrouped}
use Rattle.strip_setup.specs.Adds.{with_statement}
use Rattle.strip_setup.specs.Catalog.{Catalog}
use Rattle.strip_catalog.specs.Examples.{declared, parts_def, comps_def, f_declared}
use Rattle.strip_catalog.specs.Refusals.{refusal}
use Rattle.strip_setup.specs.Trees.{Two}
use Rattle.strip_catalog.specs.Writing.{bare, dotted, number, item, item_as, sum_as, count_as, table, before, moved, moved_as, select, select_where, column, grouped, int, big, txt, make_table, add, redo, function, asks, binds, plainly, unique_on, after, updated, rule}

-- ---- functions

-- why `function f STEPS` is refused
abbrev function_of : List StepTree → Option SetupError
function_of steps = refusal declared (function "f" steps)

-- function f add b into comps
abbrev f : Statement
f = function "f" (add "b" "comps" ∷ [])

pub function_may_be_declared : refusal declared f ≡ None
unfolding refusal with_statement
function_may_be_declared = refl

pub function_is_there : refusal (with_statement declared f) f ≡ Some (Exists (codes "f"))
unfolding refusal with_statement
function_is_there = refl

pub step_into_nothing : function_of (redo "comps" "b" ∷ add "b" "nope" ∷ []) ≡ Some (Unknown (codes "nope"))
unfolding refusal with_statement
step_into_nothing = refl

pub step_into_a_base_table : function_of (add "b" "parts" ∷ []) ≡ Some (Unknown (codes "parts"))
unfolding refusal with_statement
step_into_a_base_table = refl

-- the table isn't derived, so it isn't kept either
pub steps_of_both_kinds_into_a_base_table : function_of (add "b" "parts" ∷ redo "parts" "b" ∷ []) ≡ Some (Unknown (codes "parts"))
unfolding refusal with_statement
steps_of_both_kinds_into_a_base_table = refl

pub steps_of_both_kinds : function_of (add "b" "comps" ∷ redo "comps" "b" ∷ []) ≡ Some (Exists (codes "comps"))
unfolding refusal with_statement
steps_of_both_kinds = refl

-- also where the other step is another function's
pub functions_of_both_kinds : refusal (with_statement declared f) (function "g" (redo "comps" "c" ∷ [])) ≡ Some (Exists (codes "comps"))
unfolding refusal with_statement
functions_of_both_kinds = refl

pub functions_of_one_kind : refusal (with_statement declared f) (function "g" (add "c" "comps" ∷ [])) ≡ None
unfolding refusal with_statement
functions_of_one_kind = refl

pub five_steps : function_of (add "b" "comps" ∷ add "b" "comps" ∷ add "b" "comps" ∷ add "b" "comps" ∷ add "b" "comps" ∷ []) ≡ Some (Limit limit.Steps 4)
unfolding refusal with_statement
five_steps = refl

-- five steps of both kinds: what is taken comes before what is too much
pub five_steps_of_both_kinds : function_of (add "b" "comps" ∷ add "b" "comps" ∷ add "b" "comps" ∷ add "b" "comps" ∷ redo "comps" "b" ∷ []) ≡ Some (Exists (codes "comps"))
unfolding refusal with_statement
five_steps_of_both_kinds = refl

pub four_steps : function_of (add "b" "comps" ∷ add "c" "comps" ∷ add "b" "comps" ∷ add "b" "comps" ∷ []) ≡ None
unfolding refusal with_statement
four_steps = refl

-- so many functions that are there, under one name
abbrev with_functions : ℕ → Catalog
with_functions n = record declared { functions = replicate n (record { name = codes "g"; steps = []; bound = [] }) }

pub function_64 : refusal (with_functions 63) f ≡ None
unfolding refusal with_statement
function_64 = refl

pub function_65 : refusal (with_functions 64) f ≡ Some (Limit limit.Functions 64)
unfolding refusal with_statement
function_65 = refl

-- what a function declares: bound tables in the order of first mention, without columns
pub steps_as_numbers : (with_statement declared (function "g" (add "b" "comps" ∷ add "c" "comps" ∷ add "b" "comps" ∷ []))).functions ≡ record {
  name = codes "g";
  steps = bound_step.Add 0 1 ∷ bound_step.Add 1 1 ∷ bound_step.Add 0 1 ∷ [];
  bound = record { name = codes "b"; columns = [] } ∷ record { name = codes "c"; columns = [] } ∷ [];
} ∷ []
unfolding with_statement
steps_as_numbers = refl

-- and its tables are kept so
pub tables_are_kept : map (λ table. table.kept) (with_statement declared f).tables ≡ None ∷ Some by.Sum ∷ []
unfolding with_statement
tables_are_kept = refl

pub tables_are_kept_by_keys : map (λ table. table.kept) (with_statement declared (function "g" (redo "comps" "b" ∷ []))).tables ≡ None ∷ Some by.Key ∷ []
unfolding with_statement
tables_are_kept_by_keys = refl

-- what no step of a further function names is kept as before
pub tables_stay_kept : map (λ table. table.kept) (with_statement (with_statement declared f) (function "g" [])).tables ≡ None ∷ Some by.Sum ∷ []
unfolding with_statement
tables_stay_kept = refl

-- the same two tables, of which the derived one alone was declared with the function that keeps it, by this one step
abbrev kept : StepTree → By → Catalog
kept s how = record (with_statement declared (function "keep_comps" (s ∷ []))) { tables = parts_def ∷ record comps_def { kept = Some how; declared = true } ∷ [] }

-- by `add delta_comps into comps`, and by `redo comps by changed_comps`
abbrev kept_by_sums : Catalog
kept_by_sums = kept (add "delta_comps" "comps") by.Sum

abbrev kept_by_keys : Catalog
kept_by_keys = kept (redo "comps" "changed_comps") by.Key

-- no other function's step may keep it, of the same kind either
pub step_into_a_declared_table : refusal kept_by_sums (function "g" (add "b" "comps" ∷ [])) ≡ Some (Exists (codes "comps"))
unfolding refusal with_statement
step_into_a_declared_table = refl

pub redo_of_a_declared_table : refusal kept_by_keys (function "g" (redo "comps" "b" ∷ [])) ≡ Some (Exists (codes "comps"))
unfolding refusal with_statement
redo_of_a_declared_table = refl

-- and no further rule may have its function
pub made_function : refusal kept_by_sums (rule "r" "parts" (event.Inserted ∷ []) [] "keep_comps" plainly) ≡ Some (Exists (codes "keep_comps"))
unfolding refusal with_statement
made_function = refl

pub made_function_that_redoes : refusal kept_by_keys (rule "r" "parts" (event.Inserted ∷ []) [] "keep_comps" plainly) ≡ Some (Exists (codes "keep_comps"))
unfolding refusal with_statement
made_function_that_redoes = refl

-- the same function, where its table isn't declared
pub function_that_was_not_made :
    refusal (with_statement declared (function "keep_comps" (add "delta_comps" "comps" ∷ []))) (rule "r" "parts" (event.Inserted ∷ []) (binds (select (item (bare "comp") ∷ item_as (bare "price") "total" ∷ item_as (number 1) "n" ∷ []) (moved origin.Inserted ∷ [])) "delta_comps" ∷ []) "keep_comps" plainly)
    ≡ None
unfolding refusal with_statement
function_that_was_not_made = refl

-- ---- rules of a function that adds

-- the function f is declared too
abbrev added : Catalog
added = with_statement declared f

-- why `rule r on parts when inserted then evaluate QUERIES execute f MANNER` is refused
abbrev rule_of : List BoundTree → Manner → Option SetupError
rule_of queries manner = refusal added (rule "r" "parts" (event.Inserted ∷ []) queries "f" manner)

-- select ITEMS from inserted
abbrev inserted : List ItemTree → QueryTree
inserted items = select items (moved origin.Inserted ∷ [])

-- (select comp, price as total, 1 as n from inserted) bind as b
abbrev needed : BoundTree
needed = binds (inserted (item (bare "comp") ∷ item_as (bare "price") "total" ∷ item_as (number 1) "n" ∷ [])) "b"

pub rule_may_be_declared : rule_of (needed ∷ []) plainly ≡ None
unfolding refusal with_statement
rule_may_be_declared = refl

-- a further column, and a query that binds nothing
pub further_columns :
    rule_of (binds (inserted (item (bare "symbol") ∷ item (bare "comp") ∷ item_as (bare "price") "total" ∷ item_as (number 1) "n" ∷ [])) "b" ∷ asks (inserted (item (bare "price") ∷ [])) ∷ []) plainly ≡ None
unfolding refusal with_statement
further_columns = refl

-- old and new rows of one change, and a table as it stood before
pub old_and_new :
    rule_of (binds (select_where (item (dotted "q" "comp") ∷ item_as (Two op.Sub (dotted "q" "price") (dotted "o" "price")) "total" ∷ item_as (number 0) "n" ∷ []) (moved_as origin.Old "o" ∷ moved_as origin.New "q" ∷ before "parts" ∷ []) (Two op.Eq (dotted "o" "execute_order") (dotted "q" "execute_order"))) "b" ∷ []) plainly
    ≡ None
unfolding refusal with_statement
old_and_new = refl

-- ---- taken and unknown names

pub rule_is_there : refusal (with_statement added (rule "r" "parts" (event.Inserted ∷ []) (needed ∷ []) "f" plainly)) (rule "r" "nope" (event.Inserted ∷ []) [] "f" plainly) ≡ Some (Exists (codes "r"))
unfolding refusal with_statement
rule_is_there = refl

pub event_column_twice : refusal added (rule "r" "parts" (updated ("price" ∷ "price" ∷ []) ∷ []) (needed ∷ []) "f" plainly) ≡ Some (Exists (codes "price"))
unfolding refusal with_statement
event_column_twice = refl

pub unique_column_twice : rule_of (needed ∷ []) (unique_on ("comp" ∷ "comp" ∷ [])) ≡ Some (Exists (codes "comp"))
unfolding refusal with_statement
unique_column_twice = refl

pub event_of_no_column : refusal added (rule "r" "parts" (updated ("price" ∷ "total" ∷ []) ∷ []) (needed ∷ []) "nope" plainly) ≡ Some (Unknown (codes "total"))
unfolding refusal with_statement
event_of_no_column = refl

pub rule_on_nothing : refusal added (rule "r" "nope" (event.Inserted ∷ []) (needed ∷ []) "f" plainly) ≡ Some (Unknown (codes "nope"))
unfolding refusal with_statement
rule_on_nothing = refl

pub rule_of_no_function : refusal added (rule "r" "parts" (event.Inserted ∷ []) (needed ∷ []) "g" plainly) ≡ Some (Unknown (codes "g"))
unfolding refusal with_statement
rule_of_no_function = refl

pub queries_before_the_function : refusal added (rule "r" "parts" (event.Inserted ∷ []) (asks (inserted (item (bare "x") ∷ [])) ∷ []) "g" plainly) ≡ Some (Unknown (codes "x"))
unfolding refusal with_statement
queries_before_the_function = refl

-- `execute_order` is a column of transition tables alone
pub order_of_a_table : rule_of (asks (select (item (bare "execute_order") ∷ []) (table "parts" ∷ [])) ∷ []) plainly ≡ Some (Unknown (codes "execute_order"))
unfolding refusal with_statement
order_of_a_table = refl

-- a table's own column of that name is meant before the number of the change: here it is a text
pub order_of_its_own :
    refusal (with_statement added (make_table "t" (txt "execute_order" ∷ []) ("execute_order" ∷ []))) (rule "r" "t" (event.Inserted ∷ []) (binds (inserted (item_as (bare "execute_order") "comp" ∷ item_as (number 1) "total" ∷ item_as (number 1) "n" ∷ [])) "b" ∷ []) "f" plainly)
    ≡ None
unfolding refusal with_statement
order_of_its_own = refl

-- ---- limits

-- so many times `(select price from inserted)`
abbrev queries : ℕ → List BoundTree
queries n = replicate n (asks (inserted (item (bare "price") ∷ [])))

pub eight_queries : rule_of (needed ∷ queries 7) plainly ≡ None
unfolding refusal with_statement
eight_queries = refl

pub nine_queries : rule_of (needed ∷ queries 8) (after 4294967296) ≡ Some (Limit limit.Queries 8)
unfolding refusal with_statement
nine_queries = refl

pub long_delay : rule_of (needed ∷ []) (after 4294967296) ≡ Some (Limit limit.Delay 4294967295)
unfolding refusal with_statement
long_delay = refl

pub longest_delay : rule_of (needed ∷ []) (after 4294967295) ≡ None
unfolding refusal with_statement
longest_delay = refl

-- so many rules that are there, under one name
abbrev with_rules : ℕ → Catalog
with_rules n = record added {
  rules = replicate n (record { name = codes "q"; table = 0; events = []; conditions = []; evaluate = []; function = 1; unique = None; after = 0 });
}

pub rule_128 : refusal (with_rules 127) (rule "r" "parts" (event.Inserted ∷ []) (needed ∷ []) "f" plainly) ≡ None
unfolding refusal with_statement
rule_128 = refl

pub rule_129 : refusal (with_rules 128) (rule "r" "parts" (event.Inserted ∷ []) (needed ∷ []) "f" plainly) ≡ Some (Limit limit.Rules 128)
unfolding refusal with_statement
rule_129 = refl

-- ---- kinds and magnitudes

-- (select price as comp, price as total, 1 as n from inserted) bind as b
pub number_for_a_text : rule_of (binds (inserted (item_as (bare "price") "comp" ∷ item_as (bare "price") "total" ∷ item_as (number 1) "n" ∷ [])) "b" ∷ []) plainly ≡ Some (KindMismatch (Some (codes "comp")))
unfolding refusal with_statement
number_for_a_text = refl

-- (select comp, symbol as total from inserted) bind as b: `n` isn't bound, but kinds come first
pub text_for_a_total : rule_of (binds (inserted (item (bare "comp") ∷ item_as (bare "symbol") "total" ∷ [])) "b" ∷ []) plainly ≡ Some (KindMismatch (Some (codes "total")))
unfolding refusal with_statement
text_for_a_total = refl

-- unique on (comp), where two tables are bound, one with a text and one with a number
pub unique_of_two_kinds : rule_of (needed ∷ binds (inserted (item_as (bare "price") "comp" ∷ [])) "c" ∷ []) (unique_on ("comp" ∷ [])) ≡ Some (KindMismatch (Some (codes "comp")))
unfolding refusal with_statement
unique_of_two_kinds = refl

-- the same after a step's column of another kind, and that after a query's expression
pub steps_before_unique :
    rule_of (binds (inserted (item_as (bare "price") "comp" ∷ item_as (bare "price") "total" ∷ item_as (number 1) "n" ∷ [])) "b" ∷ binds (inserted (item_as (bare "symbol") "total" ∷ [])) "c" ∷ []) (unique_on ("total" ∷ []))
    ≡ Some (KindMismatch (Some (codes "comp")))
unfolding refusal with_statement
steps_before_unique = refl

pub expressions_before_steps :
    rule_of (binds (inserted (item_as (bare "price") "comp" ∷ item_as (bare "price") "total" ∷ item_as (number 1) "n" ∷ [])) "b" ∷ asks (select_where (item (bare "price") ∷ []) (moved origin.Inserted ∷ []) (bare "weight")) ∷ []) plainly
    ≡ Some (KindMismatch (Some (codes "weight")))
unfolding refusal with_statement
expressions_before_steps = refl

-- (select comp, execute_order as total, 1 as n from inserted) bind as b
pub wide_total : rule_of (binds (inserted (item (bare "comp") ∷ item_as (bare "execute_order") "total" ∷ item_as (number 1) "n" ∷ [])) "b" ∷ []) plainly ≡ Some (TooWide 85070591730234615865843651857942052864)
unfolding refusal with_statement
wide_total = refl

-- (select comp, sum(price) as total, count(*) as n from inserted group by comp) bind as b: a sum may be as wide as a
-- column of the kind `big`, so it can't be added
pub total_of_a_grouped_query :
    rule_of (binds (grouped (item (bare "comp") ∷ sum_as (bare "price") "total" ∷ count_as "n" ∷ []) (moved origin.Inserted ∷ []) (column "comp" ∷ [])) "b" ∷ []) plainly
    ≡ Some (TooWide 85070591730234615865843651857942052864)
unfolding refusal with_statement
total_of_a_grouped_query = refl

-- a step that redoes needs the key alone: (select price as comp from inserted) bind as b for `redo comps by b`
pub number_for_a_key_that_is_redone :
    refusal f_declared (rule "r" "parts" (event.Inserted ∷ []) (binds (inserted (item_as (bare "price") "comp" ∷ [])) "b" ∷ []) "f" plainly) ≡ Some (KindMismatch (Some (codes "comp")))
unfolding refusal with_statement
number_for_a_key_that_is_redone = refl

-- and no totals, so they may have any kind and be as wide as they can
pub totals_beside_a_key_that_is_redone :
    refusal f_declared (rule "r" "parts" (event.Inserted ∷ []) (binds (inserted (item (bare "comp") ∷ item_as (bare "execute_order") "total" ∷ item_as (bare "symbol") "n" ∷ [])) "b" ∷ []) "f" plainly) ≡ None
unfolding refusal with_statement
totals_beside_a_key_that_is_redone = refl

-- ---- derived tables that are read

pub rule_on_a_derived_table : refusal added (rule "r" "comps" (event.Inserted ∷ []) [] "f" plainly) ≡ Some (ReadsDerived (codes "comps"))
unfolding refusal with_statement
rule_on_a_derived_table = refl

pub query_of_a_derived_table : rule_of (needed ∷ asks (select (item (bare "n") ∷ []) (before "comps" ∷ [])) ∷ []) plainly ≡ Some (ReadsDerived (codes "comps"))
unfolding refusal with_statement
query_of_a_derived_table = refl

-- ---- what must be bound

pub table_not_bound : rule_of (asks (inserted (item (bare "comp") ∷ [])) ∷ []) plainly ≡ Some (NotBound (codes "b"))
unfolding refusal with_statement
table_not_bound = refl

pub total_not_bound : rule_of (binds (inserted (item (bare "comp") ∷ item_as (bare "price") "total" ∷ [])) "b" ∷ []) plainly ≡ Some (NotBound (codes "n"))
unfolding refusal with_statement
total_not_bound = refl

-- of several columns the first that is needed, and steps before `unique on`
pub key_not_bound : rule_of (binds (inserted (item (bare "price") ∷ [])) "b" ∷ []) (unique_on ("symbol" ∷ [])) ≡ Some (NotBound (codes "comp"))
unfolding refusal with_statement
key_not_bound = refl

-- each query that binds the table must bind them; that the two differ comes later
pub total_not_bound_by_the_second : rule_of (needed ∷ binds (inserted (item (bare "comp") ∷ item_as (bare "price") "total" ∷ [])) "b" ∷ []) plainly ≡ Some (NotBound (codes "n"))
unfolding refusal with_statement
total_not_bound_by_the_second = refl

pub unique_not_bound : rule_of (needed ∷ []) (unique_on ("comp" ∷ "symbol" ∷ [])) ≡ Some (NotBound (codes "symbol"))
unfolding refusal with_statement
unique_not_bound = refl

-- each bound table must have them
pub unique_not_bound_by_one : rule_of (needed ∷ binds (inserted (item (bare "symbol") ∷ [])) "c" ∷ []) (unique_on ("comp" ∷ [])) ≡ Some (NotBound (codes "comp"))
unfolding refusal with_statement
unique_not_bound_by_one = refl

-- a total may tell actions apart
pub unique_on_a_total : rule_of (needed ∷ []) (unique_on ("total" ∷ [])) ≡ None
unfolding refusal with_statement
unique_on_a_total = refl

-- ---- what is bound differently

-- (select comp, 0 + price as total, 1 as n from inserted) bind as b: the total is computed
pub other_kind : rule_of (needed ∷ binds (inserted (item (bare "comp") ∷ item_as (Two op.Add (number 0) (bare "price")) "total" ∷ item_as (number 1) "n" ∷ [])) "b" ∷ []) plainly ≡ Some (BoundDiffers (codes "f"))
unfolding refusal with_statement
other_kind = refl

-- (select comp, 1 as n, price as total from inserted) bind as b
pub other_order : rule_of (needed ∷ binds (inserted (item (bare "comp") ∷ item_as (number 1) "n" ∷ item_as (bare "price") "total" ∷ [])) "b" ∷ []) plainly ≡ Some (BoundDiffers (codes "f"))
unfolding refusal with_statement
other_order = refl

pub twice_alike : rule_of (needed ∷ needed ∷ []) plainly ≡ None
unfolding refusal with_statement
twice_alike = refl

-- (select price from inserted) bind as c
abbrev further : BoundTree
further = binds (inserted (item (bare "price") ∷ [])) "c"

-- why a second rule of f is refused, after one of these queries and this manner
abbrev after_rule : List BoundTree → Manner → List BoundTree → Manner → Option SetupError
after_rule first_queries first_manner queries_ manner =
    refusal (with_statement added (rule "r" "parts" (event.Inserted ∷ []) first_queries "f" first_manner)) (rule "q" "parts" (event.Deleted ∷ []) queries_ "f" manner)

pub later_rule_alike : after_rule (needed ∷ further ∷ []) plainly (needed ∷ needed ∷ further ∷ []) (after 5) ≡ None
unfolding refusal with_statement
later_rule_alike = refl

pub later_rule_binds_less : after_rule (needed ∷ further ∷ []) plainly (needed ∷ []) plainly ≡ Some (BoundDiffers (codes "f"))
unfolding refusal with_statement
later_rule_binds_less = refl

pub later_rule_binds_in_another_order : after_rule (needed ∷ further ∷ []) plainly (further ∷ needed ∷ []) plainly ≡ Some (BoundDiffers (codes "f"))
unfolding refusal with_statement
later_rule_binds_in_another_order = refl

pub later_rule_is_unique_otherwise : after_rule (needed ∷ []) (unique_on ("comp" ∷ "n" ∷ [])) (needed ∷ []) (unique_on ("n" ∷ "comp" ∷ [])) ≡ Some (BoundDiffers (codes "f"))
unfolding refusal with_statement
later_rule_is_unique_otherwise = refl

-- ---- groups

-- (select sum(price) as s from inserted)
pub sum_without_groups : rule_of (needed ∷ asks (inserted (sum_as (bare "price") "s" ∷ [])) ∷ []) plainly ≡ Some NotGrouped
unfolding refusal with_statement
sum_without_groups = refl

-- (select count(*) as k from inserted)
pub count_without_groups : rule_of (needed ∷ asks (inserted (count_as "k" ∷ [])) ∷ []) plainly ≡ Some NotGrouped
unfolding refusal with_statement
count_without_groups = refl

-- (select count(*) as k, comp from inserted group by comp)
pub count_with_groups : rule_of (needed ∷ asks (grouped (count_as "k" ∷ item (bare "comp") ∷ []) (moved origin.Inserted ∷ []) (column "comp" ∷ [])) ∷ []) plainly ≡ None
unfolding refusal with_statement
count_with_groups = refl

-- ---- conditions

-- why `rule r on parts when inserted if (QUERY) then evaluate .. bind as b execute f` is refused
abbrev if_ : QueryTree → Option SetupError
if_ query = refusal added (st.Rule (codes "r") (codes "parts") (event.Inserted ∷ []) (asks query ∷ []) (needed ∷ []) (codes "f") plainly)

pub condition_with_an_item_twice : if_ (inserted (item (bare "price") ∷ item (bare "price") ∷ [])) ≡ Some (Exists (codes "price"))
unfolding refusal with_statement
condition_with_an_item_twice = refl

pub condition_on_no_column : if_ (inserted (item (bare "total") ∷ [])) ≡ Some (Unknown (codes "total"))
unfolding refusal with_statement
condition_on_no_column = refl

pub condition_of_four_entries : if_ (select (item_as (number 1) "x" ∷ []) (moved origin.Old ∷ moved origin.New ∷ moved origin.Inserted ∷ moved origin.Deleted ∷ [])) ≡ Some (Limit limit.Entries 3)
unfolding refusal with_statement
condition_of_four_entries = refl

pub condition_of_two_kinds : if_ (select_where (item (bare "price") ∷ []) (moved origin.Inserted ∷ []) (Two op.Eq (number 1) (bare "comp"))) ≡ Some (KindMismatch (Some (codes "comp")))
unfolding refusal with_statement
condition_of_two_kinds = refl

pub wide_condition : if_ (inserted (item_as (Two op.Mul (Two op.Mul (bare "price") (bare "price")) (bare "price")) "x" ∷ [])) ≡ Some (TooWide 9903520314283042199192993792)
unfolding refusal with_statement
wide_condition = refl

pub condition_on_a_derived_table : if_ (select (item (bare "n") ∷ []) (table "comps" ∷ [])) ≡ Some (ReadsDerived (codes "comps"))
unfolding refusal with_statement
condition_on_a_derived_table = refl

-- the condition binds the table too, without `n`
pub condition_that_binds_too_little :
    refusal added (st.Rule (codes "r") (codes "parts") (event.Inserted ∷ []) (binds (inserted (item (bare "comp") ∷ item_as (bare "price") "total" ∷ [])) "b" ∷ []) (needed ∷ []) (codes "f") plainly)
    ≡ Some (NotBound (codes "n"))
unfolding refusal with_statement
condition_that_binds_too_little = refl

-- rule r on parts when updated (weight), deleted if (select price from inserted) bind as c
-- then evaluate (select comp, price as total, 1 as n from inserted) bind as b execute f after 7
abbrev full : Statement
full = st.Rule (codes "r") (codes "parts") (updated ("weight" ∷ []) ∷ event.Deleted ∷ []) (further ∷ []) (needed ∷ []) (codes "f") (record { unique = None; after = 7 })

-- the condition binds the other name first, as the earlier rule's does
pub condition_that_binds_first : refusal (with_statement added full) (st.Rule (codes "q") (codes "parts") (event.Inserted ∷ []) (further ∷ []) (needed ∷ []) (codes "f") plainly) ≡ None
unfolding refusal with_statement
condition_that_binds_first = refl

pub condition_that_binds_last : refusal (with_statement added full) (st.Rule (codes "q") (codes "parts") (event.Inserted ∷ []) (needed ∷ []) (further ∷ []) (codes "f") plainly) ≡ Some (BoundDiffers (codes "f"))
unfolding refusal with_statement
condition_that_binds_last = refl

pub condition_without_groups : if_ (inserted (count_as "k" ∷ [])) ≡ Some NotGrouped
unfolding refusal with_statement
condition_without_groups = refl

-- ---- what a rule declares

pub full_may_be_declared : refusal added full ≡ None
unfolding refusal with_statement
full_may_be_declared = refl

-- the bound tables of the function stand first, though the rule binds the other one first
pub what_the_function_binds : map (λ function. function.bound) (with_statement added full).functions ≡ (record { name = codes "b"; columns = txt "comp" ∷ int "total" ∷ big "n" ∷ [] } ∷ record { name = codes "c"; columns = int "price" ∷ [] } ∷ []) ∷ []
unfolding with_statement
what_the_function_binds = refl

pub what_the_rule_is : (with_statement added full).rules ≡ record {
  name = codes "r";
  table = 0;
  events = bound_event.Updated (3 ∷ []) ∷ bound_event.Deleted ∷ [];
  conditions = record {
    query = record { items = record { name = codes "price"; what = what.Plain (calc.Column 0 2) } ∷ []; entries = input.Inserted ∷ []; filter = test.True; group = None };
    bound = Some 1;
  } ∷ [];
  evaluate = record {
    query = record {
      items = record { name = codes "comp"; what = what.Plain (calc.Column 0 0) } ∷ record { name = codes "total"; what = what.Plain (calc.Column 0 2) } ∷ record { name = codes "n"; what = what.Plain (calc.Number (pos 1)) } ∷ [];
      entries = input.Inserted ∷ [];
      filter = test.True;
      group = None;
    };
    bound = Some 0;
  } ∷ [];
  function = 0;
  unique = None;
  after = 7;
} ∷ []
unfolding with_statement
what_the_rule_is = refl
