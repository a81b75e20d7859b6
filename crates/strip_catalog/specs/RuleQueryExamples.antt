-- Queries of rules that suit tables or don't, among them those of rules that are made.
use Rattle.std.specs.Prelude.{◌≡◌, Bool, true, false, codes, List, [], ◌∷◌, ◌++◌, map, refl}
use Rattle.std.specs.List.{list_all}
use Rattle.strip_value.specs.declared.rules.BoundQuery.{BoundQuery}
use Rattle.strip_value.specs.declared.rules.Rule.{Rule}
use Rattle.strip_value.specs.declared.tables.By.TheVariants as by
use Rattle.strip_ast.specs.declared.queries.Origin.TheVariants as origin
use Rattle.strip_ast.specs.declared.queries.QueryTree.{QueryTree}
use Rattle.strip_ast.specs.declared.statements.Statement.TheVariants as st
use Rattle.strip_setup.specs.Adds.{with_statement}
use Rattle.strip_setup.specs.Queries.{query_of}
use Rattle.strip_setup.specs.Resolve.{in_rule}
use Rattle.strip_catalog.specs.Examples.{declared}
use Rattle.strip_catalog.specs.RuleQueries.{suits_in_rule}
use Rattle.strip_catalog.specs.Writing.{bare, before, column, grouped, item, moved, plainly, select, sum_as, table}

-- ---- rules that are made

-- of each rule whether all that it asks suits the tables
abbrev suit : List Rule → List Bool
suit rules = map (λ (rule : Rule). list_all (λ (one : BoundQuery). suits_in_rule declared.tables rule.table one.query) (rule.conditions ++ rule.evaluate)) rules

pub kept_by_sums : suit (with_statement declared (st.Maintain (codes "comps") by.Sum plainly)).rules ≡ true ∷ []
unfolding with_statement
kept_by_sums = refl

pub kept_by_keys : suit (with_statement declared (st.Maintain (codes "comps") by.Key plainly)).rules ≡ true ∷ []
unfolding with_statement
kept_by_keys = refl

-- ---- queries of rules on `parts`

abbrev suits : QueryTree → Bool
suits tree = suits_in_rule declared.tables 0 (query_of (in_rule declared.tables (codes "parts")) tree)

-- select price from before parts
pub asks_what_was_before : suits (select (item (bare "price") ∷ []) (before "parts" ∷ [])) ≡ true
unfolding with_statement
asks_what_was_before = refl

-- select execute_order from new
pub asks_for_the_change : suits (select (item (bare "execute_order") ∷ []) (moved origin.New ∷ [])) ≡ true
unfolding with_statement
asks_for_the_change = refl

-- select execute_order from new, comps
pub asks_of_two : suits (select (item (bare "execute_order") ∷ []) (moved origin.New ∷ table "comps" ∷ [])) ≡ true
unfolding with_statement
asks_of_two = refl

-- select comp, sum(execute_order) as s from new group by comp: the number of a change is too wide for sums
pub sums_the_change : suits (grouped (item (bare "comp") ∷ sum_as (bare "execute_order") "s" ∷ []) (moved origin.New ∷ []) (column "comp" ∷ [])) ≡ false
unfolding with_statement
sums_the_change = refl
