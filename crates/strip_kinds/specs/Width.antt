-- Numbers that may grow too wide.
use Rattle.std.specs.Prelude.{ℕ, ◌^◌, Bool, false, not, nat_le, List, [], ◌∷◌, ◌++◌, map, Option, option_map, flat_map, filter_map, filter}
use Rattle.strip_value.specs.declared.tables.TableDef.{TableDef}
use Rattle.strip_value.specs.Bounds.{magnitude_of}
use Rattle.strip_ast.specs.declared.deeds.Deed.{Deed}
use Rattle.strip_ast.specs.declared.deeds.Deed.TheVariants as deed
use Rattle.strip_ast.specs.declared.expressions.Expr.{Expr, Column}
use Rattle.strip_ast.specs.declared.queries.QueryTree.{QueryTree}
use Rattle.strip_ast.specs.declared.statements.Statement.{Statement}
use Rattle.strip_ast.specs.declared.statements.Statement.TheVariants as st
use Rattle.strip_setup.specs.declared.errors.SetupError.{SetupError}
use Rattle.strip_setup.specs.declared.errors.SetupError.TheVariants.{TooWide}
use Rattle.strip_setup.specs.Catalog.{Catalog, first}
use Rattle.strip_setup.specs.declared.answers.Answer.{Answer}
use Rattle.strip_kinds.specs.declared.needs.Fit.{Fit}
use Rattle.strip_setup.specs.declared.scope.Entry.{Entry}
use Rattle.strip_kinds.specs.Needs.{fits_of}
use Rattle.strip_setup.specs.Parts.{is_truth, Purpose, sum, Whole, parts_of, filter_wholes, query_wholes, update_wholes}
use Rattle.strip_setup.specs.Queries.{Scope, calc_of, entries_of, own_entry, kinds_of}
use Rattle.strip_setup.specs.Resolve.{outside_rules, in_rule, bindings_of, function_at}

-- a value that isn't a bare column
abbrev pub is_computed : Expr → Bool
is_computed (Column of name) = false
is_computed e = not (is_truth e)

-- the bare column that is summed up
abbrev pub summed_column : Purpose → Expr → List Expr
summed_column sum (Column of name) = Column of name ∷ []
summed_column _ e = []

-- what is bounded in an expression: its computed parts, and a bare column that is summed up
abbrev pub bounded_in : Whole → List Expr
bounded_in whole = filter is_computed (map (λ part. part.expr) (parts_of whole)) ++ summed_column whole.purpose whole.expr

-- the magnitudes that are bounded in an expression
abbrev pub magnitudes_in : List Entry → Whole → List ℕ
magnitudes_in entries whole = map (λ e. magnitude_of (kinds_of entries) (calc_of entries e)) (bounded_in whole)

-- the same of several expressions
abbrev pub magnitudes_in_all : List Entry → List Whole → List ℕ
magnitudes_in_all entries wholes = flat_map (magnitudes_in entries) wholes

-- the same of a query
abbrev pub magnitudes_in_query : Scope → QueryTree → List ℕ
magnitudes_in_query scope query = magnitudes_in_all (entries_of scope query) (query_wholes query)

-- the magnitudes of the bound columns that are added as totals
abbrev pub magnitudes_in_steps : List Fit → List ℕ
magnitudes_in_steps fits =
    filter_map (λ fit. option_map (λ (answer : Answer). answer.magnitude) fit.given) (filter (λ fit. fit.need.is_added) fits)

-- the magnitudes that are bounded in an act
abbrev pub magnitudes_in_deed : List TableDef → Deed → List ℕ
magnitudes_in_deed tables (deed.Update table sets filter) = magnitudes_in_all (own_entry tables table) (update_wholes sets filter)
magnitudes_in_deed tables (deed.Delete table filter) = magnitudes_in_all (own_entry tables table) (filter_wholes filter)
magnitudes_in_deed tables (deed.Select query) = magnitudes_in_query (outside_rules tables) query
magnitudes_in_deed tables _ = []

-- the magnitudes that are bounded in a statement
abbrev pub magnitudes : Catalog → Statement → List ℕ
magnitudes catalog (st.Derive name query) = magnitudes_in_query (outside_rules catalog.tables) query
magnitudes catalog (st.Rule name table events conditions evaluate function manner) =
    let scope = in_rule catalog.tables table in
    flat_map (λ bound. magnitudes_in_query scope bound.query) (conditions ++ evaluate)
    ++ magnitudes_in_steps (fits_of catalog.tables (function_at catalog function) (bindings_of scope (conditions ++ evaluate)))
magnitudes catalog (st.Deed caller d) = magnitudes_in_deed catalog.tables d
magnitudes catalog _ = []

-- the least magnitude that is too wide
abbrev pub least_wide : ℕ
least_wide = 2 ^ 63

-- the first of them that is so wide or wider
abbrev pub too_wide : Catalog → Statement → Option SetupError
too_wide catalog statement = option_map TooWide (first (filter (nat_le least_wide) (magnitudes catalog statement)))
