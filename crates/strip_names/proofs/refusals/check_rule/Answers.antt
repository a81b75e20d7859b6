use Rattle.std.proofs.Common.{◌≡◌, List, ℕ, ◌∷◌, [], ◌++◌, option_map, filter, Err, ap}
use Rattle.std.specs.List.{flat_map}
use Rattle.std.proofs.lemmas.Result.{err_from_is_err_and}
use Rattle.strip_value.specs.declared.tables.TableDef.{TableDef}
use Rattle.strip_ast.specs.declared.rules.BoundTree.{BoundTree}
use Rattle.strip_setup.specs.declared.errors.SetupError.TheVariants.{ReadsDerived}
use Rattle.strip_setup.specs.Catalog.{first, is_derived, table_named}
use Rattle.strip_setup.specs.Parts.{names_read}
use Rattle.strip_setup.proofs.Filters.{filter-front}
use Rattle.strip_setup.proofs.Firsts.{carried, passed-append, refused-append}
use Rattle.strip_names.proofs.refusals.check_rule.Goals as goal

-- the derived tables that a query of the rule reads
abbrev derived_in : List TableDef → BoundTree → List (List ℕ)
derived_in tables bound = filter (λ name. is_derived (table_named tables name)) (names_read bound.query)

-- the cause, part by part
parts : (tables : List TableDef) (table : List ℕ) (conditions evaluate : List BoundTree) → option_map ReadsDerived (first (filter (λ name. is_derived (table_named tables name)) (table ∷ flat_map (λ bound. names_read bound.query) (conditions ++ evaluate)))) ≡ option_map ReadsDerived (first (filter (λ name. is_derived (table_named tables name)) (table ∷ []) ++ (flat_map (derived_in tables) conditions ++ flat_map (derived_in tables) evaluate)))
parts tables table conditions evaluate =
    ap (λ names. option_map ReadsDerived (first names)) (filter-front (λ name. is_derived (table_named tables name)) (λ (bound : BoundTree). names_read bound.query) table conditions evaluate)

pub returns-in_err-check_queries : goal.returns-in_err-check_queries
returns-in_err-check_queries c =
    let p = err_from_is_err_and c.from_residual-in_err-check_queries.result c.from_residual-in_err-check_queries.ensures.1 in
    rw (p.1, p.2)
    (carried _ _ (Err _) (parts c.args.tables.now c.args.table.now c.args.conditions.now c.args.evaluate.now)
    (passed-append ReadsDerived _ _ (Err _) c.in_ok-check_base.ensures
    (refused-append ReadsDerived (flat_map (derived_in c.args.tables.now) c.args.conditions.now) (flat_map (derived_in c.args.tables.now) c.args.evaluate.now) _ c.in_err-check_queries.ensures)))

pub returns : goal.returns
returns c =
    carried _ _ c.check_queries-2.result (parts c.args.tables.now c.args.table.now c.args.conditions.now c.args.evaluate.now)
    (passed-append ReadsDerived _ _ _ c.in_ok-check_base.ensures
    (passed-append ReadsDerived (flat_map (derived_in c.args.tables.now) c.args.conditions.now) (flat_map (derived_in c.args.tables.now) c.args.evaluate.now) _ c.in_ok-check_queries.ensures c.check_queries-2.ensures))
