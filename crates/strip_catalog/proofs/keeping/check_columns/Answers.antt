use Rattle.std.proofs.Common.{ℕ, List, [], ◌∷◌, option_map, Err, ap, ◌∙◌}
use Rattle.std.proofs.lemmas.Result.{err_from_is_err_and}
use Rattle.strip_setup.specs.declared.errors.SetupError.TheVariants.{NotBound}
use Rattle.strip_setup.specs.Catalog.{first}
use Rattle.strip_names.specs.Unknown.{missing, names_of}
use Rattle.strip_names.proofs.Absent.{missing_each}
use Rattle.strip_setup.proofs.Firsts.{carried, passed-item, refused-item}
use Rattle.strip_catalog.proofs.keeping.check_columns.Goals as goal

pub loop-name-init : goal.loop-name-init
loop-name-init c = missing_each (names_of c.args.columns.now) c.args.names.now

pub returns-in_err-check_column : goal.returns-in_err-check_column
returns-in_err-check_column c =
    let p = err_from_is_err_and c.from_residual.result c.from_residual.ensures.1 in
    rw (p.1, p.2)
    (carried _ _ (Err _) (ap (λ names. option_map NotBound (first names)) c.loop-name.invariant)
    (refused-item NotBound (λ (name : List ℕ). missing (names_of c.args.columns.now) (name ∷ []))
    c.args.names.now c.loop-name.name-index c.name-item.result _ c.loop-name-test.true c.name-item.is c.in_err-check_column.ensures))

pub loop-name-preserved : goal.loop-name-preserved
loop-name-preserved c =
    c.loop-name.invariant ∙ passed-item NotBound (λ (name : List ℕ). missing (names_of c.args.columns.now) (name ∷ [])) c.args.names.now c.loop-name.name-index c.name-item.result c.loop-name-test.true c.name-item.is c.in_ok-check_column.ensures
