use Rattle.std.proofs.Common.{sym}
use Rattle.std.specs.List.{slice_get}
use Rattle.strip_value.specs.declared.tables.TableDef.{TableDef}
use Rattle.strip_names.specs.Exists.{kept_number}
use Rattle.strip_names.proofs.Steps.{list_any-filter_map}
use Rattle.strip_names.proofs.exists.is_made.Goals as goal

pub returns : goal.returns
returns c =
    let apart = list_any-filter_map (λ s. slice_get c.args.tables.now (kept_number s)) (λ (table : TableDef). table.declared) c.args.function.now.steps in
    rw (c.keep_declared.ensures, c.as_slice.ensures) (sym apart)
