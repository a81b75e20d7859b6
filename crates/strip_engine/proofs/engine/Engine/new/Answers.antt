use Rattle.std.proofs.Common.{◌∙◌, ap, ap₂}
use Rattle.strip_engine.specs.Built.{kept_tables}
use Rattle.strip_engine.specs.Keepers.{keepers_of}
use Rattle.strip_engine.specs.State.{fixed_of}
use Rattle.strip_model.specs.History.{empty_tables}
use Rattle.strip_engine.proofs.Keeping.{keeps_new}
use Rattle.strip_engine.proofs.engine.Engine.new.Goals as goal

pub invariant_of-result : goal.invariant_of-result
invariant_of-result c =
    let made = c.in-Ok.ensures ∙ ap empty_tables c.defs.ensures.all in
    let keeping = c.in-Ok-keepers_of.ensures ∙ ap₂ (λ defs functions. keepers_of defs (kept_tables functions)) c.defs-2.ensures.all c.functions.ensures in
    keeps_new (fixed_of c.args.catalog c.args.limits.bound_rows) c.in-Ok.tables.items c.new.result.entries c.new.result.room c.in-Ok-keepers_of.keepers.items c.new-2.result c.requires.built c.requires.bounded keeping made c.new.ensures.entries c.new-2.ensures.waiting c.new-2.ensures.running c.new-2.ensures.counts
