use Rattle.std.proofs.Common.{sym, subst}
use Rattle.strip_setup.specs.Catalog.{Catalog}
use Rattle.strip_catalog.specs.Accepted.{IsDeclared}
use Rattle.strip_engine.specs.Built.{IsBuilt}
use Rattle.strip_engine.specs.State.{fixed_of}
use Rattle.strip_script.proofs.BuiltStays.{built_stays, declared_stays}
use Rattle.strip_script.proofs.BuiltSteps.{refused_adds, refused_step}
use Rattle.strip_script.proofs.setup.set_up.Goals as goal

pub stage_after-requires : goal.stage_after-requires
stage_after-requires c =
    let added = c.in-Ok.ensures in
    let steady = c.requires.open.0 in
    record {
      declared = subst IsDeclared (sym added.1) (declared_stays c.args.catalog c.args.statement.now steady.declared c.requires.early c.requires.text added.0);
      built =
          subst (λ (catalog : Catalog). IsBuilt (fixed_of catalog c.args.limits.bound_rows)) (sym added.1)
          (built_stays c.args.catalog c.args.limits.bound_rows c.args.statement.now steady.declared steady.built c.requires.early c.requires.built c.requires.text added.0);
      bounded = steady.bounded;
    }

pub returns-in_ok-text-in-Err : goal.returns-in_ok-text-in-Err
returns-in_ok-text-in-Err c =
    let text = c.in_ok-text-in-Err in
    let refused = refused_adds c.args.catalog c.declare.new.catalog c.args.statement.now c.in-Err.error text.ensures.refused c.in-Err.ensures in
    refused_step c.args.limits.bound_rows c.args.catalog c.args.statement.now c.requires.early c.refuse_with.result c.declare.new.catalog c.in-Err.error text.text.items refused.0 refused.1 text.ensures.text c.refuse_with.ensures
