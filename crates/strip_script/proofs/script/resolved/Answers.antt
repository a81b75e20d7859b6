use Rattle.strip_ast.specs.declared.deeds.Deed.{Deed}
use Rattle.strip_ast.specs.declared.deeds.Deed.TheVariants as deed
use Rattle.strip_acts.specs.Writable.{IsAct}
use Rattle.strip_script.specs.Stages.{IsActing}
use Rattle.strip_script.proofs.script.resolved.Goals as goal

acting_is : (d : Deed) → IsActing d → IsAct d
acting_is (deed.Put table row) acts = tt
acting_is (deed.Select query) acts = tt
acting_is (deed.Show table) acts = tt
acting_is _ acts = absurd acts

pub act-requires : goal.act-requires
act-requires c = record { act = acting_is c.args.deed.now c.requires }
