use Rattle.std.proofs.Common.{sym, subst}
use Rattle.strip_setup.specs.Catalog.{Catalog}
use Rattle.strip_engine.specs.Asked.{IsAsked}
use Rattle.strip_script.proofs.ActAsked.{act_asked}
use Rattle.strip_script.proofs.script.act_on.Goals as goal

pub do_act-requires-clause-asked : goal.do_act-requires-clause-asked
do_act-requires-clause-asked c =
    let found = rw c.in-Ok.is at c.in_ok-act.ensures.stands in
    let catalog = c.catalog.result.now in
    subst (λ (k : Catalog). IsAsked k.tables c.in-Ok.act) c.catalog.ensures
    (subst (IsAsked catalog.tables) (sym found.1) (act_asked catalog c.args.deed.now c.requires.acts found.0))
