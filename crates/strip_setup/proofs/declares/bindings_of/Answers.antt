use Rattle.strip_setup.proofs.Declared.{both_bound}
use Rattle.strip_setup.proofs.declares.bindings_of.Goals as goal

pub returns : goal.returns
returns c =
    both_bound c.args.scope.now c.args.conditions.now c.args.evaluate.now _ _ _ c.new-made.ensures c.in_ok-push_bindings.ensures c.in_ok-push_bindings-2.ensures
