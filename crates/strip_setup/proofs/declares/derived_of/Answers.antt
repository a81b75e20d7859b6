use Rattle.strip_setup.proofs.Declared.{derived_is}
use Rattle.strip_setup.proofs.declares.derived_of.Goals as goal

pub returns : goal.returns
returns c =
    derived_is c.args.tables.now c.args.name.now _ c.args.query.now c.outside_rules-scope.result _ _ _ _ _
    c.in_ok-name.ensures c.outside_rules-scope.ensures c.in_ok-answers.ensures c.as_slice.ensures c.in_ok-columns.ensures c.in_ok-key.ensures c.in_ok-query.ensures
