use Rattle.strip_setup.proofs.Small.{query_made}
use Rattle.strip_setup.proofs.scope.Scope.query_of.Goals as goal

pub returns : goal.returns
returns c =
    query_made c.args.self.now c.args.query.now c.as_slice.result.now c.as_slice-3.result.now c.as_slice-4.result.now c.as_slice-2.result.now c.as_slice-5.result.now c.tables.result.now _ _ _ _
    (cc (c.in_ok-entries.ensures)) (cc (c.in_ok-entries.ensures)) (cc (c.in_ok-entries.ensures)) (cc) (cc) (cc)
    c.in_ok-items.ensures c.in_ok-inputs.ensures c.in_ok-filter.ensures c.in_ok-group.ensures
