use Rattle.std.proofs.Common.{◌≡◌, List, [], IfOk, ap, sym, subst, ◌∙◌}
use Rattle.strip_value.specs.declared.changes.Moved.{Moved}
use Rattle.strip_value.specs.Bounds.{Suits}
use Rattle.strip_value.specs.Query.{Environment, mean, mean_now, nothing_moved}
use Rattle.strip_value.specs.Table.{Keyed}
use Rattle.strip_eval.specs.Reads.{ReadsFew}
use Rattle.strip_engine.specs.Asked.{standing}
use Rattle.strip_engine.proofs.Asked.{query_asked, query_few}
use Rattle.strip_engine.proofs.asking.rows_now.Goals as goal

stands : (tables : List Keyed) (env : Environment) (moved : Moved) → env ≡ record { now = tables; before = []; moved = moved } → moved ≡ nothing_moved → env ≡ standing tables
stands tables env moved is none = is ∙ ap (λ (m : Moved). let e : Environment = record { now = tables; before = []; moved = m } in e) none

pub rows-requires-clause-suits : goal.rows-requires-clause-suits
rows-requires-clause-suits c =
    let here = stands _ _ _ c.new.ensures c.nothing_moved-moved.ensures in
    subst (Suits c.args.query.now) (sym here) (query_asked c.args.tables.now c.args.query.now c.requires (c.can_count.ensures c.if-not-can_count.false))

pub rows-requires-clause-few : goal.rows-requires-clause-few
rows-requires-clause-few c =
    let here = stands _ _ _ c.new.ensures c.nothing_moved-moved.ensures in
    subst (ReadsFew c.args.query.now) (sym here) (query_few c.args.tables.now c.args.query.now (c.can_count.ensures c.if-not-can_count.false))

pub returns : goal.returns
unfolding mean_now
returns c =
    let here = stands _ _ _ c.new.ensures c.nothing_moved-moved.ensures in
    subst (λ e. IfOk c.rows.result (λ rows. rows ≡ mean c.args.query.now e)) here c.rows.ensures
