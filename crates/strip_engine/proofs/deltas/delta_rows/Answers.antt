use Rattle.std.proofs.Common.{sym, ap, ◌∙◌, subst, arith}
use Rattle.std.specs.Option.{option_copied}
use Rattle.strip_engine.specs.Deltas.{IsSmallAt}
use Rattle.strip_engine.proofs.DeltaRows.{small_row, sorted_rows}
use Rattle.strip_engine.proofs.deltas.delta_rows.Goals as goal

pub delta-requires : goal.delta-requires
delta-requires c =
    subst (IsSmallAt c.args.keeper.now) (sym c.values.ensures) (small_row c.args.side c.args.keeper.now c.args.log.now c.loop-logged.logged-index c.logged-item.result c.in-Some.row.now c.requires (omega arith) c.logged-item.is (sym c.row_for.ensures ∙ ap option_copied c.in-Some.is))

pub returns : goal.returns
returns c =
    sorted_rows c.args.side c.args.keeper.now c.args.log.now c.loop-logged.logged-index c.loop-logged.rows.items c.sort.new.self.items (omega arith) c.loop-logged.invariant c.sort.ensures.permutation c.in_ok-sort.ensures.sorted
