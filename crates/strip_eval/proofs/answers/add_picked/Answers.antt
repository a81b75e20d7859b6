use Rattle.std.proofs.Common.{sym, subst}
use Rattle.std.specs.List.{AllByRecursion}
use Rattle.strip_value.specs.declared.queries.Item.{Item}
use Rattle.strip_eval.specs.Near.{IsNearPart}
use Rattle.strip_eval.proofs.Fits.{near_filter, near_parts}
use Rattle.strip_eval.proofs.answers.add_picked.Goals as goal

pub satisfies-requires : goal.satisfies-requires
satisfies-requires c = record { near = near_filter c.args.query.now c.args.rows.now c.requires.suits }

pub add_to_groups-requires-clause-near : goal.add_to_groups-requires-clause-near
add_to_groups-requires-clause-near c =
    subst (AllByRecursion (λ (item : Item). IsNearPart c.args.rows.now item.what)) (sym c.as_slice.ensures) (near_parts c.args.query.now c.args.rows.now c.args.places.now c.requires.grouped c.requires.suits)
