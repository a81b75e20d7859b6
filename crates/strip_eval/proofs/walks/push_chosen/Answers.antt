use Rattle.std.proofs.Common.{sym, subst}
use Rattle.std.specs.List.{AllByRecursion}
use Rattle.strip_value.specs.declared.queries.Item.{Item}
use Rattle.strip_eval.specs.Near.{IsNearPlain}
use Rattle.strip_eval.proofs.Fits.{near_filter, near_items}
use Rattle.strip_eval.proofs.walks.push_chosen.Goals as goal

pub satisfies-requires : goal.satisfies-requires
satisfies-requires c = record { near = near_filter c.args.query.now c.args.rows.now c.requires.suits }

pub plain_row-requires : goal.plain_row-requires
plain_row-requires c = record {
  near = subst (AllByRecursion (λ (item : Item). IsNearPlain c.args.rows.now item.what)) (sym c.as_slice.ensures) (near_items c.args.query.now c.args.rows.now c.requires.plain c.requires.suits);
}
