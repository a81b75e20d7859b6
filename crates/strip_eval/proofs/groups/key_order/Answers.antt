use Rattle.std.proofs.Common.{◌≡◌, ◌∙◌, [], ap, sym, drop}
use Rattle.std.proofs.lemmas.List.{drop_all}
use Rattle.strip_value.specs.Query.{group_key}
use Rattle.strip_eval.proofs.Keys.{longer_above}
use Rattle.strip_eval.proofs.groups.key_order.Goals as goal

-- the group columns have ended, and a value of the key is left
pub returns-else-is_empty : goal.returns-else-is_empty
returns-else-is_empty c =
    let ended : drop c.loop-place.place-index c.args.places.now ≡ [] = drop_all c.loop-place.place-index c.args.places.now c.loop-place-test.false in
    sym (longer_above c.loop-place.left.now (group_key (drop c.loop-place.place-index c.args.places.now) c.args.rows.now) (sym c.is_empty.ensures ∙ c.if-is_empty.false)
    (ap (λ ps. group_key ps c.args.rows.now) ended)) ∙ c.loop-place.invariant
