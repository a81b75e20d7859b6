use Rattle.std.proofs.Common.{◌∙◌, ap, length, refl, sym}
use Rattle.std.proofs.lemmas.List.{with_items_is}
use Rattle.strip_eval.specs.Groups.{with_parts}
use Rattle.strip_eval.proofs.Grouping.{adds_found, adds_gap}
use Rattle.strip_eval.proofs.Totals.{kept_long}
use Rattle.strip_eval.proofs.groups.add_to_groups.Goals as goal

-- the group stands there
pub returns-in-Ok : goal.returns-in-Ok
returns-in-Ok c = λ all are.
    let found = rw c.as_slice.ensures.value at c.in-Ok.ensures.found in
    let was = c.index_mut.result.now in
    let parts = c.add_parts.ensures ∙ ap (with_parts c.args.items.now c.args.rows.now) c.as_mut_slice.ensures.value in
    adds_found c.args.items.now c.args.places.now c.args.rows.now all c.args.groups.now.items c.in-Ok.at was _ found c.index_mut.ensures.value refl
    (with_items_is was.totals c.add_parts.new.totals (ap length parts ∙ kept_long c.args.items.now c.args.rows.now was.totals.items ∙ sym was.totals.ok.0) ∙ parts) are

-- no group has the key
pub returns-in_ok-insert-in-Err : goal.returns-in_ok-insert-in-Err
returns-in_ok-insert-in-Err c = λ all are.
    let gap = rw c.as_slice.ensures.value at c.in-Err.ensures.gap in
    rw c.in_ok-insert-in-Err.ensures.items
    (adds_gap c.args.items.now c.args.places.now c.args.rows.now all c.args.groups.now.items c.in-Err.at _ gap c.in_ok-key-in-Err.ensures c.in_ok-totals-in-Err.ensures are)
