use Rattle.std.proofs.Common.{◌∙◌, subst}
use Rattle.std.specs.List.Sorted.{IsPermutation}
use Rattle.strip_value.proofs.InOrder.{in_order_only}
use Rattle.strip_eval.proofs.answers.in_order.Goals as goal

pub returns : goal.returns
returns c =
    c.from_vec.ensures ∙ in_order_only c.args.rows c.sort.new.self.items (subst (λ rows. IsPermutation rows c.sort.new.self.items) c.into_vec-rows.ensures c.in_ok-sort.ensures.permutation) c.in_ok-sort.ensures.sorted
