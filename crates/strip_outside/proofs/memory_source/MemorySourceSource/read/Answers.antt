use Rattle.std.proofs.Common.{◌≡◌, ◌+◌, ◌∙◌, Some, length, take, drop, ap, subst, arith}
use Rattle.strip_outside.specs.Bytes.{Gave}
use Rattle.strip_outside.proofs.PartLemmas.{Gave-front, slice_from}
use Rattle.strip_outside.proofs.memory_source.MemorySourceSource.read.Goals as goal

pub returns-clause-bytes : goal.returns-clause-bytes
returns-clause-bytes c =
    let copy = c.copy_front-given in
    let at = c.self.inside.at in
    let bytes = c.self.inside.bytes.items in
    let from : _ ≡ drop at bytes = slice_from at c.deref-2.result.now ∙ ap (drop at) c.deref-2.ensures.value in
    let copied = copy.ensures.copied ∙ ap (take copy.result) from in
    let len = ap length from in
    let left = ap (λ v. v.left) c.self.view_is in
    subst (λ l. Gave (Some l) (Some (drop (at + copy.result) bytes)) copy.new.into copy.result) left
    (Gave-front bytes copy.new.into at copy.result c.max.result copied
    (omega (arith, copy.ensures.count, len, copy.auto.into))
    (omega (arith, c.max.ensures)))
