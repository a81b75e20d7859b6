use Rattle.std.proofs.Common.{◌≡◌, ◌++◌, ◌+◌, codes, Err, ap, ◌∙◌, arith}
use Rattle.std.specs.Fmt.{decimal}
use Rattle.strip_acts.proofs.AliasNames.{never_bad}
use Rattle.strip_acts.proofs.trees.alias_at.Goals as goal

pub unreachable-requires : goal.unreachable-requires
unreachable-requires c =
    let bytes : c.as_slice.result.now ≡ codes "e" ++ decimal (c.args.entry + 1) = cc (c.in_ok-extend_from_slice.ensures.items, c.in_ok-bytes.ensures.items, c.as_bytes.ensures.value, c.format.ensures.text) in
    never_bad (c.args.entry + 1) c.as_slice.result.now c.of.result (omega arith) bytes c.of.ensures (c.in-Err-BadName.is ∙ ap Err c.in-Err-BadName.field-0-is)
