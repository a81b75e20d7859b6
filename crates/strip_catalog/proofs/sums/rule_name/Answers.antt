use Rattle.std.proofs.Common.{◌≡◌, ap, ◌∙◌}
use Rattle.strip_setup.specs.Maintain.{rule_name}
use Rattle.strip_value.specs.Name.{is_name}
use Rattle.strip_catalog.proofs.MadeNames.{rule_is_name}
use Rattle.strip_catalog.proofs.sums.rule_name.Goals as goal

pub name_of-requires : goal.name_of-requires
name_of-requires c =
    let bytes : c.as_slice.result.now ≡ rule_name c.args.table.now = cc (c.in_ok-extend_from_slice-2.ensures.items, c.in_ok-extend_from_slice.ensures.items, c.in_ok-bytes.ensures.items, c.bytes.ensures.value) in
    ap is_name bytes ∙ rule_is_name c.args.table.now c.requires.named c.requires.short
