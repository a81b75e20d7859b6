use Rattle.std.proofs.Common.{◌≡◌, ap, ◌∙◌}
use Rattle.strip_setup.specs.Maintain.{function_name}
use Rattle.strip_value.specs.Name.{is_name}
use Rattle.strip_catalog.proofs.MadeNames.{function_is_name}
use Rattle.strip_catalog.proofs.sums.function_name.Goals as goal

pub name_of-requires : goal.name_of-requires
name_of-requires c =
    let bytes : c.as_slice.result.now ≡ function_name c.args.table.now = cc (c.in_ok-extend_from_slice.ensures.items, c.in_ok-bytes.ensures.items, c.bytes.ensures.value) in
    ap is_name bytes ∙ function_is_name c.args.table.now c.requires.named c.requires.short
