use Rattle.std.proofs.Common.{◌≡◌, ap, ◌∙◌}
use Rattle.strip_catalog.specs.Sums.{bound_name}
use Rattle.strip_value.specs.Name.{is_name}
use Rattle.strip_catalog.proofs.MadeNames.{bound_is_name}
use Rattle.strip_catalog.proofs.sums.bound_name.Goals as goal

pub name_of-requires : goal.name_of-requires
name_of-requires c =
    let bytes : c.as_slice.result.now ≡ bound_name c.args.table.now = cc (c.in_ok-extend_from_slice.ensures.items, c.in_ok-bytes.ensures.items, c.bytes.ensures.value) in
    ap is_name bytes ∙ bound_is_name c.args.table.now c.requires.named c.requires.short
