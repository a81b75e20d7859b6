use Rattle.std.proofs.Common.{true, false, sym, ◌∙◌}
use Rattle.strip_catalog.proofs.ActCauses.{select_grouped}
use Rattle.strip_catalog.proofs.refusing.act_not_grouped.Goals as goal

pub returns-in-Ok-true : goal.returns-in-Ok-true
returns-in-Ok-true c =
    select_grouped c.args.setup.now c.defs.result.now c.args.deed.now c.in-Select.query c.outside_rules.result true c.in-Select.is c.defs.ensures c.outside_rules.ensures (sym c.in-Ok-true.field-0-test ∙ c.in-Ok-true.ensures)

pub returns-in-Ok-false : goal.returns-in-Ok-false
returns-in-Ok-false c =
    select_grouped c.args.setup.now c.defs.result.now c.args.deed.now c.in-Select.query c.outside_rules.result false c.in-Select.is c.defs.ensures c.outside_rules.ensures (sym c.in-Ok-false.field-0-test ∙ c.in-Ok-false.ensures)
