use Rattle.strip_engine.proofs.QuietActions.{each_row_in_one_action}
use Rattle.strip_engine.proofs.laws.each_row_in_one_action.Goals as goal

pub returns : goal.returns
returns c = each_row_in_one_action
