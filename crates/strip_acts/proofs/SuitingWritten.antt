-- Acts that suit are written, accepted and read again.
use Rattle.strip_value.specs.declared.acts.Act.TheVariants as act
use Rattle.strip_acts.specs.Laws.{SuitingActsAreWritten}
use Rattle.strip_acts.proofs.Asking.{select_law}
use Rattle.strip_acts.proofs.Setting.{delete_law, insert_again, put_again, show_again, update_law}

pub suiting_written : SuitingActsAreWritten
suiting_written tables (act.Insert id rows) named suits = insert_again tables named id rows suits
suiting_written tables (act.Put id row) named suits = put_again tables named id row suits
suiting_written tables (act.Update id sets t) named suits = update_law tables named id sets t suits
suiting_written tables (act.Delete id t) named suits = delete_law tables named id t suits
suiting_written tables (act.Select query) named suits = select_law tables named query suits
suiting_written tables (act.Show id) named suits = show_again tables named id suits
