-- What accepted deeds that have a text stand for suits.
use Rattle.std.proofs.Common.{true≢false, sym}
use Rattle.strip_ast.specs.declared.deeds.Deed.TheVariants as deed
use Rattle.strip_acts.specs.Laws.{WrittenDeedsSuit}
use Rattle.strip_acts.proofs.Answering.{select_law}
use Rattle.strip_acts.proofs.Standing.{delete_law, insert_suits, put_suits, show_suits, update_law}

pub written_suit : WrittenDeedsSuit
written_suit tables (deed.Insert name rows) named is accepted = insert_suits tables named name rows is accepted
written_suit tables (deed.Put name row) named is accepted = put_suits tables named name row is accepted
written_suit tables (deed.Update name sets only) named is accepted = update_law tables named name sets only is accepted
written_suit tables (deed.Delete name only) named is accepted = delete_law tables named name only is accepted
written_suit tables (deed.Select query) named is accepted = select_law tables named query is accepted
written_suit tables (deed.Show name) named is accepted = show_suits tables named name is accepted
written_suit tables (deed.Begin write read) named is accepted = absurd (true≢false (sym is))
written_suit tables deed.Commit named is accepted = absurd (true≢false (sym is))
written_suit tables deed.Undo named is accepted = absurd (true≢false (sym is))
written_suit tables deed.Start named is accepted = absurd (true≢false (sym is))
written_suit tables (deed.Finish number) named is accepted = absurd (true≢false (sym is))
written_suit tables (deed.Return number) named is accepted = absurd (true≢false (sym is))
written_suit tables deed.Run named is accepted = absurd (true≢false (sym is))
written_suit tables deed.ShowPending named is accepted = absurd (true≢false (sym is))
