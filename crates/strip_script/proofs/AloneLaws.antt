-- An act in a transaction of its own: which entries it adds, and that the history stays legal and no session live.
use Rattle.std.proofs.Common.{◌≡◌, ℕ, ◌+◌, ◌≤◌, Bool, true, false, not, ◌&&◌, ◌||◌, ◌==◌, cond, find, List, [], ◌∷◌, length, Some, None, refl, sym, ap, ◌∙◌, subst, arith}
use Rattle.std.specs.Prelude.{nat_lt}
use Rattle.std.specs.List.{list_all, list_any}
use Rattle.std.proofs.lemmas.Bool.{le-ltb, ltb-false}
use Rattle.strip_value.specs.declared.acts.Act.{Act}
use Rattle.strip_value.specs.declared.acts.Act.TheVariants as act
use Rattle.strip_value.specs.declared.acts.Reply.{Reply}
use Rattle.strip_meaning.specs.Effect.{has_id, tables_asked}
use Rattle.strip_model.specs.declared.entries.Entry.{Entry}
use Rattle.strip_model.specs.declared.entries.Entry.TheVariants.{Did, Commit, Undo}
use Rattle.strip_model.specs.History.{Live, begins, ended, holds, live}
use Rattle.strip_model.specs.Derived.{Fixed, bound_count, fired_at}
use Rattle.strip_model.specs.Legal.{IsOpen, Legal, Names, Rise, conflict, reply_of}
use Rattle.strip_model.specs.Says.{Said, chosen, fired, late, live_session, read_besides, refused, row_count, said_act, said_commit, said_undo, said_within, says, spent, to_act, to_begin, to_commit, to_undo}
use Rattle.strip_model.proofs.HistoryLaws.{chosen_apart, chosen_rises, itself, latest_in_time}
use Rattle.strip_script.specs.declared.alone.Outcome.TheVariants.{Replied}
use Rattle.strip_script.specs.Script.{after_call, committed, done_alone, ended_for, is_refusal, undone, with_said}

module _ (f : Fixed) (past : List Entry) (write read : List ℕ) (one : Act) (none : live past ≡ []) where
  abbrev pub session : ℕ
  session = begins past + 1

  abbrev pub begun : List Entry
  begun = after_call f past (to_begin 0 write read)

  abbrev pub reply : Reply
  reply = reply_of f begun session one

  abbrev pub did : List Entry
  did = Did 0 session one reply ∷ begun

  abbrev pub commit_entry : Entry
  commit_entry = Commit 0 session (late did 0)

  abbrev own : Live
  own = record { session = session; caller = 0 }

  only : live begun ≡ own ∷ []
  only = ap (λ lives. own ∷ lives) none

  found_in : (p : List Entry) → live p ≡ own ∷ [] → live_session p session ≡ Some own
  found_in p e = ap (find (λ (l : Live). l.session == session)) e ∙ ap (λ b. cond b (Some own) None) (itself session)

  act_said : after_call f begun (to_act session one) ≡ did
  act_said = ap (λ o. with_said begun (said_act f begun session one o).entry) (found_in begun only)

  undo_said : after_call f did (to_undo session) ≡ Undo 0 session ∷ did
  undo_said = ap (λ o. with_said did (said_undo session o).entry) (found_in did only)

  pub commit_said : says f did (to_commit session 0) ≡ said_within f (fired_at f did session) commit_entry (bound_count f (commit_entry ∷ did))
  commit_said = ap (said_commit f did session 0) (found_in did only)

  -- what is so of both ends is so of the history after the act
  pub ends : (P : List Entry → Type 0) → P (Undo 0 session ∷ did) → (bound_count f (commit_entry ∷ did) ≤ f.most → P (commit_entry ∷ did)) → P (ended_for f (after_call f begun (to_act session one)) session reply).past
  ends P undone_so committed_so = subst (λ d. P (ended_for f d session reply).past) (sym act_said) (by_reply (is_refusal reply))
    where
      by_total : (b : Bool) → nat_lt f.most (bound_count f (commit_entry ∷ did)) ≡ b
          → (let said = cond b (refused (spent (bound_count f (commit_entry ∷ did)))) (record { answer = fired (length (fired_at f did session)) (row_count (fired_at f did session)); entry = Some commit_entry }) in P (committed f did session reply said.entry said.answer).past)
      by_total true e = subst P (sym undo_said) undone_so
      by_total false e = committed_so (ltb-false f.most (bound_count f (commit_entry ∷ did)) e)

      by_reply : (b : Bool) → P (cond b (undone f did session (Replied reply)) (committed f did session reply (says f did (to_commit session 0)).entry (says f did (to_commit session 0)).answer)).past
      by_reply true = subst P (sym undo_said) undone_so
      by_reply false = subst (λ (said : Said). P (committed f did session reply said.entry said.answer).past) (sym commit_said) (by_total (nat_lt f.most (bound_count f (commit_entry ∷ did))) refl)

  -- an act that isn't refused is replied to, where its commit binds no row too many
  pub replied : is_refusal reply ≡ false → bound_count f (commit_entry ∷ did) ≤ f.most → (ended_for f (after_call f begun (to_act session one)) session reply).outcome ≡ Replied reply
  replied kept within =
      let total = bound_count f (commit_entry ∷ did) in
      let good : Said = record { answer = fired (length (fired_at f did session)) (row_count (fired_at f did session)); entry = Some commit_entry } in
      ap (λ d. (ended_for f d session reply).outcome) act_said
      ∙ ap (λ b. (cond b (undone f did session (Replied reply)) (committed f did session reply (says f did (to_commit session 0)).entry (says f did (to_commit session 0)).answer)).outcome) kept
      ∙ ap (λ (said : Said). (committed f did session reply said.entry said.answer).outcome) commit_said
      ∙ ap (λ b. (committed f did session reply (cond b (refused (spent total)) good).entry (cond b (refused (spent total)) good).answer).outcome) (le-ltb f.most total within)

  -- no session is left
  gone : ended session (live did) ≡ []
  gone = ap (ended session) only ∙ ap (λ b. cond (not b) (own ∷ []) []) (itself session)

  pub none_left : live (ended_for f (after_call f begun (to_act session one)) session reply).past ≡ []
  none_left = ends (λ p. live p ≡ []) gone (λ within. gone)

  -- each entry may follow those before
  open_in : (p : List Entry) → live p ≡ own ∷ [] → IsOpen p 0 session
  open_in p e = ap (list_any (λ (l : Live). l.session == session && l.caller == 0)) e ∙ ap (λ b. (b && true) || false) (itself session)

  pub legal_begun : Legal f past → Legal f begun
  legal_begun legal =
      let all : 0 + length f.defs ≡ length f.defs = omega arith in (
        record {
          next = refl;
          alone = ap (list_all (λ (l : Live). not (l.caller == 0))) none;
          write_rises = subst (λ high. Rise 0 high (chosen (has_id write) 0 (length f.defs))) all (chosen_rises (has_id write) 0 (length f.defs));
          read_rises = subst (λ high. Rise 0 high (chosen (read_besides write read) 0 (length f.defs))) all (chosen_rises (read_besides write read) 0 (length f.defs));
          apart = chosen_apart write read 0 (length f.defs) (length f.defs);
          free = ap (list_all (λ (l : Live). not (conflict (record { write = chosen (has_id write) 0 (length f.defs); read = chosen (read_besides write read) 0 (length f.defs) }) (holds past l.session)))) none;
        },
        legal,
      )

  pub legal_did : Legal f past → Names (length f.defs) one → Legal f did
  legal_did legal names = ((open_in begun only, names, refl), legal_begun legal)

  pub legal_undone : Legal f past → Names (length f.defs) one → Legal f (Undo 0 session ∷ did)
  legal_undone legal names = (open_in did only, legal_did legal names)

  pub legal_committed : Legal f past → Names (length f.defs) one → bound_count f (commit_entry ∷ did) ≤ f.most → Legal f (commit_entry ∷ did)
  legal_committed legal names within =
      let in_time = latest_in_time f past legal in
      ((open_in did only, omega arith, omega arith, within), legal_did legal names)

  pub legal_ended : Legal f past → Names (length f.defs) one → Legal f (ended_for f (after_call f begun (to_act session one)) session reply).past
  legal_ended legal names = ends (Legal f) (legal_undone legal names) (legal_committed legal names)

-- whatever the act
pub alone_ends : (f : Fixed) (past : List Entry) (one : Act) → live past ≡ [] → live (done_alone f past one).past ≡ []
alone_ends f past (act.Put table row) none = none_left f past (table ∷ []) [] (act.Put table row) none
alone_ends f past (act.Show table) none = none_left f past [] (table ∷ []) (act.Show table) none
alone_ends f past (act.Insert table rows) none = none_left f past [] [] (act.Insert table rows) none
alone_ends f past (act.Update table sets filter) none = none_left f past [] [] (act.Update table sets filter) none
alone_ends f past (act.Delete table filter) none = none_left f past [] [] (act.Delete table filter) none
alone_ends f past (act.Select query) none = none_left f past [] (tables_asked query.entries) (act.Select query) none

pub alone_legal : (f : Fixed) (past : List Entry) (one : Act) → live past ≡ [] → Names (length f.defs) one → Legal f past → Legal f (done_alone f past one).past
alone_legal f past (act.Put table row) none names legal = legal_ended f past (table ∷ []) [] (act.Put table row) none legal names
alone_legal f past (act.Show table) none names legal = legal_ended f past [] (table ∷ []) (act.Show table) none legal names
alone_legal f past (act.Insert table rows) none names legal = absurd names
alone_legal f past (act.Update table sets filter) none names legal = absurd names
alone_legal f past (act.Delete table filter) none names legal = absurd names
alone_legal f past (act.Select query) none names legal = legal_ended f past [] (tables_asked query.entries) (act.Select query) none legal names
