-- Each call of the engine keeps what it keeps true of its fields, and answers what is said.
use Rattle.std.proofs.Common.{◌≡◌, ℕ, suc, ◌+◌, ◌^◌, ◌<◌, ◌≤◌, min, max, Bool, true, false, not, ◌&&◌, ◌||◌, ◌==◌, cond, find, get_or, List, [], ◌∷◌, ◌++◌, length, map, take, drop, reverse, vec_len, Option, Some, None, IfSome, is_some, inl, inr, Result, Ok, Err, refl, sym, ap, ap₂, ◌∙◌, subst, arith}
use Rattle.std.specs.declared.alloc.AllocError.{AllocError}
use Rattle.std.specs.List.{AllByRecursion, list_all, list_any, remove}
use Rattle.std.proofs.Math.ListN.{get_or-map}
use Rattle.std.proofs.lemmas.Bool.{le-ltb, lt-ltb}
use Rattle.std.proofs.lemmas.List.{reverse-append, length-reverse, length-append, length-map, length-take-le, length-drop}
use Rattle.strip_value.specs.declared.actions.ActionId.{ActionId}
use Rattle.strip_value.specs.declared.actions.Bound.{Bound}
use Rattle.strip_value.specs.declared.actions.Content.{Content}
use Rattle.strip_value.specs.declared.actions.Content.TheVariants.{Totals}
use Rattle.strip_value.specs.declared.actions.FiredRule.{FiredRule}
use Rattle.strip_value.specs.declared.acts.Act.{Act}
use Rattle.strip_value.specs.declared.acts.Holds.{Holds}
use Rattle.strip_value.specs.declared.acts.Reply.{Reply}
use Rattle.strip_value.specs.declared.changes.Change.{Change}
use Rattle.strip_value.specs.declared.rules.Rule.{Rule}
use Rattle.strip_value.specs.declared.tables.TableDef.{TableDef}
use Rattle.strip_value.specs.declared.values.Value.{Value}
use Rattle.strip_value.specs.Table.{Keyed}
use Rattle.strip_value.proofs.KeyedLaws.{find_all}
use Rattle.strip_value.proofs.Lists.{all_at, all_weaker}
use Rattle.strip_meaning.specs.Actions.{BoundRow, as_bound, due_of, next, no_rule, rows_of, rule_at, running}
use Rattle.strip_meaning.specs.Contents.{contents, def_at, no_function, summed_up}
use Rattle.strip_meaning.specs.Course.{IsIn, IsPlainCourse, IsPlainRule, plain_action, firing_rows}
use Rattle.strip_meaning.specs.Effect.{effect, run, has_id, table_at}
use Rattle.strip_meaning.specs.Sums.{applied}
use Rattle.strip_meaning.proofs.Behind.{all_map, all_or}
use Rattle.strip_meaning.proofs.PlainActions.{IsAtOnce, row_by, first_action}
use Rattle.strip_model.specs.declared.entries.Entry.{Entry}
use Rattle.strip_model.specs.declared.entries.Entry.TheVariants.{Begin, Did, Commit, Undo, Start, Finish}
use Rattle.strip_model.specs.History.{empty_tables, begins, acts, holds, Live, live, ended, base, latest, Running, jobs, job_count}
use Rattle.strip_model.specs.Derived.{Fixed, beginning, tables, at_begin, working, bound_count, fired_at, happened, with_derived, with_fired}
use Rattle.strip_model.specs.Kept.{Kept}
use Rattle.strip_model.specs.Legal.{Legal, IsOpen, Rise, conflict, Begins, job_of, holds_one, written}
use Rattle.strip_model.specs.Says.{chosen, read_besides, Said, Task, fired, spent, taken, no_session, none_pending, not_running, refused, live_session, row_count, said_commit, said_within, said_start, said_in_hand, said_later, said_finish, task_of, start_entry, says, to_commit, to_start, to_finish}
use Rattle.strip_model.specs.Says as said_of
use Rattle.strip_model.proofs.HistoryLaws.{itself, no_acts, latest_in_time, chosen_rises, chosen_apart, defs_of_empty, begins_at_most}
use Rattle.strip_model.proofs.Courses.{course_of, jobs_run, jobs_fall, binds_then, bound_count_commit}
use Rattle.strip_engine.specs.declared.answers.CommitError.{CommitError}
use Rattle.strip_engine.specs.declared.answers.CommitError.TheVariants as commit_error
use Rattle.strip_engine.specs.declared.committing.Binding.{Binding}
use Rattle.strip_engine.specs.declared.keepers.Keeper.{Keeper}
use Rattle.strip_engine.specs.declared.queue.Queue.{Queue}
use Rattle.strip_engine.specs.declared.queue.Started.{Started}
use Rattle.strip_engine.specs.declared.queue.Waiting.{Waiting}
use Rattle.strip_engine.specs.declared.undo.Logged.{Logged}
use Rattle.strip_engine.specs.declared.undo.Session.{Session}
use Rattle.strip_engine.specs.Acting.{CanAdd, CanStart, KnowsFirst, Merges, PreparesFor, PreparesStart, Prepares, SameQueue, StartsFirst, with_sums}
use Rattle.strip_engine.specs.Calls.{Answers, Commits, HasContent}
use Rattle.strip_engine.specs.Changes.{ChangeFits, bound_by, fired_by}
use Rattle.strip_engine.specs.Deltas.{KeepsSmall}
use Rattle.strip_engine.specs.Jobs.{CanFold, content_of}
use Rattle.strip_setup.specs.Catalog.{Catalog}
use Rattle.strip_engine.specs.Built.{IsBuilt}
use Rattle.strip_engine.specs.Keepers.{all_keepers, keeper_at, kept_def, no_keeper}
use Rattle.strip_engine.specs.Keeps.{Keeps, Stands, AtRest, InProgress}
use Rattle.strip_engine.specs.Made.{IsMade}
use Rattle.strip_engine.specs.Queue.{IsStarted, IsWaiting, NumbersRise, Queues, Stops, as_firing, first_of, no_bound, no_started, place_from, plain_id, running_of}
use Rattle.strip_engine.specs.Asked.{IsAsked}
use Rattle.strip_engine.proofs.Asked.{asked_names}
use Rattle.strip_engine.specs.Steps.{Performs, SameSession}
use Rattle.strip_engine.specs.State.{State, fixed_of, with_entry}
use Rattle.strip_engine.specs.Undo.{all_restored, changes_of, IsLogged}
use Rattle.strip_engine.proofs.BoundRows.{WaitingFolds, bound_within, changes_fit, plain_is, waiting_folds}
use Rattle.strip_engine.proofs.KeeperRules.{KeepsFirst, all_kept, fired_is, keepers_few, keepers_small, rules_at_once, rules_count, rules_plain}
use Rattle.strip_engine.proofs.Overlay.{same_run}
use Rattle.strip_engine.proofs.QueueKeeps.{NoneNext, first_due_then, none_next, queue_commit, queue_finish, queue_new, queue_start, rows_at_most, same_queue}
use Rattle.strip_engine.proofs.QueueNumbers.{numbers_rise, place_found, place_none}
use Rattle.strip_engine.proofs.Restores.{defs_kept}
use Rattle.strip_engine.proofs.Sums.{FinishAdds, commit_tables, finish_adds, start_tables}

-- one entry more is the newest
newest : (entries : List Entry) (e : Entry) → reverse (entries ++ e ∷ []) ≡ e ∷ reverse entries
newest entries e = reverse-append entries (e ∷ [])

-- ---- an engine that was just made

abbrev empty_of : TableDef → Keyed
empty_of def = record { def = def; rows = [] }

empty_stays : (b : Bool) (def : TableDef) → cond b (empty_of def) (empty_of def) ≡ empty_of def
empty_stays true def = refl
empty_stays false def = refl

derived_empty : (n : ℕ) (defs : List TableDef) → with_derived n (λ id. []) (empty_tables defs) ≡ empty_tables defs
derived_empty n [] = refl
derived_empty n (def ∷ defs) =
    ap (λ (t : Keyed). t ∷ with_derived (n + 1) (λ id. []) (empty_tables defs)) (empty_stays (is_some def.query) def)
    ∙ ap (λ more. empty_of def ∷ more) (derived_empty (n + 1) defs)

-- the tables at the beginning
tables_at_first : (f : Fixed) → tables f [] ≡ beginning f
tables_at_first f = derived_empty 0 f.defs

pub keeps_new : (f : Fixed) (now : List Keyed) (entries : List Entry) (room : ℕ) (keepers : List Keeper) (queue : Queue) → IsBuilt f → f.most ≤ 2 ^ 60 → keepers ≡ all_keepers f → now ≡ empty_tables f.defs → entries ≡ []
    → queue.waiting.items ≡ [] → queue.running.items ≡ [] → (queue.bound ≡ 0) × (queue.rows ≡ 0) × (queue.jobs ≡ 0) → Keeps f now entries room None 0 0 keepers queue
keeps_new f now entries room keepers queue built few keeping made none waiting runs counts =
    let empty = ap reverse none in
    let no_job : length queue.running.items ≡ 0 = ap length runs in
    record {
      built = built;
      bounded = few;
      keeping = keeping;
      defined = ap (map (λ (t : Keyed). t.def)) made ∙ defs_of_empty f.defs;
      legal = subst (Legal f) (sym empty) tt;
      counted = sym (ap begins empty);
      timed = sym (ap latest empty);
      queued = rw empty (queue_new f.rules queue waiting runs counts);
      stands = rw empty (record { none = refl; committed = made ∙ sym (tables_at_first f); room_to_finish = omega arith });
    }

-- ---- a begin

-- without a live session the field has none
pub at_rest : (f : Fixed) (now : List Keyed) (past : List Entry) (room jobs : ℕ) (session : Option Session) → Stands f now past room jobs session → live past ≡ [] → AtRest f now past room jobs
at_rest f now past room jobs None stands none = stands
at_rest f now past room jobs (Some s) stands none = let one = stands.only in cc

module _ (f : Fixed) (past : List Entry) (caller count : ℕ) (write read : List ℕ) (s : Session) (made : IsMade caller (begins past + 1) count write read s) (counted : count ≡ length f.defs) (none : live past ≡ []) where
  -- a begin is legal when no session is live
  begins_legally : Begins (length f.defs) past s.caller s.number s.holds.write s.holds.read
  begins_legally =
      let writes : s.holds.write ≡ chosen (has_id write) 0 count = ap (λ (h : Holds). h.write) made.holding in
      let reads : s.holds.read ≡ chosen (read_besides write read) 0 count = ap (λ (h : Holds). h.read) made.holding in
      let all : 0 + count ≡ length f.defs = omega (arith, counted) in
      record {
        next = made.next;
        alone = ap (list_all (λ (l : Live). not (l.caller == s.caller))) none;
        write_rises = rw writes (subst (λ high. Rise 0 high (chosen (has_id write) 0 count)) all (chosen_rises (has_id write) 0 count));
        read_rises = rw reads (subst (λ high. Rise 0 high (chosen (read_besides write read) 0 count)) all (chosen_rises (read_besides write read) 0 count));
        apart = rw (writes, reads) (chosen_apart write read 0 count count);
        free = ap (list_all (λ (l : Live). not (conflict (record { write = s.holds.write; read = s.holds.read }) (holds past l.session)))) none;
      }

  abbrev began : List Entry
  began = Begin s.caller s.number s.holds.write s.holds.read ∷ past

  -- the session that was just begun is in progress
  begun : (now : List Keyed) (room left jobs : ℕ) → Legal f past → AtRest f now past room jobs → jobs + 1 ≤ left → InProgress f now began left jobs s
  begun now room left jobs legal rest more =
      let own = itself s.number in
      let first : acts past s.number ≡ [] = no_acts f past s.number legal (omega (arith, made.next)) in
      let held : holds began s.number ≡ s.holds = ap (λ b. cond b s.holds (holds past s.number)) own in
      let from : at_begin f began s.number ≡ tables f past = ap (λ b. cond b (tables f past) (at_begin f past s.number)) own in
      record {
        only = ap (λ lives. record { session = s.number; caller = s.caller } ∷ lives) none;
        held = sym held;
        began = from;
        made = rest.committed ∙ sym (ap (λ as'. (run (holds began s.number) (at_begin f began s.number) as').tables) first ∙ from);
        changed = ap changes_of made.clean ∙ sym (ap (λ as'. (run (holds began s.number) (at_begin f began s.number) as').changes) first);
        restores = rw made.clean tt;
        undoes = ap (λ log. all_restored (reverse log) now) made.clean ∙ rest.committed;
        room_to_end = more;
      }

pub keeps_begin : (f : Fixed) (now : List Keyed) (entries grown : List Entry) (room left : ℕ) (session : Option Session) (total moment : ℕ) (keepers : List Keeper) (queue : Queue) (caller count : ℕ) (write read : List ℕ) (s : Session) → Keeps f now entries room session total moment keepers queue → live (reverse entries) ≡ [] → IsMade caller (total + 1) count write read s → count ≡ length f.defs
    → grown ≡ entries ++ Begin s.caller s.number s.holds.write s.holds.read ∷ [] → length queue.running.items + 1 ≤ left → Keeps f now grown left (Some s) s.number moment keepers queue
keeps_begin f now entries grown room left session total moment keepers queue caller count write read s keeps none made counted added more =
    let past = reverse entries in
    let jobs = length queue.running.items in
    let begun_from : IsMade caller (begins past + 1) count write read s = subst (λ n. IsMade caller (n + 1) count write read s) keeps.counted made in
    let newer : reverse grown ≡ Begin s.caller s.number s.holds.write s.holds.read ∷ past = ap reverse added ∙ newest entries (Begin s.caller s.number s.holds.write s.holds.read) in
    let rest = at_rest f now past room jobs session keeps.stands none in
    record {
      built = keeps.built;
      bounded = keeps.bounded;
      keeping = keeps.keeping;
      defined = keeps.defined;
      legal = rw newer (begins_legally f past caller count write read s begun_from counted none, keeps.legal);
      counted = made.next ∙ ap (λ n. n + 1) keeps.counted ∙ sym (ap begins newer);
      timed = keeps.timed ∙ sym (ap latest newer);
      queued = rw newer keeps.queued;
      stands = rw newer (begun f past caller count write read s begun_from counted none now room left jobs keeps.legal rest more);
    }

-- more room serves as well
stands_more : (f : Fixed) (now : List Keyed) (past : List Entry) (room left jobs : ℕ) (session : Option Session) → room ≤ left → Stands f now past room jobs session → Stands f now past left jobs session
stands_more f now past room left jobs None more stands = record { none = stands.none; committed = stands.committed; room_to_finish = (let enough = stands.room_to_finish in omega arith) }
stands_more f now past room left jobs (Some s) more stands = record {
  only = stands.only;
  held = stands.held;
  began = stands.began;
  made = stands.made;
  changed = stands.changed;
  restores = stands.restores;
  undoes = stands.undoes;
  room_to_end = (let enough = stands.room_to_end in omega arith);
}

-- where an action is started, the tables stay what they are
stands_started : (f : Fixed) (now : List Keyed) (past : List Entry) (c n m : ℕ) (a : ActionId) (d r : ℕ) (room left jobs new : ℕ) (session : Option Session) → tables f (Start c n m a d r ∷ past) ≡ tables f past → new + 1 ≤ left → Stands f now past room jobs session → Stands f now (Start c n m a d r ∷ past) left new session
stands_started f now past c n m a d r room left jobs new None same enough stands = record { none = stands.none; committed = stands.committed ∙ sym same; room_to_finish = omega arith }
stands_started f now past c n m a d r room left jobs new (Some s) same enough stands = record {
  only = stands.only;
  held = stands.held;
  began = stands.began ∙ sym same;
  made = stands.made;
  changed = stands.changed;
  restores = stands.restores;
  undoes = stands.undoes ∙ sym same;
  room_to_end = enough;
}

-- without a live session, what stands is at rest
stands_alone : (f : Fixed) (now : List Keyed) (past : List Entry) (room jobs : ℕ) (was : List Keyed) (before : List Entry) (left old : ℕ) (session : Option Session) → Stands f was before left old session → live before ≡ [] → AtRest f now past room jobs → Stands f now past room jobs session
stands_alone f now past room jobs was before left old None stands none rest = rest
stands_alone f now past room jobs was before left old (Some s) stands none rest = let one = stands.only in absurd (cc)

-- room for a finish of each job and for one entry more serves always
stands_enough : (f : Fixed) (now : List Keyed) (past : List Entry) (room left jobs : ℕ) (session : Option Session) → jobs + 1 ≤ left → Stands f now past room jobs session → Stands f now past left jobs session
stands_enough f now past room left jobs None more stands = record { none = stands.none; committed = stands.committed; room_to_finish = omega arith }
stands_enough f now past room left jobs (Some s) more stands = record {
  only = stands.only;
  held = stands.held;
  began = stands.began;
  made = stands.made;
  changed = stands.changed;
  restores = stands.restores;
  undoes = stands.undoes;
  room_to_end = more;
}

pub keeps_enough : (f : Fixed) (now : List Keyed) (entries grown : List Entry) (room left : ℕ) (session : Option Session) (total moment : ℕ) (keepers : List Keeper) (queue other : Queue) → Keeps f now entries room session total moment keepers queue → grown ≡ entries → length queue.running.items + 1 ≤ left → SameQueue queue other → Keeps f now grown left session total moment keepers other
keeps_enough f now entries grown room left session total moment keepers queue other keeps same more queues =
    let past = reverse entries in
    let older : reverse grown ≡ past = ap reverse same in
    let running_same : length other.running.items ≡ length queue.running.items = ap length queues.running in
    record {
      built = keeps.built;
      bounded = keeps.bounded;
      keeping = keeps.keeping;
      defined = keeps.defined;
      legal = rw older keeps.legal;
      counted = keeps.counted ∙ sym (ap begins older);
      timed = keeps.timed ∙ sym (ap latest older);
      queued = rw older (same_queue f.rules (happened f past) (jobs past) (bound_count f past) (job_count past) queue other queues keeps.queued);
      stands = rw older (rw running_same (stands_enough f now past room left (length queue.running.items) session more keeps.stands));
    }

-- where a begin is refused, there is no less room
pub keeps_room : (f : Fixed) (now : List Keyed) (entries grown : List Entry) (room left : ℕ) (session : Option Session) (total moment : ℕ) (keepers : List Keeper) (queue other : Queue) → Keeps f now entries room session total moment keepers queue → grown ≡ entries → room ≤ left → SameQueue queue other → Keeps f now grown left session total moment keepers other
keeps_room f now entries grown room left session total moment keepers queue other keeps same more queues =
    let past = reverse entries in
    let older : reverse grown ≡ past = ap reverse same in
    let running_same : length other.running.items ≡ length queue.running.items = ap length queues.running in
    record {
      built = keeps.built;
      bounded = keeps.bounded;
      keeping = keeps.keeping;
      defined = keeps.defined;
      legal = rw older keeps.legal;
      counted = keeps.counted ∙ sym (ap begins older);
      timed = keeps.timed ∙ sym (ap latest older);
      queued = rw older (same_queue f.rules (happened f past) (jobs past) (bound_count f past) (job_count past) queue other queues keeps.queued);
      stands = rw older (rw running_same (stands_more f now past room left (length queue.running.items) session more keeps.stands));
    }

-- ---- an act

-- the session in progress is open to its caller
pub is_open : (past : List Entry) (s : Session) → live past ≡ record { session = s.number; caller = s.caller } ∷ [] → IsOpen past s.caller s.number
is_open past s only =
    ap (list_any (λ (l : Live). l.session == s.number && l.caller == s.caller)) only
    ∙ ap (λ b. (b && (s.caller == s.caller)) || false) (itself s.number)
    ∙ ap (λ b. (true && b) || false) (itself s.caller)

pub keeps_act : (f : Fixed) (was_then : List Keyed) (entries : List Entry) (room : ℕ) (s : Session) (total moment : ℕ) (keepers : List Keeper) (queue : Queue) (act : Act) (after : Session) (new : List Keyed) (grown : List Entry) (left : ℕ) (r : Result Reply AllocError) → Keeps f was_then entries room (Some s) total moment keepers queue → IsAsked f.defs act → Performs s was_then entries act after new grown r → SameSession s after → length queue.running.items + 1 ≤ left → Keeps f new grown left (Some after) total moment keepers queue
keeps_act f was_then entries room s total moment keepers queue act after new grown left (Ok reply) keeps asked did same more =
    let past = reverse entries in
    let was = keeps.stands in
    let said = (effect s.holds was_then act).reply in
    let entry = Did s.caller s.number act said in
    let newer : reverse grown ≡ entry ∷ past = ap reverse did.2 ∙ newest entries entry in
    let held : holds past s.number ≡ s.holds = sym was.held in
    let stood : working f past s.number ≡ was_then = sym was.made in
    let replied : said ≡ (effect (holds past s.number) (working f past s.number) act).reply = sym (ap (λ (h : Holds). (effect h (working f past s.number) act).reply) held ∙ ap (λ ts. (effect s.holds ts act).reply) stood) in
    let one : acts (entry ∷ past) s.number ≡ act ∷ acts past s.number = ap (λ b. cond b (act ∷ []) [] ++ acts past s.number) (itself s.number) in
    let changed : working f (entry ∷ past) s.number ≡ new =
    ap (λ as'. (run (holds past s.number) (at_begin f past s.number) as').tables) one
    ∙ ap (λ (h : Holds). (effect h (working f past s.number) act).tables) held
    ∙ ap (λ ts. (effect s.holds ts act).tables) stood
    ∙ sym did.1 in
    let logged : (run (holds past s.number) (at_begin f past s.number) (acts (entry ∷ past) s.number)).changes ≡ changes_of after.log.items =
    ap (λ as'. (run (holds past s.number) (at_begin f past s.number) as').changes) one
    ∙ ap (λ (h : Holds). (run (holds past s.number) (at_begin f past s.number) (acts past s.number)).changes ++ (effect h (working f past s.number) act).changes) held
    ∙ ap (λ ts. (run (holds past s.number) (at_begin f past s.number) (acts past s.number)).changes ++ (effect s.holds ts act).changes) stood
    ∙ ap (λ cs. cs ++ (effect s.holds was_then act).changes) (sym was.changed)
    ∙ sym did.4 in
    record {
      built = keeps.built;
      bounded = keeps.bounded;
      keeping = keeps.keeping;
      defined = did.3.defined ∙ keeps.defined;
      legal = rw newer ((is_open past s was.only, asked_names f.defs act asked, replied), keeps.legal);
      counted = keeps.counted ∙ sym (ap begins newer);
      timed = keeps.timed ∙ sym (ap latest newer);
      queued = rw newer keeps.queued;
      stands = rw newer (record {
        only = was.only ∙ ap (λ n. record { session = n; caller = s.caller } ∷ []) (sym same.number) ∙ ap (λ n. record { session = after.number; caller = n } ∷ []) (sym same.caller);
        held = same.holds ∙ was.held ∙ ap (holds past) (sym same.number);
        began = ap (at_begin f past) same.number ∙ was.began;
        made = sym changed ∙ ap (working f (entry ∷ past)) (sym same.number);
        changed = sym logged ∙ ap (λ n. (run (holds past n) (at_begin f past n) (acts (entry ∷ past) n)).changes) (sym same.number);
        restores = subst (λ ds. AllByRecursion (IsLogged ds) after.log.items) keeps.defined (did.3.restores (subst (λ ds. AllByRecursion (IsLogged ds) s.log.items) (sym keeps.defined) was.restores));
        undoes = did.3.undoes ∙ was.undoes;
        room_to_end = more;
      });
    }
keeps_act f was_then entries room s total moment keepers queue act after new grown left (Err e) keeps asked did same more =
    let was = keeps.stands in
    let past = reverse entries in
    let newer : reverse grown ≡ past = ap reverse did.1 in
    record {
      built = keeps.built;
      bounded = keeps.bounded;
      keeping = keeps.keeping;
      defined = ap (map (λ (t : Keyed). t.def)) did.0 ∙ keeps.defined;
      legal = rw newer keeps.legal;
      counted = keeps.counted ∙ sym (ap begins newer);
      timed = keeps.timed ∙ sym (ap latest newer);
      queued = rw newer keeps.queued;
      stands = rw newer (record {
        only = was.only ∙ ap (λ n. record { session = n; caller = s.caller } ∷ []) (sym same.number) ∙ ap (λ n. record { session = after.number; caller = n } ∷ []) (sym same.caller);
        held = same.holds ∙ was.held ∙ ap (holds past) (sym same.number);
        began = ap (at_begin f past) same.number ∙ was.began;
        made = did.0 ∙ was.made ∙ ap (working f past) (sym same.number);
        changed = ap changes_of did.2 ∙ was.changed ∙ ap (λ n. (run (holds past n) (at_begin f past n) (acts past n)).changes) (sym same.number);
        restores = rw did.2 was.restores;
        undoes = ap (λ log. all_restored (reverse log) new) did.2 ∙ ap (all_restored (reverse s.log.items)) did.0 ∙ was.undoes;
        room_to_end = more;
      });
    }

-- ---- the end of a session

-- a session that ends is live no more
pub none_left : (past : List Entry) (s : Session) → live past ≡ record { session = s.number; caller = s.caller } ∷ [] → ended s.number (live past) ≡ []
none_left past s only = ap (ended s.number) only ∙ ap (λ b. cond (not b) (record { session = s.number; caller = s.caller } ∷ []) []) (itself s.number)

-- what the rules bind where the session in progress commits
pub fired_here : (catalog : Catalog) (most : ℕ) (now : List Keyed) (entries : List Entry) (room : ℕ) (s : Session) (total moment : ℕ) (keepers : List Keeper) (queue : Queue) → Keeps (fixed_of catalog most) now entries room (Some s) total moment keepers queue
    → fired_at (fixed_of catalog most) (reverse entries) s.number ≡ fired_by 0 keepers (changes_of s.log.items)
fired_here catalog most now entries room s total moment keepers queue keeps =
    let f = fixed_of catalog most in
    let past = reverse entries in
    let was = keeps.stands in
    let start = base (beginning f) past in
    let ran = run (holds past s.number) start (acts past s.number) in
    let same : (run (holds past s.number) (at_begin f past s.number) (acts past s.number)).changes ≡ ran.changes =
    ap (λ ts. (run (holds past s.number) ts (acts past s.number)).changes) was.began
    ∙ (same_run (holds past s.number) (summed_up f.defs f.functions f.rules (happened f past)) start (acts past s.number)).changes in
    let logged : changes_of s.log.items ≡ ran.changes = was.changed ∙ same in
    fired_is f keeps.built start ran.tables ran.changes (changes_fit f past s.number keeps.built keeps.legal)
    ∙ ap (fired_by 0 (all_keepers f)) (sym logged)
    ∙ ap (λ ks. fired_by 0 ks (changes_of s.log.items)) (sym keeps.keeping)

-- the changes of the session are small, and its rules few
pub small_here : (catalog : Catalog) (most : ℕ) (now : List Keyed) (entries : List Entry) (room : ℕ) (s : Session) (total moment : ℕ) (keepers : List Keeper) (queue : Queue) → Keeps (fixed_of catalog most) now entries room (Some s) total moment keepers queue
    → AllByRecursion (KeepsSmall (changes_of s.log.items)) keepers
small_here catalog most now entries room s total moment keepers queue keeps =
    subst (AllByRecursion (KeepsSmall (changes_of s.log.items))) (sym keeps.keeping)
    (keepers_small (fixed_of catalog most) keeps.built (changes_of s.log.items) (all_map (ChangeFits catalog.tables) (λ (l : Logged). l.change) s.log.items keeps.stands.restores))

pub few_here : (catalog : Catalog) (most : ℕ) (now : List Keyed) (entries : List Entry) (room : ℕ) (session : Option Session) (total moment : ℕ) (keepers : List Keeper) (queue : Queue) → Keeps (fixed_of catalog most) now entries room session total moment keepers queue
    → length keepers ≤ 64
few_here catalog most now entries room session total moment keepers queue keeps =
    let few = keepers_few (fixed_of catalog most) keeps.built in
    let same : length keepers ≡ length (all_keepers (fixed_of catalog most)) = ap length keeps.keeping in
    omega arith

-- so many rules at most bind rows
fires_most : (number : ℕ) (keepers : List Keeper) (cs : List Change) → length (fired_by number keepers cs) ≤ length keepers
fires_most number [] cs = omega arith
fires_most number (k ∷ ks) cs = with_most (bound_by k cs) (fires_most (number + 1) ks cs)
  where
    with_most : (bounds : List Bound) → length (fired_by (number + 1) ks cs) ≤ length ks → length (with_fired number bounds (fired_by (number + 1) ks cs)) ≤ suc (length ks)
    with_most [] le = omega arith
    with_most (b ∷ bs) le = omega arith

pub fires_few : (keepers : List Keeper) (cs : List Change) → length keepers ≤ 64 → length (fired_by 0 keepers cs) ≤ 64
fires_few keepers cs few = let most = fires_most 0 keepers cs in omega arith

module _ (catalog : Catalog) (most : ℕ) (now : List Keyed) (entries grown : List Entry) (room left : ℕ) (s : Session) (total moment asked late : ℕ) (keepers : List Keeper) (queue other new : Queue) (binding : Binding) (keeps : Keeps (fixed_of catalog most) now entries room (Some s) total moment keepers queue) (prepared : Prepares (fired_by 0 keepers (changes_of s.log.items)) queue.bound most other (Ok binding)) (same : SameQueue queue other) (merged : Merges other (length entries) late binding new) (when : late ≡ max (min asked (2 ^ 63)) moment) (added : grown ≡ entries ++ Commit s.caller s.number late ∷ []) where
  abbrev fixed_here : Fixed
  fixed_here = fixed_of catalog most

  abbrev past_here : List Entry
  past_here = reverse entries

  abbrev commit_entry : Entry
  commit_entry = Commit s.caller s.number late

  -- the rows bound by then
  count_then : bound_count fixed_here (commit_entry ∷ past_here) ≡ queue.bound + row_count (fired_by 0 keepers (changes_of s.log.items))
  count_then =
      bound_count_commit fixed_here past_here s.caller s.number late
      ∙ ap (λ fires. bound_count fixed_here past_here + row_count fires) (fired_here catalog most now entries room s total moment keepers queue keeps)
      ∙ ap (λ n. n + row_count (fired_by 0 keepers (changes_of s.log.items))) (sym keeps.queued.bound_rows)

  commits_legally : Legal fixed_here (commit_entry ∷ past_here)
  commits_legally =
      let before = latest_in_time fixed_here past_here keeps.legal in
      let timed = keeps.timed in
      let counted = count_then in
      let within = prepared.2 in
      ((is_open past_here s keeps.stands.only, omega arith, omega arith, omega arith), keeps.legal)

  pub keeps_commit : room ≡ left + 1 → Keeps fixed_here now grown left None total late keepers new
  keeps_commit one_less =
      let newer : reverse grown ≡ commit_entry ∷ past_here = ap reverse added ∙ newest entries commit_entry in
      let was = keeps.stands in
      let timed = keeps.timed in
      let fires = fired_at fixed_here past_here s.number in
      let here = fired_here catalog most now entries room s total moment keepers queue keeps in
      let course = course_of fixed_here (commit_entry ∷ past_here) (rules_plain fixed_here keeps.built) commits_legally in
      let placed : length entries ≡ length past_here = sym (length-reverse entries) in
      let merged_here : Merges other (length past_here) late binding new = subst (λ place. Merges other place late binding new) placed merged in
      let rows_here : binding.rows ≡ row_count fires = prepared.1 ∙ ap row_count (sym here) in
      let counted : bound_count fixed_here past_here + row_count fires ≡ bound_count fixed_here (commit_entry ∷ past_here) = sym (bound_count_commit fixed_here past_here s.caller s.number late) in
      let queues = same_queue fixed_here.rules (happened fixed_here past_here) (jobs past_here) (bound_count fixed_here past_here) (job_count past_here) queue other same keeps.queued in
      let after = queue_commit fixed_here.rules (happened fixed_here past_here) (jobs past_here) (bound_count fixed_here past_here) (job_count past_here) (length past_here) late fires binding other new course (jobs_run fixed_here past_here (rules_plain fixed_here keeps.built) keeps.legal) (prepared.0 ∙ sym here) rows_here merged_here queues in
      let running_same : length new.running.items ≡ length queue.running.items = ap length (merged.running ∙ same.running) in
      let enough = was.room_to_end in
      record {
        built = keeps.built;
        bounded = keeps.bounded;
        keeping = keeps.keeping;
        defined = keeps.defined;
        legal = rw newer commits_legally;
        counted = keeps.counted ∙ sym (ap begins newer);
        timed = (let same_late : late ≡ max late (latest past_here) = omega arith in same_late) ∙ sym (ap latest newer);
        queued = rw newer (subst (λ n. Queues fixed_here.rules (happened fixed_here (commit_entry ∷ past_here)) (jobs past_here) n (job_count past_here) new) counted after);
        stands = rw newer (record {
          none = none_left past_here s was.only;
          committed =
              was.made ∙ ap (λ ts. (run (holds past_here s.number) ts (acts past_here s.number)).tables) was.began
              ∙ (same_run (holds past_here s.number) (summed_up fixed_here.defs fixed_here.functions fixed_here.rules (happened fixed_here past_here)) (base (beginning fixed_here) past_here) (acts past_here s.number)).tables
              ∙ sym (commit_tables fixed_here past_here s.caller s.number late course);
          room_to_finish = omega arith;
        });
      }

-- ---- an undo

pub keeps_undo : (f : Fixed) (now new : List Keyed) (entries grown : List Entry) (room left : ℕ) (s : Session) (total moment : ℕ) (keepers : List Keeper) (queue : Queue) → Keeps f now entries room (Some s) total moment keepers queue → grown ≡ entries ++ Undo s.caller s.number ∷ [] → room ≡ left + 1
    → new ≡ all_restored (reverse s.log.items) now → map (λ (t : Keyed). t.def) new ≡ map (λ (t : Keyed). t.def) now → Keeps f new grown left None total moment keepers queue
keeps_undo f now new entries grown room left s total moment keepers queue keeps added one_less back defs =
    let past = reverse entries in
    let was = keeps.stands in
    let newer : reverse grown ≡ Undo s.caller s.number ∷ past = ap reverse added ∙ newest entries (Undo s.caller s.number) in
    let enough = was.room_to_end in
    record {
      built = keeps.built;
      bounded = keeps.bounded;
      keeping = keeps.keeping;
      defined = defs ∙ keeps.defined;
      legal = rw newer (is_open past s was.only, keeps.legal);
      counted = keeps.counted ∙ sym (ap begins newer);
      timed = keeps.timed ∙ sym (ap latest newer);
      queued = rw newer keeps.queued;
      stands = rw newer (record { none = none_left past s was.only; committed = back ∙ was.undoes; room_to_finish = omega arith });
    }

-- ---- what a commit answers

-- the session in progress is found
pub session_found : (past : List Entry) (s : Session) → live past ≡ record { session = s.number; caller = s.caller } ∷ [] → live_session past s.number ≡ Some (record { session = s.number; caller = s.caller })
session_found past s only =
    ap (find (λ (l : Live). l.session == s.number)) only
    ∙ ap (λ b. cond b (Some (record { session = s.number; caller = s.caller })) None) (itself s.number)

module _ (catalog : Catalog) (most : ℕ) (now : List Keyed) (entries : List Entry) (room : ℕ) (s : Session) (total moment session asked : ℕ) (keepers : List Keeper) (queue : Queue) (keeps : Keeps (fixed_of catalog most) now entries room (Some s) total moment keepers queue) (same : session ≡ s.number) where
  abbrev f' : Fixed
  f' = fixed_of catalog most

  abbrev past' : List Entry
  past' = reverse entries

  abbrev fires : List FiredRule
  fires = fired_by 0 keepers (changes_of s.log.items)

  abbrev committed : Entry
  committed = Commit s.caller s.number (said_of.late past' asked)

  -- what is said, by the rows bound then
  commit_said : says f' past' (to_commit session asked) ≡ said_within f' fires committed (queue.bound + row_count fires)
  commit_said =
      let here = fired_here catalog most now entries room s total moment keepers queue keeps in
      ap (λ n. says f' past' (to_commit n asked)) same
      ∙ ap (said_commit f' past' s.number asked) (session_found past' s keeps.stands.only)
      ∙ ap (said_within f' (fired_at f' past' s.number) committed) (bound_count_commit f' past' s.caller s.number (said_of.late past' asked))
      ∙ ap₂ (λ fs n. said_within f' fs committed (n + row_count fs)) here (sym keeps.queued.bound_rows)

  pub commit_answers : (late : ℕ) (grown : List Entry) → late ≡ max (min asked (2 ^ 63)) moment → grown ≡ entries ++ Commit s.caller session late ∷ [] → queue.bound + row_count fires ≤ most
      → Answers (record { catalog = catalog; bound_rows = most; history = entries }) (to_commit session asked) (fired (length fires) (row_count fires)) (record { catalog = catalog; bound_rows = most; history = grown })
  commit_answers late grown when added within =
      let old : State = record { catalog = catalog; bound_rows = most; history = entries } in
      let moment_said : said_of.late past' asked ≡ late = ap (max (min asked (2 ^ 63))) (sym keeps.timed) ∙ sym when in
      let entry : committed ≡ Commit s.caller session late = ap (λ m. Commit s.caller s.number m) moment_said ∙ ap (λ n. Commit s.caller n late) (sym same) in
      let said : says f' past' (to_commit session asked) ≡ record { answer = fired (length fires) (row_count fires); entry = Some committed } =
      commit_said ∙ ap (λ b. cond b (refused (spent (queue.bound + row_count fires))) (record { answer = fired (length fires) (row_count fires); entry = Some committed })) (le-ltb most (queue.bound + row_count fires) within) in
      record {
        answered = ap (λ (x : Said). x.answer) said;
        added = ap (λ es. record { catalog = catalog; bound_rows = most; history = es }) (added ∙ ap (λ e. entries ++ e ∷ []) (sym entry)) ∙ sym (ap (λ (x : Said). with_entry old x.entry) said);
      }

  pub spent_answers : (passed : ℕ) → passed ≡ queue.bound + row_count fires → most < passed
      → Answers (record { catalog = catalog; bound_rows = most; history = entries }) (to_commit session asked) (spent passed) (record { catalog = catalog; bound_rows = most; history = entries })
  spent_answers passed is past_most =
      let old : State = record { catalog = catalog; bound_rows = most; history = entries } in
      let said : says f' past' (to_commit session asked) ≡ refused (spent passed) =
      commit_said ∙ ap (said_within f' fires committed) (sym is)
      ∙ ap (λ b. cond b (refused (spent passed)) (record { answer = fired (length fires) (row_count fires); entry = Some committed })) (lt-ltb most passed past_most) in
      record {
        answered = ap (λ (x : Said). x.answer) said;
        added = sym (ap (λ (x : Said). with_entry old x.entry) said);
      }

  -- a refusal says so, and has changed nothing
  pub commit_refused : (other : Queue) (error : CommitError) → Prepares fires queue.bound most other (Err error)
      → Commits (record { catalog = catalog; bound_rows = most; history = entries }) session asked (record { catalog = catalog; bound_rows = most; history = entries }) (Err error)
  commit_refused other (commit_error.NoSession none) refusal = absurd refusal
  commit_refused other (commit_error.Spent passed) refusal = spent_answers passed refusal.0 refusal.1
  commit_refused other commit_error.Memory refusal = refl

-- a session that isn't the one in progress isn't live
missing_said : (f : Fixed) (past : List Entry) (session asked : ℕ) → live_session past session ≡ None → says f past (to_commit session asked) ≡ refused (no_session session)
missing_said f past session asked none = ap (said_commit f past session asked) none

not_found : (past : List Entry) (s : Session) (session : ℕ) → live past ≡ record { session = s.number; caller = s.caller } ∷ [] → (s.number == session) ≡ false → live_session past session ≡ None
not_found past s session only other =
    ap (find (λ (l : Live). l.session == session)) only ∙ ap (λ b. cond b (Some (record { session = s.number; caller = s.caller })) None) other

abbrev refused_with : CommitError → Result Binding CommitError
refused_with error = Err error

missing_for : (catalog : Catalog) (most : ℕ) (entries : List Entry) (session asked : ℕ) (error : CommitError) → live_session (reverse entries) session ≡ None → refused_with error ≡ Err (commit_error.NoSession session)
    → Commits (record { catalog = catalog; bound_rows = most; history = entries }) session asked (record { catalog = catalog; bound_rows = most; history = entries }) (Err error)
missing_for catalog most entries session asked error none is =
    let old : State = record { catalog = catalog; bound_rows = most; history = entries } in
    let same : error ≡ commit_error.NoSession session = cc in
    let said = missing_said (fixed_of catalog most) (reverse entries) session asked none in
    subst (λ e. Commits old session asked old (Err e)) (sym same) (record {
      answered = ap (λ (x : Said). x.answer) said;
      added = sym (ap (λ (x : Said). with_entry old x.entry) said);
    })

-- whatever session there is: a refusal says so
pub refused_for : (catalog : Catalog) (most : ℕ) (now : List Keyed) (entries : List Entry) (room : ℕ) (o : Option Session) (total moment session asked : ℕ) (keepers : List Keeper) (queue other : Queue) (error : CommitError) → Keeps (fixed_of catalog most) now entries room o total moment keepers queue
    → PreparesFor o session keepers queue.bound most other (Err error) → Commits (record { catalog = catalog; bound_rows = most; history = entries }) session asked (record { catalog = catalog; bound_rows = most; history = entries }) (Err error)
refused_for catalog most now entries room None total moment session asked keepers queue other error keeps is =
    missing_for catalog most entries session asked error (ap (find (λ (l : Live). l.session == session)) keeps.stands.none) is
refused_for catalog most now entries room (Some s) total moment session asked keepers queue other error keeps (inl here) =
    commit_refused catalog most now entries room s total moment session asked keepers queue keeps (sym here.0) other error here.1
refused_for catalog most now entries room (Some s) total moment session asked keepers queue other error keeps (inr missing) =
    missing_for catalog most entries session asked error (not_found (reverse entries) s session keeps.stands.only missing.0) missing.1

-- what was prepared was so for the session in progress
pub prepared_one : (s : Session) (session : ℕ) (keepers : List Keeper) (bound most : ℕ) (other : Queue) (binding : Binding) → PreparesFor (Some s) session keepers bound most other (Ok binding)
    → (s.number ≡ session) × Prepares (fired_by 0 keepers (changes_of s.log.items)) bound most other (Ok binding)
prepared_one s session keepers bound most other binding (inl here) = here
prepared_one s session keepers bound most other binding (inr missing) = let no = missing.1 in absurd (cc)

-- the changes of the session that may be there are small
pub small_for : (catalog : Catalog) (most : ℕ) (now : List Keyed) (entries : List Entry) (room : ℕ) (o : Option Session) (total moment : ℕ) (keepers : List Keeper) (queue : Queue) → Keeps (fixed_of catalog most) now entries room o total moment keepers queue
    → IfSome o (λ (s : Session). AllByRecursion (KeepsSmall (changes_of s.log.items)) keepers)
small_for catalog most now entries room None total moment keepers queue keeps = tt
small_for catalog most now entries room (Some s) total moment keepers queue keeps = small_here catalog most now entries room s total moment keepers queue keeps

-- tasks whose parts are the same
abbrev task_by : ℕ → ℕ → ActionId → ℕ → ℕ → List Content → Task
task_by number caller action due rows content = record { number = number; caller = caller; action = action; due = due; rows = rows; content = content }

task_alike : (n n' caller : ℕ) (a a' : ActionId) (d d' r r' : ℕ) (c c' : List Content) → n ≡ n' → a ≡ a' → d ≡ d' → r ≡ r' → c ≡ c' → task_by n caller a d r c ≡ task_by n' caller a' d' r' c'
task_alike n n' caller a a' d d' r r' c c' e₁ e₂ e₃ e₄ e₅ = cc

-- one fewer
length_removed : {X : Type 0} (xs : List X) (at : ℕ) → at < length xs → length (remove xs at) + 1 ≡ length xs
length_removed xs at lt =
    let both = length-append (take at xs) (drop (suc at) xs) in
    let front = length-take-le at xs (omega arith) in
    let back = length-drop (suc at) xs in
    omega arith

-- where none is next, what is said is that none is pending
none_said : (f : Fixed) (past : List Entry) (caller moment : ℕ) → NoneNext f.rules (happened f past) moment → said_start f past caller moment (next f.rules (happened f past) moment) ≡ refused none_pending
none_said f past caller moment none =
    ap (said_start f past caller moment) none.next_one
    ∙ ap (said_in_hand f past) none.due_one
    ∙ ap (said_later f) none.pending_one

-- the first row of an action that waits: its action, and when it is due
first_of_action : (rules : List Rule) → AllByRecursion IsPlainRule rules → (w : Waiting) → (first_of rules w).action ≡ plain_action rules (as_firing w)
first_of_action rules plain w =
    ap (λ (row : BoundRow). row.action) (sym (get_or-map (row_by rules (as_firing w)) w.fired.rows 0 no_bound)) ∙ first_action rules plain (as_firing w)

first_of_due : (rules : List Rule) → AllByRecursion IsAtOnce rules → (w : Waiting) → due_of rules (first_of rules w) ≡ w.moment
first_of_due rules at_once w =
    let no_wait : (rule_at rules w.fired.number).after ≡ 0 = all_or IsAtOnce rules w.fired.number no_rule at_once refl in
    omega arith

-- a job that is found runs
job_runs : (f : Fixed) (past : List Entry) (number : ℕ) (job : Running) → AllByRecursion IsPlainRule f.rules → Legal f past → job_of past number ≡ Some job → IsIn f.rules (happened f past) job.action (running job.number)
job_runs f past number job plain legal e =
    find_all (λ (j : Running). IsIn f.rules (happened f past) j.action (running j.number)) (λ (j : Running). j.number == number) (jobs past) job (jobs_run f past plain legal) e

-- ---- a start

module _ (catalog : Catalog) (most : ℕ) (now : List Keyed) (entries : List Entry) (room : ℕ) (session : Option Session) (total moment caller asked late : ℕ) (keepers : List Keeper) (queue : Queue) (keeps : Keeps (fixed_of catalog most) now entries room session total moment keepers queue) (when : late ≡ max (min asked (2 ^ 63)) moment) where
  abbrev fixed' : Fixed
  fixed' = fixed_of catalog most

  abbrev before : List Entry
  before = reverse entries

  late_said : said_of.late before asked ≡ late
  late_said = ap (max (min asked (2 ^ 63))) (sym keeps.timed) ∙ sym when

  course_before : IsPlainCourse fixed'.rules (happened fixed' before)
  course_before = course_of fixed' before (rules_plain fixed' keeps.built) keeps.legal

  -- where nothing waits, none is pending
  pub empty_answers : queue.waiting.items ≡ [] → Answers (record { catalog = catalog; bound_rows = most; history = entries }) (to_start caller asked) none_pending (record { catalog = catalog; bound_rows = most; history = entries })
  empty_answers none =
      let old : State = record { catalog = catalog; bound_rows = most; history = entries } in
      let said : says fixed' before (to_start caller asked) ≡ refused none_pending = none_said fixed' before caller (said_of.late before asked) (none_next fixed'.rules (happened fixed' before) (jobs before) (bound_count fixed' before) (job_count before) (said_of.late before asked) queue none keeps.queued) in
      record {
        answered = ap (λ (x : Said). x.answer) said;
        added = sym (ap (λ (x : Said). with_entry old x.entry) said);
      }

  module _ (first : Waiting) (others : List Waiting) (split : queue.waiting.items ≡ first ∷ others) where
    waits_here : IsWaiting fixed'.rules (happened fixed' before) first
    waits_here = (subst (AllByRecursion (IsWaiting fixed'.rules (happened fixed' before))) split keeps.queued.waiting).0

    abbrev action : ActionId
    action = plain_id first.place first.fired.number

    action_is : plain_action fixed'.rules (as_firing first) ≡ action
    action_is = plain_is fixed' keeps.built (as_firing first) waits_here.1

    abbrev folded_def : TableDef
    folded_def = kept_def fixed' first.fired.number

    few_rows : bound_count fixed' before ≤ 2 ^ 60
    few_rows =
        let within = bound_within fixed' before keeps.legal in
        let bounded = keeps.bounded in
        omega arith

    folds : WaitingFolds fixed' before first
    folds = waiting_folds fixed' keeps.built before keeps.legal few_rows first waits_here

    pub can_start_fold : CanFold folded_def first.fired.rows
    can_start_fold = folds.can

    next_here : next fixed'.rules (happened fixed' before) late ≡ Some (first_of fixed'.rules first)
    next_here =
        let timed = keeps.timed in
        let by_then : latest before ≤ late = omega arith in
        first_due_then fixed'.rules (happened fixed' before) (jobs before) (bound_count fixed' before) (job_count before) first others late queue course_before (rules_at_once fixed' keeps.built) split (binds_then fixed' before late by_then) keeps.queued

    first_action_is : (first_of fixed'.rules first).action ≡ action
    first_action_is = first_of_action fixed'.rules (rules_plain fixed' keeps.built) first ∙ action_is

    first_due_is : due_of fixed'.rules (first_of fixed'.rules first) ≡ first.moment
    first_due_is = first_of_due fixed'.rules (rules_at_once fixed' keeps.built) first

    rows_here : rows_of fixed'.rules (happened fixed' before) action ≡ firing_rows fixed'.rules (as_firing first)
    rows_here = subst (λ a. rows_of fixed'.rules (happened fixed' before) a ≡ firing_rows fixed'.rules (as_firing first)) action_is waits_here.0

    count_here : length (rows_of fixed'.rules (happened fixed' before) action) ≡ length first.fired.rows
    count_here = ap length rows_here ∙ length-map first.fired.rows (as_bound fixed'.rules [] first.place first.moment first.fired.number)

    abbrev started_entry : Entry
    started_entry = Start caller (queue.jobs + 1) late action first.moment (length first.fired.rows)

    starts_legally : Legal fixed' (started_entry ∷ before)
    starts_legally =
        let timed = keeps.timed in
        let in_time = latest_in_time fixed' before keeps.legal in (
          record {
            number_next = ap (λ n. n + 1) keeps.queued.starts;
            early = omega arith;
            later = omega arith;
            first = first_of fixed'.rules first;
            is_next = next_here;
            named = sym first_action_is;
            due_then = sym first_due_is;
            counted = sym count_here;
          },
          keeps.legal,
        )

    pub keeps_start : (grown : List Entry) (left : ℕ) (def : TableDef) (new : Queue) (was kept : Kept) (job : Task) → StartsFirst caller late def queue was first others new kept job → was.entries ≡ entries → grown ≡ kept.entries → left ≡ kept.room → length queue.running.items + 3 ≤ was.room
        → Keeps fixed' now grown left session total late keepers new
    keeps_start grown left def new was kept job starts is grows leaves enough =
        let newer : reverse grown ≡ started_entry ∷ before = ap reverse (grows ∙ starts.entries ∙ ap (λ es. es ++ started_entry ∷ []) is) ∙ newest entries started_entry in
        let course = course_of fixed' (started_entry ∷ before) (rules_plain fixed' keeps.built) starts_legally in
        let after = queue_start fixed'.rules (happened fixed' before) (jobs before) (bound_count fixed' before) (job_count before) (queue.jobs + 1) caller late def first others queue new was kept job course (ap (λ n. n + 1) keeps.queued.starts) split action_is starts keeps.queued in
        let same_tables = start_tables fixed' before caller (queue.jobs + 1) late action first.moment (length first.fired.rows) course.course in
        let one_more_job : length new.running.items ≡ length queue.running.items + 1 = ap length starts.running ∙ length-append queue.running.items (record { number = queue.jobs + 1; caller = caller; place = first.place; rule = first.fired.number; rows = length first.fired.rows } ∷ []) in
        let timed = keeps.timed in
        let spent = starts.room in
        record {
          built = keeps.built;
          bounded = keeps.bounded;
          keeping = keeps.keeping;
          defined = keeps.defined;
          legal = rw newer starts_legally;
          counted = keeps.counted ∙ sym (ap begins newer);
          timed = (let same_late : late ≡ max late (latest before) = omega arith in same_late) ∙ sym (ap latest newer);
          queued = rw newer after;
          stands = rw newer (stands_started fixed' now before caller (queue.jobs + 1) late action first.moment (length first.fired.rows) room left (length queue.running.items) (length new.running.items) session same_tables (omega arith) keeps.stands);
        }

    pub start_answers : (grown : List Entry) (job : Task) → grown ≡ entries ++ started_entry ∷ [] → job ≡ record { number = queue.jobs + 1; caller = caller; action = action; due = first.moment; rows = length first.fired.rows; content = content_of folded_def first.fired.rows }
        → Answers (record { catalog = catalog; bound_rows = most; history = entries }) (to_start caller asked) (taken job) (record { catalog = catalog; bound_rows = most; history = grown })
    start_answers grown job added is =
        let old : State = record { catalog = catalog; bound_rows = most; history = entries } in
        let row = first_of fixed'.rules first in
        let content : contents catalog.tables (get_or fixed'.functions row.action.function no_function) (rows_of fixed'.rules (happened fixed' before) row.action) ≡ content_of folded_def first.fired.rows =
        ap (λ a. contents catalog.tables (get_or fixed'.functions a.function no_function) (rows_of fixed'.rules (happened fixed' before) a)) (first_action_is ∙ sym action_is) ∙ folds.content in
        let count : length (rows_of fixed'.rules (happened fixed' before) row.action) ≡ length first.fired.rows = ap (λ a. length (rows_of fixed'.rules (happened fixed' before) a)) first_action_is ∙ count_here in
        let number : job_count before + 1 ≡ queue.jobs + 1 = ap (λ n. n + 1) (sym keeps.queued.starts) in
        let task : task_of fixed' before caller row ≡ job =
        task_alike (job_count before + 1) (queue.jobs + 1) caller row.action action (due_of fixed'.rules row) first.moment (length (rows_of fixed'.rules (happened fixed' before) row.action)) (length first.fired.rows) (contents catalog.tables (get_or fixed'.functions row.action.function no_function) (rows_of fixed'.rules (happened fixed' before) row.action)) (content_of folded_def first.fired.rows) number first_action_is first_due_is count content
        ∙ sym is in
        let said : says fixed' before (to_start caller asked) ≡ record { answer = taken job; entry = Some started_entry } =
        ap (λ m. said_start fixed' before caller m (next fixed'.rules (happened fixed' before) m)) late_said
        ∙ ap (said_start fixed' before caller late) next_here
        ∙ ap (λ (t : Task). record { answer = taken t; entry = Some (start_entry late t) }) task
        ∙ ap (λ (t : Task). record { answer = taken job; entry = Some (start_entry late t) }) is in
        record {
          answered = ap (λ (x : Said). x.answer) said;
          added = ap (λ es. record { catalog = catalog; bound_rows = most; history = es }) added ∙ sym (ap (λ (x : Said). with_entry old x.entry) said);
        }

-- ---- a finish

module _ (catalog : Catalog) (most : ℕ) (now : List Keyed) (entries : List Entry) (room : ℕ) (session : Option Session) (total moment : ℕ) (keepers : List Keeper) (queue : Queue) (keeps : Keeps (fixed_of catalog most) now entries room session total moment keepers queue) where
  abbrev fixed'' : Fixed
  fixed'' = fixed_of catalog most

  abbrev before' : List Entry
  before' = reverse entries

  pub rise_here : NumbersRise queue.running.items
  rise_here = numbers_rise (jobs before') queue.running.items (jobs_fall fixed'' before' keeps.legal) keeps.queued.running

  -- where the number isn't running
  pub not_running_answers : (number : ℕ) → place_from 0 queue.running.items number ≡ None → Answers (record { catalog = catalog; bound_rows = most; history = entries }) (to_finish number) (not_running number) (record { catalog = catalog; bound_rows = most; history = entries })
  not_running_answers number none =
      let old : State = record { catalog = catalog; bound_rows = most; history = entries } in
      let said : says fixed'' before' (to_finish number) ≡ refused (not_running number) = ap (said_finish number) (place_none (jobs before') queue.running.items number keeps.queued.running none) in
      record {
        answered = ap (λ (x : Said). x.answer) said;
        added = sym (ap (λ (x : Said). with_entry old x.entry) said);
      }

  -- where it is
  module _ (number at : ℕ) (is_at : place_from 0 queue.running.items number ≡ Some at) where
    abbrev s : Started
    s = get_or queue.running.items at no_started

    found : (job_of before' number ≡ Some (running_of s)) × (at < length queue.running.items) × (s.number ≡ number)
    found = place_found (jobs before') queue.running.items number at rise_here keeps.queued.running is_at

    pub at_there : at < length queue.running.items
    at_there = found.1

    pub rows_there : s.rows ≤ queue.rows
    rows_there = rows_at_most fixed''.rules (happened fixed'' before') (jobs before') (bound_count fixed'' before') (job_count before') at queue keeps.queued

    rule_there : s.rule < length fixed''.rules
    rule_there = (all_at (IsStarted fixed''.rules (happened fixed'' before')) queue.running.items at no_started keeps.queued.started at_there).1

    -- its rule keeps a table
    pub keeper_there : s.rule < length keepers
    keeper_there =
        let known = rule_there in
        let counts = rules_count fixed'' keeps.built in
        let same : length keepers ≡ length (all_keepers fixed'') = ap length keeps.keeping in
        omega arith

    abbrev table : ℕ
    table = (get_or keepers s.rule no_keeper).table

    table_is_kept : table ≡ (keeper_at fixed'' s.rule).table
    table_is_kept = ap (λ ks. (get_or ks s.rule no_keeper).table) keeps.keeping

    runs_here : IsIn fixed''.rules (happened fixed'' before') (plain_id s.place s.rule) (running number)
    runs_here =
        let found_one = job_runs fixed'' before' number (running_of s) (rules_plain fixed'' keeps.built) keeps.legal found.0 in
        subst (λ n. IsIn fixed''.rules (happened fixed'' before') (plain_id s.place s.rule) (running n)) found.2 found_one

    module _ (job : Task) (is_number : job.number ≡ number) (content : HasContent fixed'' before' job) (totals : List (List Value)) (sums : job.content ≡ Totals totals ∷ []) where
      content_here : contents catalog.tables (get_or fixed''.functions s.rule no_function) (rows_of fixed''.rules (happened fixed'' before') (plain_id s.place s.rule)) ≡ Totals totals ∷ []
      content_here =
          let found_job : job_of before' job.number ≡ Some (running_of s) = ap (job_of before') is_number ∙ found.0 in
          let has = subst (λ o. IfSome o (λ (j : Running). job.content ≡ contents catalog.tables (get_or fixed''.functions j.action.function no_function) (rows_of fixed''.rules (happened fixed'' before') j.action))) found_job content in
          sym has ∙ sums

      adds : FinishAdds fixed'' before' s.caller number (keeper_at fixed'' s.rule).table totals
      adds =
          let within = bound_within fixed'' before' keeps.legal in
          let bounded = keeps.bounded in
          finish_adds fixed'' keeps.built before' keeps.legal (course_of fixed'' before' (rules_plain fixed'' keeps.built) keeps.legal).course s.caller number (plain_id s.place s.rule) runs_here (omega arith) totals content_here

      module _ (alone : live before' ≡ []) where
        rest : AtRest fixed'' now before' room (length queue.running.items)
        rest = at_rest fixed'' now before' room (length queue.running.items) session keeps.stands alone

        pub table_there : table < length now
        table_there =
            let there = adds.there in
            let same = table_is_kept in
            let long : length now ≡ length catalog.tables = sym (length-map now (λ (t : Keyed). t.def)) ∙ ap length keeps.defined in
            omega arith

        pub can_add_here : CanAdd (table_at now table) totals
        can_add_here = rw (table_is_kept, rest.committed) adds.can

        pub keeps_finish : (new : List Keyed) (grown : List Entry) (left : ℕ) (after : Queue) (started : Started) → Stops queue at after started → new ≡ with_sums now table totals → grown ≡ entries ++ Finish started.caller started.number ∷ [] → room ≡ left + 1 → Keeps fixed'' new grown left session total moment keepers after
        keeps_finish new grown left after started stops made added one_less =
            let is_started : started ≡ s = stops.is in
            let entry : Finish started.caller started.number ≡ Finish s.caller number = ap (λ (one : Started). Finish one.caller one.number) is_started ∙ ap (Finish s.caller) found.2 in
            let newer : reverse grown ≡ Finish s.caller number ∷ before' = ap reverse added ∙ newest entries (Finish started.caller started.number) ∙ ap (λ e. e ∷ before') entry in
            let fewer : length after.running.items + 1 ≡ length queue.running.items = ap (λ xs. length xs + 1) stops.running ∙ length_removed queue.running.items at at_there in
            let enough = rest.room_to_finish in
            let after_tables : new ≡ tables fixed'' (Finish s.caller number ∷ before') = made ∙ ap₂ (λ ts id. with_sums ts id totals) rest.committed table_is_kept ∙ adds.after in
            let defs_same : map (λ (t : Keyed). t.def) new ≡ catalog.tables = ap (map (λ (t : Keyed). t.def)) made ∙ defs_kept now table (applied (table_at now table).def (table_at now table).rows totals) ∙ keeps.defined in
            record {
              built = keeps.built;
              bounded = keeps.bounded;
              keeping = keeps.keeping;
              defined = defs_same;
              legal = rw newer (record { job = running_of s; is_running = found.0; called = refl; free = ap (list_all (λ (l : Live). not (holds_one (holds before' l.session) (written fixed'' (plain_id s.place s.rule))))) alone }, keeps.legal);
              counted = keeps.counted ∙ sym (ap begins newer);
              timed = keeps.timed ∙ sym (ap latest newer);
              queued = rw newer (queue_finish fixed''.rules (happened fixed'' before') (jobs before') (bound_count fixed'' before') (job_count before') number at started queue after rise_here is_at stops keeps.queued);
              stands = rw newer (stands_alone fixed'' new (Finish s.caller number ∷ before') left (length after.running.items) now before' room (length queue.running.items) session keeps.stands alone (record { none = alone; committed = after_tables; room_to_finish = omega arith }));
            }

        pub finish_answers : (grown : List Entry) (started : Started) → started ≡ s → grown ≡ entries ++ Finish started.caller started.number ∷ [] → Answers (record { catalog = catalog; bound_rows = most; history = entries }) (to_finish number) said_of.done (record { catalog = catalog; bound_rows = most; history = grown })
        finish_answers grown started is_started added =
            let old : State = record { catalog = catalog; bound_rows = most; history = entries } in
            let entry : Finish started.caller started.number ≡ Finish s.caller number = ap (λ (one : Started). Finish one.caller one.number) is_started ∙ ap (Finish s.caller) found.2 in
            let said : says fixed'' before' (to_finish number) ≡ record { answer = said_of.done; entry = Some (Finish s.caller number) } = ap (said_finish number) found.0 in
            record {
              answered = ap (λ (x : Said). x.answer) said;
              added = ap (λ es. record { catalog = catalog; bound_rows = most; history = es }) (added ∙ ap (λ e. entries ++ e ∷ []) entry) ∙ sym (ap (λ (x : Said). with_entry old x.entry) said);
            }

-- no more jobs than entries were started
jobs_at_most : (past : List Entry) → job_count past ≤ length past
jobs_at_most [] = omega arith
jobs_at_most (Begin c s w r ∷ past) = let rest = jobs_at_most past in omega arith
jobs_at_most (Did c s a reply ∷ past) = let rest = jobs_at_most past in omega arith
jobs_at_most (Commit c s m ∷ past) = let rest = jobs_at_most past in omega arith
jobs_at_most (Undo c s ∷ past) = let rest = jobs_at_most past in omega arith
jobs_at_most (Start c n m a d r ∷ past) = let rest = jobs_at_most past in omega arith
jobs_at_most (Finish c n ∷ past) = let rest = jobs_at_most past in omega arith

pub started_at_most : (f : Fixed) (now : List Keyed) (entries : List Entry) (room : ℕ) (session : Option Session) (total moment : ℕ) (keepers : List Keeper) (queue : Queue) → Keeps f now entries room session total moment keepers queue → queue.jobs ≤ length entries
started_at_most f now entries room session total moment keepers queue keeps =
    let most = jobs_at_most (reverse entries) in
    let same = length-reverse entries in
    let counted = keeps.queued.starts in
    omega arith

-- the actions that wait are of rules that keep tables
pub knows_first : (catalog : Catalog) (most : ℕ) (now : List Keyed) (entries : List Entry) (room : ℕ) (session : Option Session) (total moment : ℕ) (keepers : List Keeper) (queue : Queue) → Keeps (fixed_of catalog most) now entries room session total moment keepers queue → KnowsFirst catalog.tables keepers queue
knows_first catalog most now entries room session total moment keepers queue keeps =
    let f = fixed_of catalog most in
    let past = reverse entries in
    let count : length f.rules ≡ length keepers = rules_count f keeps.built ∙ sym (ap length keeps.keeping) in
    record {
      rules = all_weaker (IsWaiting f.rules (happened f past)) (λ (w : Waiting). w.fired.number < length keepers) (λ w waits. let known = waits.1 in omega arith) queue.waiting.items keeps.queued.waiting;
      tables = subst (AllByRecursion (λ (k : Keeper). k.table < length catalog.tables)) (sym keeps.keeping)
          (all_weaker (KeepsFirst catalog.tables) (λ (k : Keeper). k.table < length catalog.tables) (λ k kept. kept.there) (all_keepers f) (all_kept f keeps.built));
    }

-- the first of them can be started
pub can_start : (catalog : Catalog) (most : ℕ) (now : List Keyed) (entries : List Entry) (room : ℕ) (session : Option Session) (total moment : ℕ) (keepers : List Keeper) (queue other : Queue) (kept : Kept) (def : TableDef) → Keeps (fixed_of catalog most) now entries room session total moment keepers queue
    → SameQueue queue other → kept.entries ≡ entries → PreparesStart catalog.tables keepers other kept (Ok (Some def)) → CanStart def other kept
can_start catalog most now entries room session total moment keepers queue other kept def keeps same is prepared =
    let first = prepared.0 in
    let split : queue.waiting.items ≡ first ∷ prepared.1 = sym same.waiting ∙ prepared.2 in
    let late = max (min 0 (2 ^ 63)) moment in
    let folds = can_start_fold catalog most now entries room session total moment 0 0 late keepers queue keeps refl first prepared.1 split in
    let def_is : def ≡ kept_def (fixed_of catalog most) first.fired.number = prepared.3 ∙ ap (λ ks. def_at catalog.tables (get_or ks first.fired.number no_keeper).table) keeps.keeping in
    let started = started_at_most (fixed_of catalog most) now entries room session total moment keepers queue keeps in
    let jobs_same = same.jobs in
    let long : length kept.entries ≡ length entries = ap length is in
    let enough = prepared.5 in
    record {
      first = first;
      others = prepared.1;
      split = prepared.2;
      folds = subst (λ d. CanFold d first.fired.rows) (sym def_is) folds;
      room = prepared.4;
      entry = omega arith;
      counted = omega arith;
    }

-- a start keeps what is kept, and answers what is said
module _ (catalog : Catalog) (most : ℕ) (now : List Keyed) (entries : List Entry) (room : ℕ) (session : Option Session) (total moment caller asked late : ℕ) (keepers : List Keeper) (queue other : Queue) (was : Kept) (def : TableDef) (keeps : Keeps (fixed_of catalog most) now entries room session total moment keepers queue) (when : late ≡ max (min asked (2 ^ 63)) moment) (same : SameQueue queue other) (is : was.entries ≡ entries) (prepared : PreparesStart catalog.tables keepers other was (Ok (Some def))) (counts : vec_len other.running ≡ length other.running.items) where
  abbrev one_first : Waiting
  one_first = prepared.0

  def_is : def ≡ kept_def (fixed_of catalog most) one_first.fired.number
  def_is = prepared.3 ∙ ap (λ ks. def_at catalog.tables (get_or ks one_first.fired.number no_keeper).table) keeps.keeping

  kept_there_yet : Keeps (fixed_of catalog most) now was.entries was.room session total moment keepers other
  kept_there_yet =
      let running_same : length other.running.items ≡ length queue.running.items = ap length same.running in
      let enough = prepared.5 in
      keeps_enough (fixed_of catalog most) now entries was.entries room was.room session total moment keepers queue other keeps is (omega arith) same

  pub start_keeps : (new : Queue) (kept : Kept) (job : Task) → StartsFirst caller late def other was prepared.0 prepared.1 new kept job → Keeps (fixed_of catalog most) now kept.entries kept.room session total late keepers new
  start_keeps new kept job starts =
      let enough = prepared.5 in
      keeps_start catalog most now was.entries was.room session total moment caller asked late keepers other kept_there_yet when prepared.0 prepared.1 prepared.2 kept.entries kept.room def new was kept job starts refl refl refl (omega arith)

  pub start_says : (new : Queue) (kept : Kept) (job : Task) → StartsFirst caller late def other was prepared.0 prepared.1 new kept job
      → Answers (record { catalog = catalog; bound_rows = most; history = entries }) (to_start caller asked) (taken job) (record { catalog = catalog; bound_rows = most; history = kept.entries })
  start_says new kept job starts =
      let task : job ≡ task_by (other.jobs + 1) caller (plain_id one_first.place one_first.fired.number) one_first.moment (length one_first.fired.rows) (content_of (kept_def (fixed_of catalog most) one_first.fired.number) one_first.fired.rows) =
      starts.task ∙ ap (λ d. task_by (other.jobs + 1) caller (plain_id one_first.place one_first.fired.number) one_first.moment (length one_first.fired.rows) (content_of d one_first.fired.rows)) def_is in
      subst (λ es. Answers (record { catalog = catalog; bound_rows = most; history = es }) (to_start caller asked) (taken job) (record { catalog = catalog; bound_rows = most; history = kept.entries })) is
      (start_answers catalog most now was.entries was.room session total moment caller asked late keepers other kept_there_yet when prepared.0 prepared.1 prepared.2 kept.entries job starts.entries task)

-- no more sessions than entries have begun
pub begun_at_most : (f : Fixed) (now : List Keyed) (entries : List Entry) (room : ℕ) (session : Option Session) (total moment : ℕ) (keepers : List Keeper) (queue : Queue) → Keeps f now entries room session total moment keepers queue → total ≤ length entries
begun_at_most f now entries room session total moment keepers queue keeps =
    let most = begins_at_most (reverse entries) in
    let same = length-reverse entries in
    let counted = keeps.counted in
    omega arith
