-- Where nothing waits and nothing runs, the rows that are shown of a table that is kept are those of its query.
use Rattle.std.proofs.Common.{◌≡◌, ℕ, zero, suc, ◌+◌, ◌<◌, ◌≤◌, Bool, true, false, not, ◌&&◌, ◌||◌, ◌==◌, cond, List, [], ◌∷◌, ◌++◌, length, Option, Some, None, is_none, unwrap_or, bytes_eq, refl, sym, ap, ◌∙◌, subst, arith}
use Rattle.std.proofs.Math.Bool.{or-true}
use Rattle.std.proofs.lemmas.Bool.{eqb-true}
use Rattle.std.proofs.lemmas.List.Quantifiers.{position-Some}
use Rattle.std.proofs.lemmas.Slice.Eq.{bytes_eq-Decides}
use Rattle.strip_value.specs.declared.acts.Act.{Act}
use Rattle.strip_value.specs.declared.acts.Act.TheVariants as act
use Rattle.strip_value.specs.declared.acts.ActError.TheVariants.{NotHeld}
use Rattle.strip_value.specs.declared.acts.Holds.{Holds}
use Rattle.strip_value.specs.declared.acts.Reply.TheVariants.{Rows}
use Rattle.strip_value.specs.declared.pieces.Piece.TheVariants as piece
use Rattle.strip_value.specs.declared.tables.TableDef.{TableDef}
use Rattle.strip_value.specs.Table.{Keyed}
use Rattle.strip_ast.specs.declared.deeds.Deed.TheVariants as deed
use Rattle.strip_ast.specs.declared.statements.Statement.TheVariants as st
use Rattle.strip_parse.specs.Parsed.{parsed}
use Rattle.strip_setup.specs.Catalog.{Catalog, name_if, table_named, table_number}
use Rattle.strip_setup.proofs.Numbers.{table_below}
use Rattle.strip_catalog.specs.Refusals.{refusal}
use Rattle.strip_catalog.proofs.Accepting.{accepted_none}
use Rattle.strip_catalog.proofs.Named.{def_named}
use Rattle.strip_meaning.specs.Contents.{def_at}
use Rattle.strip_meaning.specs.Effect.{done, effect, has_id, no_table, not_held, run, table_at, unless}
use Rattle.strip_model.specs.declared.entries.Entry.{Entry}
use Rattle.strip_model.specs.declared.entries.Entry.TheVariants.{Did}
use Rattle.strip_model.specs.History.{acts, base, begins, changes, holds, live}
use Rattle.strip_model.specs.Derived.{Fixed, at_begin, beginning, bound_count, fired_at, fired_from, tables, working}
use Rattle.strip_model.specs.Legal.{Legal, reply_of}
use Rattle.strip_model.specs.Says.{chosen, late, read_besides, row_count, to_begin}
use Rattle.strip_model.specs.Texts.{line_of_reply, rows_text}
use Rattle.strip_model.proofs.Courses.{bound_count_commit}
use Rattle.strip_model.proofs.HistoryLaws.{itself, no_acts}
use Rattle.strip_engine.specs.declared.keepers.Keeper.{Keeper}
use Rattle.strip_engine.specs.Built.{IsBuilt}
use Rattle.strip_engine.specs.Changes.{fired_by}
use Rattle.strip_engine.specs.Keepers.{all_keepers}
use Rattle.strip_engine.proofs.BoundRows.{bound_within}
use Rattle.strip_engine.proofs.KeeperRules.{fired_is}
use Rattle.strip_engine.proofs.QuietTables.{quiet_tables_are_queries}
use Rattle.strip_script.specs.declared.alone.Outcome.TheVariants.{Replied}
use Rattle.strip_script.specs.Refusals.{line_of_not_ready}
use Rattle.strip_script.specs.Script.{Stage, act_step, after_call, deed_step, done_alone, fixed_at, is_refusal, opening, outcome_text, parsed_step, refusing, replies, silent, stage_after, step}
use Rattle.strip_script.specs.Shown.{IsQuietShow, QuietShowsAreQueries, rows_asked}
use Rattle.strip_script.specs.Stages.{IsSound}
use Rattle.strip_script.proofs.AloneLaws.{commit_entry, replied}
use Rattle.strip_script.proofs.RunState.{replies_split, stage_after-append}
use Rattle.strip_script.proofs.SoundLaws.{opening_sound, stages_sound}

-- ---- what is asked for is held

has_later : (from id : ℕ) (b : Bool) (ids : List ℕ) → has_id ids id ≡ true → has_id (cond b (from ∷ []) [] ++ ids) id ≡ true
has_later from id true ids e = ap (λ b. (from == id) || b) e ∙ or-true (from == id)
has_later from id false ids e = e

not_both : (b : Bool) → b ≡ true → b ≡ false → ⊥
not_both b one other = cc

next_id : (from id : ℕ) → from ≤ id → (from ≡ id → ⊥) → from + 1 ≤ id
next_id from id low differ = omega (arith, differ)

chosen_has : (passes : ℕ → Bool) (id from count : ℕ) → passes id ≡ true → from ≤ id → id < from + count → has_id (chosen passes from count) id ≡ true
chosen_has passes id from zero pass low high = absurd (omega arith)
chosen_has passes id from (suc count) pass low high = by_test (from == id) refl (λ above. chosen_has passes id (from + 1) count pass above (omega arith))
  where
    by_test : (b : Bool) → (from == id) ≡ b → (from + 1 ≤ id → has_id (chosen passes (from + 1) count) id ≡ true) → has_id (cond (passes from) (from ∷ []) [] ++ chosen passes (from + 1) count) id ≡ true
    by_test true e rest =
        let here : passes from ≡ true = ap passes (eqb-true from id e) ∙ pass in
        ap (λ b. has_id (cond b (from ∷ []) [] ++ chosen passes (from + 1) count) id) here ∙ ap (λ b. b || has_id (chosen passes (from + 1) count) id) e
    by_test false e rest = has_later from id (passes from) (chosen passes (from + 1) count) (rest (next_id from id low (λ same. not_both (from == id) (ap (λ n. n == id) same ∙ itself id) e)))

-- no change binds a row
none_by : (number : ℕ) (keepers : List Keeper) → fired_by number keepers [] ≡ []
none_by number [] = refl
none_by number (k ∷ ks) = none_by (number + 1) ks

-- ---- a table shown in a transaction of its own

module _ (f : Fixed) (past : List Entry) (id : ℕ) (built : IsBuilt f) (legal : Legal f past) (none : live past ≡ []) (there : id < length f.defs) where
  abbrev one : Act
  one = act.Show id

  abbrev s : ℕ
  s = begins past + 1

  abbrev begun : List Entry
  begun = after_call f past (to_begin 0 [] (id ∷ []))

  abbrev held : Holds
  held = record { write = chosen (has_id []) 0 (length f.defs); read = chosen (read_besides [] (id ∷ [])) 0 (length f.defs) }

  holds_now : holds begun s ≡ held
  holds_now = ap (λ b. cond b held (holds past s)) (itself s)

  is_held : not_held held id ≡ None
  is_held =
      let asked : read_besides [] (id ∷ []) id ≡ true = ap (λ b. (b || false) && true) (itself id) in
      let has : has_id held.read id ≡ true = chosen_has (read_besides [] (id ∷ [])) id 0 (length f.defs) asked (omega arith) (omega arith) in
      ap (λ b. cond (has_id held.write id || b) None (Some (NotHeld id))) has ∙ ap (λ b. cond b None (Some (NotHeld id))) (or-true (has_id held.write id))

  nothing_done : acts begun s ≡ []
  nothing_done = no_acts f past s legal (omega arith)

  tables_now : working f begun s ≡ tables f past
  tables_now =
      ap (λ as'. (run (holds begun s) (at_begin f begun s) as').tables) nothing_done
      ∙ ap (λ b. cond b (tables f past) (at_begin f past s)) (itself s)

  shown : (h : Holds) (ts : List Keyed) → not_held h id ≡ None → (effect h ts one).reply ≡ Rows (table_at ts id).rows
  unfolding effect
  shown h ts e = ap (λ o. (unless o ts (done ts one)).reply) e

  unchanged : (h : Holds) (ts : List Keyed) → not_held h id ≡ None → (effect h ts one).changes ≡ []
  unfolding effect
  unchanged h ts e = ap (λ o. (unless o ts (done ts one)).changes) e

  reply_is : reply_of f begun s one ≡ Rows (table_at (tables f past) id).rows
  reply_is =
      ap (λ h. (effect h (working f begun s) one).reply) holds_now
      ∙ ap (λ ts. (effect held ts one).reply) tables_now
      ∙ shown held (tables f past) is_held

  abbrev did : List Entry
  did = Did 0 s one (reply_of f begun s one) ∷ begun

  one_done : acts did s ≡ one ∷ []
  one_done = ap (λ b. cond b (one ∷ []) [] ++ acts begun s) (itself s) ∙ ap (λ as'. one ∷ as') nothing_done

  no_changes : changes (beginning f) did s ≡ []
  no_changes =
      ap (λ as'. (run (holds did s) (base (beginning f) did) as').changes) one_done
      ∙ ap (λ h. (effect h (base (beginning f) did) one).changes) holds_now
      ∙ unchanged held (base (beginning f) did) is_held

  none_fired : fired_at f did s ≡ []
  none_fired =
      let before = base (beginning f) did in
      let after = (run (holds did s) before (acts did s)).tables in
      ap (fired_from 0 f.rules before after) no_changes ∙ fired_is f built before after [] tt ∙ none_by 0 (all_keepers f)

  within : bound_count f (commit_entry f past [] (id ∷ []) one none ∷ did) ≤ f.most
  within =
      let counted = bound_count_commit f did 0 s (late did 0) in
      let no_row = ap row_count none_fired in
      let before = bound_within f past legal in
      omega arith

  outcome_is : (done_alone f past one).outcome ≡ Replied (Rows (table_at (tables f past) id).rows)
  outcome_is =
      replied f past [] (id ∷ []) one none (ap is_refusal reply_is) within ∙ ap (λ reply. Replied reply) reply_is

-- ---- a table by its name

-- the table of a number that a name has is the table of that name
named_there : (defs : List TableDef) (name : List ℕ) (id : ℕ) → table_number defs name ≡ Some id → table_named defs name ≡ Some (def_at defs id)
named_there defs name id e =
    let at = position-Some (λ (def : TableDef). bytes_eq def.name name) defs id no_table.def e in
    let same : (def_at defs id).name ≡ name = (bytes_eq-Decides (def_at defs id).name name).0 at.1 in
    subst (λ n. table_named defs n ≡ Some (def_at defs id)) same (def_named defs id at.0 (subst (λ n. table_number defs n ≡ Some id) (sym same) e))

-- a table that is there is shown
pub show_accepted : (catalog : Catalog) (name : List ℕ) (id : ℕ) → table_number catalog.tables name ≡ Some id → refusal catalog (st.Deed None (deed.Show name)) ≡ None
show_accepted catalog name id e =
    accepted_none catalog (deed.Show name) (record {
      once = refl;
      known = ap (λ (o : Option TableDef). name_if (is_none o) name) (named_there catalog.tables name id e);
      within = refl;
      kinds = refl;
      narrow = refl;
      placed = refl;
    })

-- ---- what is written

module _ (stage : Stage) (bytes : List ℕ) (id : ℕ) (sound : IsSound stage) (q : IsQuietShow stage bytes id) where
  abbrev served : Fixed
  served = fixed_at stage

  outcome_here : (done_alone served stage.past (act.Show id)).outcome ≡ Replied (Rows (table_at (tables served stage.past) id).rows)
  outcome_here = outcome_is served stage.past id sound.built sound.legal sound.none (table_below stage.catalog.tables q.name id q.named)

  rows_are : (table_at (tables served stage.past) id).rows ≡ rows_asked stage id
  rows_are = quiet_tables_are_queries served stage.past id sound.built sound.legal q.quiet q.derived q.declared

  pub shown_text : (step stage (piece.Statement bytes)).text ≡ rows_text (rows_asked stage id)
  unfolding step line_of_reply
  shown_text =
      ap (λ b. (cond b (silent stage) (parsed_step stage (parsed bytes))).text) q.worded
      ∙ ap (λ r. (parsed_step stage r).text) q.shows
      ∙ ap (λ b. (cond (not b) (refusing stage line_of_not_ready) (deed_step stage (deed.Show q.name))).text) q.closed
      ∙ ap (λ o. (act_step stage (deed.Show q.name) o).text) (show_accepted stage.catalog q.name id q.named)
      ∙ ap (λ n. outcome_text stage.catalog.tables (done_alone served stage.past (act.Show (unwrap_or n 0))).outcome) q.named
      ∙ ap (outcome_text stage.catalog.tables) outcome_here
      ∙ ap rows_text rows_are

pub quiet_shows_are_queries : QuietShowsAreQueries
quiet_shows_are_queries most before bytes after id q =
    let stage = stage_after (opening most) before in
    let shown = piece.Statement bytes in
    replies_split (opening most) before (shown ∷ after)
    ∙ ap (λ text. replies (opening most) before ++ (text ++ replies (step stage shown).stage after)) (shown_text stage bytes id (stages_sound (opening most) before (opening_sound most)) q)
    ∙ ap (λ behind. replies (opening most) before ++ (rows_text (rows_asked stage id) ++ replies behind after)) (sym (stage_after-append (opening most) before shown))
