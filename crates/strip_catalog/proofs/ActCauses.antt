-- Why an act is refused: its causes in turn.
use Rattle.std.proofs.Common.{◌≡◌, Bool, List, [], ◌∷◌, Option, None, Result, Err, filter, nat_le, option_map, refl, sym, ap, ◌∙◌, subst}
use Rattle.strip_value.specs.declared.tables.TableDef.{TableDef}
use Rattle.strip_ast.specs.declared.deeds.Deed.{Deed}
use Rattle.strip_ast.specs.declared.deeds.Deed.TheVariants as deed
use Rattle.strip_ast.specs.declared.queries.QueryTree.{QueryTree}
use Rattle.strip_ast.specs.declared.statements.Statement.TheVariants as st
use Rattle.strip_setup.specs.declared.errors.SetupError.{SetupError}
use Rattle.strip_setup.specs.declared.errors.SetupError.TheVariants.{Exists, KindMismatch, NotGrouped, TooWide, Unknown}
use Rattle.strip_setup.specs.Catalog.{Catalog, first, refused_if}
use Rattle.strip_setup.specs.Checks.{Checks}
use Rattle.strip_setup.specs.Places.{AsksFew}
use Rattle.strip_setup.specs.Queries.{Scope, query_of}
use Rattle.strip_setup.specs.Resolve.{outside_rules}
use Rattle.strip_setup.specs.Small.{IsSmallScope}
use Rattle.strip_setup.proofs.Firsts.{carried}
use Rattle.strip_names.specs.Exists.{taken_in_deed}
use Rattle.strip_names.specs.Grouped.{has_misplaced, not_grouped}
use Rattle.strip_names.specs.Limits.{limits_in_deed}
use Rattle.strip_names.specs.Unknown.{unknown_in_deed}
use Rattle.strip_kinds.specs.Mismatch.{mismatched_in_deed}
use Rattle.strip_kinds.specs.Width.{least_wide, magnitudes_in_deed}
use Rattle.strip_catalog.specs.Laws.{IsSmall}
use Rattle.strip_catalog.specs.Refusals.{first_cause, refusal}
use Rattle.strip_catalog.proofs.Causes.{no_limit}
use Rattle.strip_catalog.proofs.Fitting.{query_few}
use Rattle.strip_catalog.proofs.InTurn.{turn_last, turn_passed, turn_refused}
use Rattle.strip_catalog.proofs.Refused.{select_ungrouped}

-- an act that asks a query is refused for its items exactly where one may not stand in it
pub select_grouped : (catalog : Catalog) (tables : List TableDef) (d : Deed) (query : QueryTree) (scope : Scope) (b : Bool) → d ≡ deed.Select query → tables ≡ catalog.tables → scope ≡ outside_rules tables → b ≡ has_misplaced (query_of scope query) → not_grouped catalog (st.Deed None d) ≡ refused_if b NotGrouped
select_grouped catalog tables d query scope b is tables_are scope_is b_is =
    let there = sym (scope_is ∙ ap outside_rules tables_are) in
    ap (λ (of : Bool). refused_if of NotGrouped) (select_ungrouped catalog (st.Deed None d) None d query scope refl is there ∙ sym b_is)

module _ (catalog : Catalog) (tables : List TableDef) (d : Deed) (is : tables ≡ catalog.tables) where
  abbrev taken : Option SetupError
  taken = option_map Exists (first (taken_in_deed d))

  abbrev unknown : List TableDef → Option SetupError
  unknown ts = option_map Unknown (first (unknown_in_deed ts d))

  abbrev limit : Option SetupError
  limit = first (limits_in_deed d)

  abbrev mismatch : List TableDef → Option SetupError
  mismatch ts = option_map KindMismatch (first (mismatched_in_deed ts d))

  abbrev wide : List TableDef → Option SetupError
  wide ts = option_map TooWide (first (filter (nat_le least_wide) (magnitudes_in_deed ts d)))

  abbrev grouped : Option SetupError
  grouped = not_grouped catalog (st.Deed None d)

  -- the causes behind each, those that look at tables over these
  abbrev after_wide : List (Option SetupError)
  after_wide = grouped ∷ []

  abbrev after_mismatch : List TableDef → List (Option SetupError)
  after_mismatch ts = wide ts ∷ after_wide

  abbrev after_limit : List TableDef → List (Option SetupError)
  after_limit ts = mismatch ts ∷ after_mismatch ts

  abbrev after_unknown : List TableDef → List (Option SetupError)
  after_unknown ts = limit ∷ after_limit ts

  abbrev after_taken : List TableDef → List (Option SetupError)
  after_taken ts = unknown ts ∷ after_unknown ts

  by_causes : refusal catalog (st.Deed None d) ≡ first_cause (taken ∷ after_taken tables)
  unfolding refusal
  by_causes = subst (λ (ts : List TableDef). refusal catalog (st.Deed None d) ≡ first_cause (taken ∷ after_taken ts)) (sym is) refl

  pub act_taken : (e : SetupError) → Checks taken (Err e) → Checks (refusal catalog (st.Deed None d)) (Err e)
  act_taken e p = carried _ _ (Err e) by_causes (turn_refused taken (after_taken tables) e p)

  -- where no name is taken
  past_taken : (r : Result Unit SetupError) → taken ≡ None → Checks (first_cause (after_taken tables)) r → Checks (refusal catalog (st.Deed None d)) r
  past_taken r one p = carried _ _ r by_causes (turn_passed taken (after_taken tables) r one p)

  pub act_unknown : (e : SetupError) → taken ≡ None → Checks (unknown tables) (Err e) → Checks (refusal catalog (st.Deed None d)) (Err e)
  act_unknown e one p = past_taken (Err e) one (turn_refused (unknown tables) (after_unknown tables) e p)

  -- and all names are there
  past_unknown : (r : Result Unit SetupError) → taken ≡ None → unknown tables ≡ None → Checks (first_cause (after_unknown tables)) r → Checks (refusal catalog (st.Deed None d)) r
  past_unknown r one two p = past_taken r one (turn_passed (unknown tables) (after_unknown tables) r two p)

  pub act_limit : (e : SetupError) → taken ≡ None → unknown tables ≡ None → Checks limit (Err e) → Checks (refusal catalog (st.Deed None d)) (Err e)
  act_limit e one two p = past_unknown (Err e) one two (turn_refused limit (after_limit tables) e p)

  -- and no limit is passed
  past_limit : (r : Result Unit SetupError) → taken ≡ None → unknown tables ≡ None → limit ≡ None → Checks (first_cause (after_limit tables)) r → Checks (refusal catalog (st.Deed None d)) r
  past_limit r one two three p = past_unknown r one two (turn_passed limit (after_limit tables) r three p)

  pub act_mismatch : (e : SetupError) → taken ≡ None → unknown tables ≡ None → limit ≡ None → Checks (mismatch tables) (Err e) → Checks (refusal catalog (st.Deed None d)) (Err e)
  act_mismatch e one two three p = past_limit (Err e) one two three (turn_refused (mismatch tables) (after_mismatch tables) e p)

  -- and kinds go together
  past_mismatch : (r : Result Unit SetupError) → taken ≡ None → unknown tables ≡ None → limit ≡ None → mismatch tables ≡ None → Checks (first_cause (after_mismatch tables)) r → Checks (refusal catalog (st.Deed None d)) r
  past_mismatch r one two three four p = past_limit r one two three (turn_passed (mismatch tables) (after_mismatch tables) r four p)

  pub act_wide : (e : SetupError) → taken ≡ None → unknown tables ≡ None → limit ≡ None → mismatch tables ≡ None → Checks (wide tables) (Err e) → Checks (refusal catalog (st.Deed None d)) (Err e)
  act_wide e one two three four p = past_mismatch (Err e) one two three four (turn_refused (wide tables) after_wide e p)

  -- nothing but items and groups is left
  pub act_grouped : (r : Result Unit SetupError) → taken ≡ None → unknown tables ≡ None → limit ≡ None → mismatch tables ≡ None → wide tables ≡ None → Checks grouped r → Checks (refusal catalog (st.Deed None d)) r
  act_grouped r one two three four five p = past_mismatch r one two three four (turn_passed (wide tables) after_wide r five (turn_last grouped r p))

-- an act that isn't refused asks no query with more than three entries
deed_few : (d : Deed) → limits_in_deed d ≡ [] → AsksFew d
deed_few (deed.Begin write read) e = tt
deed_few deed.Commit e = tt
deed_few deed.Undo e = tt
deed_few deed.Start e = tt
deed_few (deed.Finish number) e = tt
deed_few (deed.Return number) e = tt
deed_few deed.Run e = tt
deed_few deed.ShowPending e = tt
deed_few (deed.Insert table rows) e = tt
deed_few (deed.Put table row) e = tt
deed_few (deed.Update table sets filter) e = tt
deed_few (deed.Delete table filter) e = tt
deed_few (deed.Select query) e = query_few query e
deed_few (deed.Show table) e = tt

pub act_few : (catalog : Catalog) (d : Deed) → refusal catalog (st.Deed None d) ≡ None → AsksFew d
act_few catalog d e = deed_few d (no_limit catalog (st.Deed None d) e)

-- the tables of a small catalog are a small scope outside rules
pub small_outside : (catalog : Catalog) (tables : List TableDef) → tables ≡ catalog.tables → IsSmall catalog → IsSmallScope (outside_rules tables)
small_outside catalog tables is small =
    subst (λ (ts : List TableDef). IsSmallScope (outside_rules ts)) (sym is) (record { tables = small.tables; narrow = small.narrow; changed = tt })
