-- An act isn't refused exactly where its deed is accepted, so an act suits exactly where some deed stands for it.
use Rattle.std.proofs.Common.{◌≡◌, Bool, true, false, List, [], ◌∷◌, Option, Some, None, Result, Ok, Err, IfOk, filter, nat_le, option_map, refl, sym, ap, ◌∙◌, subst}
use Rattle.std.specs.List.{AllByRecursion}
use Rattle.strip_value.specs.declared.acts.Act.{Act}
use Rattle.strip_value.specs.declared.tables.TableDef.{TableDef}
use Rattle.strip_ast.specs.declared.deeds.Deed.{Deed}
use Rattle.strip_ast.specs.declared.deeds.Deed.TheVariants as deed
use Rattle.strip_ast.specs.declared.statements.Statement.TheVariants as st
use Rattle.strip_setup.specs.declared.errors.SetupError.{SetupError}
use Rattle.strip_setup.specs.declared.errors.SetupError.TheVariants.{Exists, KindMismatch, NotGrouped, TooWide, Unknown}
use Rattle.strip_setup.specs.Catalog.{Catalog, first, refused_if}
use Rattle.strip_names.specs.Exists.{taken_in_deed}
use Rattle.strip_names.specs.Grouped.{is_ungrouped, not_grouped}
use Rattle.strip_names.specs.Limits.{limits_in_deed}
use Rattle.strip_names.specs.Unknown.{unknown_in_deed}
use Rattle.strip_kinds.specs.Mismatch.{mismatched_in_deed}
use Rattle.strip_kinds.specs.Width.{least_wide, magnitudes_in_deed}
use Rattle.strip_acts.specs.Laws.{AreNamed, IsAccepted, is_misplaced}
use Rattle.strip_acts.specs.Suiting.{suits}
use Rattle.strip_acts.specs.Trees.{tree_of}
use Rattle.strip_acts.proofs.SuitingWritten.{suiting_written}
use Rattle.strip_acts.proofs.WrittenSuit.{written_suit}
use Rattle.strip_catalog.specs.Accepted.{IsDeclared}
use Rattle.strip_catalog.specs.Refusals.{first_cause, refusal}
use Rattle.strip_catalog.specs.Suiting.{IsMeant, StandsFor, SuitsWhere}
use Rattle.strip_catalog.proofs.Causes.{IsAbsent, no_cause, none_mapped, none_there}
use Rattle.strip_catalog.proofs.TablesNamed.{tables_named}

-- ---- what is accepted

ungrouped_is : (catalog : Catalog) (d : Deed) → is_ungrouped catalog (st.Deed None d) ≡ is_misplaced catalog.tables d
ungrouped_is catalog (deed.Begin write read) = refl
ungrouped_is catalog deed.Commit = refl
ungrouped_is catalog deed.Undo = refl
ungrouped_is catalog deed.Start = refl
ungrouped_is catalog (deed.Finish number) = refl
ungrouped_is catalog (deed.Return number) = refl
ungrouped_is catalog deed.Run = refl
ungrouped_is catalog deed.ShowPending = refl
ungrouped_is catalog (deed.Insert table rows) = refl
ungrouped_is catalog (deed.Put table row) = refl
ungrouped_is catalog (deed.Update table sets filter) = refl
ungrouped_is catalog (deed.Delete table filter) = refl
ungrouped_is catalog (deed.Select query) = refl
ungrouped_is catalog (deed.Show table) = refl

not_refused : (b : Bool) (e : SetupError) → refused_if b e ≡ None → b ≡ false
not_refused true e none = cc
not_refused false e none = refl

-- the causes of an act, in their order
abbrev causes_of_act : Catalog → Deed → List (Option SetupError)
causes_of_act catalog d =
    option_map Exists (first (taken_in_deed d))
    ∷ option_map Unknown (first (unknown_in_deed catalog.tables d))
    ∷ first (limits_in_deed d)
    ∷ option_map KindMismatch (first (mismatched_in_deed catalog.tables d))
    ∷ option_map TooWide (first (filter (nat_le least_wide) (magnitudes_in_deed catalog.tables d)))
    ∷ not_grouped catalog (st.Deed None d)
    ∷ []

by_causes : (catalog : Catalog) (d : Deed) → refusal catalog (st.Deed None d) ≡ first_cause (causes_of_act catalog d)
unfolding refusal
by_causes catalog d = refl

all_none : (causes : List (Option SetupError)) → AllByRecursion IsAbsent causes → first_cause causes ≡ None
all_none [] none = refl
all_none (None ∷ causes) none = all_none causes none.1
all_none (Some error ∷ causes) none = let absent = none.0 in cc

-- an act that isn't refused is accepted
pub accepted : (catalog : Catalog) (d : Deed) → refusal catalog (st.Deed None d) ≡ None → IsAccepted catalog.tables d
accepted catalog d e =
    let none = no_cause catalog (st.Deed None d) e in
    record {
      once = none_there (taken_in_deed d) (none_mapped Exists (first (taken_in_deed d)) none.1.0);
      known = none_there (unknown_in_deed catalog.tables d) (none_mapped Unknown (first (unknown_in_deed catalog.tables d)) none.1.1.0);
      within = none_there (limits_in_deed d) none.1.1.1.0;
      kinds = none_there (mismatched_in_deed catalog.tables d) (none_mapped KindMismatch (first (mismatched_in_deed catalog.tables d)) none.1.1.1.1.0);
      narrow = none_there (filter (nat_le least_wide) (magnitudes_in_deed catalog.tables d)) (none_mapped TooWide (first (filter (nat_le least_wide) (magnitudes_in_deed catalog.tables d))) none.1.1.1.1.1.0);
      placed = sym (ungrouped_is catalog d) ∙ not_refused (is_ungrouped catalog (st.Deed None d)) NotGrouped none.1.1.1.1.1.1.1.1.1.1.0;
    }

-- an act that is accepted isn't refused
pub accepted_none : (catalog : Catalog) (d : Deed) → IsAccepted catalog.tables d → refusal catalog (st.Deed None d) ≡ None
accepted_none catalog d is =
    by_causes catalog d
    ∙ all_none (causes_of_act catalog d) (
      ap (λ names. option_map Exists (first names)) is.once,
      (
        ap (λ names. option_map Unknown (first names)) is.known,
        (
          ap first is.within,
          (
            ap (λ columns. option_map KindMismatch (first columns)) is.kinds,
            (
              ap (λ magnitudes. option_map TooWide (first magnitudes)) is.narrow,
              (ap (λ b. refused_if b NotGrouped) (ungrouped_is catalog d ∙ is.placed), tt),
            ),
          ),
        ),
      ),
    )

-- ---- which acts suit

-- the tree of an act that suits stands for it
pub tree_stands : (catalog : Catalog) (one : Act) → AreNamed catalog.tables → suits catalog.tables one ≡ true → StandsFor catalog (tree_of catalog.tables one) one
tree_stands catalog one named e =
    let again = suiting_written catalog.tables one named e in
    (again.written, (accepted_none catalog (tree_of catalog.tables one) again.accepted, sym again.again))

-- an act for which some deed stands suits
pub meant_suits : (catalog : Catalog) (one : Act) → AreNamed catalog.tables → IsMeant catalog one → suits catalog.tables one ≡ true
meant_suits catalog one named (d, (written, (none, is))) =
    ap (suits catalog.tables) is ∙ written_suit catalog.tables d named written (accepted catalog d none)

pub suits_where : (catalog : Catalog) (one : Act) (b : Bool) → AreNamed catalog.tables → b ≡ suits catalog.tables one → SuitsWhere catalog one b
suits_where catalog one true named is = (tree_of catalog.tables one, tree_stands catalog one named (sym is))
suits_where catalog one false named is = λ meant. let e = is ∙ meant_suits catalog one named meant in cc

-- ---- catalogs

-- the tables that a catalog lends are named
pub lent_named : (inside now : Catalog) (tables : List TableDef) → inside ≡ now → tables ≡ now.tables → IsDeclared inside → AreNamed tables
lent_named inside now tables inside_is tables_are is =
    subst AreNamed (sym tables_are) (tables_named now (subst IsDeclared inside_is is))

module _ (inside now : Catalog) (tables : List TableDef) (one : Act) (inside_is : inside ≡ now) (tables_are : tables ≡ now.tables) (is : IsDeclared inside) where
  named : AreNamed now.tables
  named = tables_named now (subst IsDeclared inside_is is)

  pub lent_suits : (b : Bool) → b ≡ suits tables one → SuitsWhere now one b
  lent_suits b answer = suits_where now one b named (answer ∙ ap (λ ts. suits ts one) tables_are)

  pub lent_meant : IsMeant now one → suits tables one ≡ true
  lent_meant meant = ap (λ ts. suits ts one) tables_are ∙ meant_suits now one named meant

  -- a tree that was made over the lent tables
  pub lent_stands : IsMeant now one → (d : Deed) → d ≡ tree_of tables one → StandsFor now d one
  lent_stands meant d made =
      subst (λ (of : Deed). StandsFor now of one) (sym (made ∙ ap (λ ts. tree_of ts one) tables_are)) (tree_stands now one named (meant_suits now one named meant))

  pub lent_tree : (d : Deed) → d ≡ tree_of tables one → d ≡ tree_of now.tables one
  lent_tree d made = made ∙ ap (λ ts. tree_of ts one) tables_are

-- what holds of a deed that is made holds of what follows from it
pub ok_weaker : {E : Type 0} (P Q : Deed → Type 0) → ((d : Deed) → P d → Q d) → (r : Result Deed E) → IfOk r P → IfOk r Q
ok_weaker P Q f (Ok d) p = f d p
ok_weaker P Q f (Err e) p = tt
