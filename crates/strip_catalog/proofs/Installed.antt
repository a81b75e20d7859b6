-- A catalog in which a derived table is kept from now on is one that statements declare.
use Rattle.std.proofs.Common.{◌≡◌, ◌<◌, length, None, Result, Ok, Err, refl, sym, ◌∙◌, subst}
use Rattle.strip_setup.specs.declared.errors.SetupError.{SetupError}
use Rattle.strip_setup.specs.Catalog.{Catalog}
use Rattle.strip_catalog.specs.declared.additions.Addition.{Addition}
use Rattle.strip_catalog.specs.declared.made.Made.{Made}
use Rattle.strip_catalog.specs.Accepted.{IsDeclared}
use Rattle.strip_catalog.specs.Calls.{Adds, AddsKept, Installs, IsAdded, with_addition}
use Rattle.strip_catalog.specs.Laws.{NamesItsNumbers}
use Rattle.strip_catalog.specs.Made.{IsMade, statement_of}
use Rattle.strip_catalog.specs.Refusals.{refusal}
use Rattle.strip_catalog.proofs.Adding.{added_declared}
use Rattle.strip_catalog.proofs.Kept.{below, kept_is}
use Rattle.strip_catalog.proofs.Numbering.{own_numbers}

pub lent_numbers : (inside now lent : Catalog) → inside ≡ now → lent ≡ now → IsDeclared inside → NamesItsNumbers lent
lent_numbers inside now lent inside_is lent_is is = own_numbers lent (subst IsDeclared (inside_is ∙ sym lent_is) is)

module _ (inside now lent : Catalog) (made : Made) (inside_is : inside ≡ now) (lent_is : lent ≡ now) (is : IsDeclared inside) (is_made : IsMade now made) where
  numbers : NamesItsNumbers now
  numbers = own_numbers now (subst IsDeclared inside_is is)

  pub made_below : made.table < length inside.tables
  made_below = subst (λ (c : Catalog). made.table < length c.tables) (sym inside_is) (below now made numbers is_made)

  module _ (one : Addition) (adds : AddsKept inside.tables inside.functions made one) (none : refusal lent (statement_of lent made) ≡ None) where
    added : IsAdded now (statement_of now made) one
    added = kept_is now made numbers is_made one (subst (λ (c : Catalog). AddsKept c.tables c.functions made one) inside_is adds)

    not_refused : refusal now (statement_of now made) ≡ None
    not_refused = subst (λ (c : Catalog). refusal c (statement_of c made) ≡ None) lent_is none

    pub kept_declared : IsDeclared (with_addition now one)
    kept_declared =
        added_declared inside now now (statement_of now made) one inside_is refl is
        tt not_refused added

    pub kept_adds : (new : Catalog) (r : Result Unit SetupError) → Installs now one new r → Adds now (statement_of now made) new r
    kept_adds new (Ok u) installs = (not_refused, installs ∙ sym added)
    kept_adds new (Err e) installs = subst (λ (of : SetupError). Adds now (statement_of now made) new (Err of)) (sym installs.0) installs.1
