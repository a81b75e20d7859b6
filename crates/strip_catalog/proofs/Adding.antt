-- A catalog stays one that statements declare.
use Rattle.std.proofs.Common.{◌≡◌, Bool, true, false, [], ◌∷◌, None, refl, sym, ap, ◌∙◌, subst}
use Rattle.strip_ast.specs.declared.statements.Statement.{Statement}
use Rattle.strip_ast.specs.declared.statements.Statement.TheVariants as st
use Rattle.strip_setup.specs.declared.errors.SetupError.TheVariants.{Closed}
use Rattle.strip_catalog.specs.Accepted.{HasText, IsDeclared, IsWritten}
use Rattle.strip_setup.specs.Adds.{with_statement}
use Rattle.strip_setup.specs.Catalog.{Catalog, refused_if}
use Rattle.strip_catalog.specs.Refusals.{first_cause, refusal}
use Rattle.strip_catalog.specs.Calls.{IsAdded, IsDeclaration, with_addition}
use Rattle.strip_catalog.specs.Laws.{IsSmall}
use Rattle.strip_catalog.specs.declared.additions.Addition.{Addition}
use Rattle.strip_catalog.proofs.Sizes.{small}

-- a statement that isn't refused declares one more
pub still_declared : (catalog : Catalog) (statement : Statement) → IsDeclared catalog → IsWritten statement → refusal catalog statement ≡ None → IsDeclared (with_statement catalog statement)
still_declared catalog statement is written none = record {
  statements = statement ∷ is.statements;
  accepted = (is.accepted, written, subst (λ c. refusal c statement ≡ None) is.is none);
  is = ap (λ c. with_statement c statement) is.is;
}

-- the end of setup is refused exactly where it came before
pub ready_refused : (catalog : Catalog) → refusal catalog st.Ready ≡ refused_if catalog.closed Closed
unfolding refusal
ready_refused catalog = by_closed catalog.closed
  where
    by_closed : (b : Bool) → first_cause (refused_if b Closed ∷ None ∷ None ∷ None ∷ None ∷ None ∷ None ∷ None ∷ None ∷ None ∷ None ∷ []) ≡ refused_if b Closed
    by_closed true = refl
    by_closed false = refl

pub ready_closes : (catalog : Catalog) → with_statement catalog st.Ready ≡ record catalog { closed = true }
unfolding with_statement
ready_closes catalog = refl

pub ready_declared : (catalog : Catalog) → IsDeclared catalog → catalog.closed ≡ false → IsDeclared (record catalog { closed = true })
ready_declared catalog is unclosed = subst IsDeclared (ready_closes catalog) (still_declared catalog st.Ready is tt (ready_refused catalog ∙ ap (λ b. refused_if b Closed) unclosed))

-- what declares and has a text is written
pub text_written : (statement : Statement) → IsDeclaration statement → HasText statement → IsWritten statement
text_written (st.Table name columns key limit) is has = has
text_written (st.Stream name table marked) is has = has
text_written (st.Derive name query) is has = has
text_written (st.Function name steps) is has = has
text_written (st.Rule name table events conditions evaluate function manner) is has = has
text_written (st.Maintain name how manner) is has = tt
text_written st.Ready is has = tt
text_written (st.At moment) is has = tt
text_written (st.Deed caller deed) is has = tt

-- ---- what a catalog lends to the checks

pub lent_small : (inside now lent : Catalog) → inside ≡ now → lent ≡ now → IsDeclared inside → IsSmall lent
lent_small inside now lent inside_is lent_is is = small lent (subst IsDeclared (inside_is ∙ sym lent_is) is)

pub added_declared : (inside now lent : Catalog) (statement : Statement) (one : Addition) → inside ≡ now → lent ≡ now → IsDeclared inside → IsWritten statement → refusal lent statement ≡ None → IsAdded lent statement one → IsDeclared (with_addition now one)
added_declared inside now lent statement one inside_is lent_is is written none added =
    subst (λ c. IsDeclared (with_addition c one)) lent_is
    (subst IsDeclared added (still_declared lent statement (subst IsDeclared (inside_is ∙ sym lent_is) is) written none))
