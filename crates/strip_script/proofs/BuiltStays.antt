-- What a script declares stays what the engine serves, statement by statement.
use Rattle.std.proofs.Common.{◌≡◌, ℕ, true, false, List, None, is_some, refl, sym, subst}
use Rattle.strip_value.specs.declared.tables.By.TheVariants as by
use Rattle.strip_ast.specs.declared.rules.Manner.{Manner}
use Rattle.strip_ast.specs.declared.statements.Statement.{Statement}
use Rattle.strip_ast.specs.declared.statements.Statement.TheVariants as st
use Rattle.strip_setup.specs.Adds.{with_statement}
use Rattle.strip_setup.specs.Catalog.{Catalog, table_id}
use Rattle.strip_setup.specs.Maintain.{manner_of, with_kept}
use Rattle.strip_setup.specs.Resolve.{derived_of, table_of}
use Rattle.strip_catalog.specs.Accepted.{HasText, IsDeclared, IsWritten}
use Rattle.strip_catalog.specs.First.{first_made}
use Rattle.strip_catalog.specs.Refusals.{refusal}
use Rattle.strip_catalog.proofs.Adding.{still_declared}
use Rattle.strip_catalog.proofs.SoundFound.{both_true}
use Rattle.strip_engine.specs.Built.{IsBuilt}
use Rattle.strip_engine.specs.State.{fixed_of}
use Rattle.strip_script.specs.Built.{is_at_once, is_built, is_late}
use Rattle.strip_script.proofs.BuiltForm.{keepable, manner_at_once}
use Rattle.strip_script.proofs.BuiltKept.{kept_served}
use Rattle.strip_script.proofs.BuiltMore.{more_served}

-- what has a text is written
written : (statement : Statement) → HasText statement → IsWritten statement
written (st.Table name columns key limit) text = text
written (st.Stream name table marked) text = text
written (st.Derive name query) text = text
written (st.Function name steps) text = text
written (st.Rule name table events conditions evaluate function manner) text = text
written (st.Maintain name how manner) text = tt
written st.Ready text = tt
written (st.At moment) text = tt
written (st.Deed caller deed) text = tt

-- what an accepted statement of the setup leaves was declared
pub declared_stays : (catalog : Catalog) (statement : Statement) → IsDeclared catalog → is_late statement ≡ false → HasText statement → refusal catalog statement ≡ None → IsDeclared (with_statement catalog statement)
declared_stays catalog statement declared early text accepted = still_declared catalog statement declared (written statement text) accepted

-- a table that is to be kept
maintain_served : (catalog : Catalog) (most : ℕ) (name : List ℕ) (manner : Manner) → IsDeclared catalog → IsBuilt (fixed_of catalog most) → is_at_once manner ≡ true → is_some (first_made catalog name) ≡ true
    → IsDeclared (with_kept catalog (table_id catalog.tables name) by.Sum (manner_of manner)) → IsBuilt (fixed_of (with_kept catalog (table_id catalog.tables name) by.Sum (manner_of manner)) most)
maintain_served catalog most name manner declared served manner_is made still =
    let id = table_id catalog.tables name in
    let same = manner_at_once manner manner_is in
    subst (λ how. IsBuilt (fixed_of (with_kept catalog id by.Sum how) most)) (sym same)
    (kept_served catalog most id (keepable catalog name made) served declared (subst (λ how. IsDeclared (with_kept catalog id by.Sum how)) same still))

-- ---- statements

-- and is served, where the statement is built
pub built_stays : (catalog : Catalog) (most : ℕ) (statement : Statement) → IsDeclared catalog → IsBuilt (fixed_of catalog most) → is_late statement ≡ false → is_built catalog statement ≡ true → HasText statement → refusal catalog statement ≡ None
    → IsBuilt (fixed_of (with_statement catalog statement) most)
unfolding with_statement
built_stays catalog most (st.Table name columns key limit) declared served early built text accepted =
    more_served catalog most (table_of name columns key limit) refl served (declared_stays catalog (st.Table name columns key limit) declared early text accepted)
built_stays catalog most (st.Stream name table marked) declared served early built text accepted = served
built_stays catalog most (st.Derive name query) declared served early built text accepted =
    more_served catalog most (derived_of catalog.tables name query) refl served (declared_stays catalog (st.Derive name query) declared early text accepted)
built_stays catalog most (st.Function name steps) declared served early built text accepted = cc
built_stays catalog most (st.Rule name table events conditions evaluate function manner) declared served early built text accepted = cc
built_stays catalog most (st.Maintain name by.Sum manner) declared served early built text accepted =
    let both = both_true (is_at_once manner) (is_some (first_made catalog name)) built in
    maintain_served catalog most name manner declared served both.0 both.1 (declared_stays catalog (st.Maintain name by.Sum manner) declared early text accepted)
built_stays catalog most (st.Maintain name by.Key manner) declared served early built text accepted = cc
built_stays catalog most st.Ready declared served early built text accepted = served
built_stays catalog most (st.At moment) declared served early built text accepted = cc
built_stays catalog most (st.Deed caller deed) declared served early built text accepted = cc
