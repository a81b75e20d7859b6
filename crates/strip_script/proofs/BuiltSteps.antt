-- What statements of the setup do and are answered.
use Rattle.std.proofs.Common.{◌≡◌, ◌≢◌, ℕ, false, List, Some, Result, Ok, Err, refl, sym, ap, ◌∙◌, subst}
use Rattle.strip_ast.specs.declared.statements.Statement.{Statement}
use Rattle.strip_ast.specs.declared.statements.Statement.TheVariants as st
use Rattle.strip_setup.specs.declared.errors.SetupError.{SetupError}
use Rattle.strip_setup.specs.declared.errors.SetupError.TheVariants.{BoundDiffers, Closed, Exists, KindMismatch, Limit, Memory, NoCount, NoKey, NotBound, NotGrouped, ReadsDerived, TooWide, Unknown}
use Rattle.strip_setup.specs.Catalog.{Catalog, refused_if}
use Rattle.strip_catalog.specs.Calls.{Adds, BecomesReady}
use Rattle.strip_catalog.specs.Refusals.{refusal}
use Rattle.strip_catalog.proofs.Adding.{ready_closes, ready_refused}
use Rattle.strip_script.specs.declared.script.Answer.{Answer}
use Rattle.strip_script.specs.Built.{is_late}
use Rattle.strip_script.specs.Refusals.{line_of_error}
use Rattle.strip_script.specs.Script.{Stage, built_step, declare_step, refusing}
use Rattle.strip_script.specs.Stages.{IsStep, set_up_so}

-- the end of the setup is a statement
pub ready_adds : (old new : Catalog) (result : Result Unit SetupError) → BecomesReady old new result → Adds old st.Ready new result
ready_adds old new (Ok u) becomes = (ready_refused old ∙ ap (λ b. refused_if b Closed) becomes.0, becomes.1 ∙ sym (ready_closes old))
ready_adds old new (Err error) becomes =
    subst (λ e. Adds old st.Ready new (Err e)) (sym becomes.0) (ready_refused old ∙ ap (λ b. refused_if b Closed) becomes.1, becomes.2)

-- an error that isn't want of memory is why the statement is refused, and nothing has changed
pub refused_adds : (old new : Catalog) (statement : Statement) (error : SetupError) → error ≢ Memory → Adds old statement new (Err error) → (refusal old statement ≡ Some error) × (new ≡ old)
refused_adds old new statement Memory refused adds = absurd (refused refl)
refused_adds old new statement Closed refused adds = adds
refused_adds old new statement (Exists name) refused adds = adds
refused_adds old new statement (Unknown name) refused adds = adds
refused_adds old new statement (Limit what at) refused adds = adds
refused_adds old new statement (KindMismatch column) refused adds = adds
refused_adds old new statement (TooWide magnitude) refused adds = adds
refused_adds old new statement NoKey refused adds = adds
refused_adds old new statement (ReadsDerived name) refused adds = adds
refused_adds old new statement NoCount refused adds = adds
refused_adds old new statement (NotBound column) refused adds = adds
refused_adds old new statement (BoundDiffers function) refused adds = adds
refused_adds old new statement NotGrouped refused adds = adds

-- a statement that isn't late belongs to the setup
setup_step : (stage : Stage) (statement : Statement) → is_late statement ≡ false → built_step stage statement ≡ declare_step stage statement (refusal stage.catalog statement)
setup_step stage (st.Table name columns key limit) early = refl
setup_step stage (st.Stream name table marked) early = refl
setup_step stage (st.Derive name query) early = refl
setup_step stage (st.Function name steps) early = refl
setup_step stage (st.Rule name table events conditions evaluate function manner) early = refl
setup_step stage (st.Maintain name how manner) early = refl
setup_step stage st.Ready early = refl
setup_step stage (st.At moment) early = refl
setup_step stage (st.Deed caller deed) early = cc

-- one that is refused
pub refused_step : (most : ℕ) (old : Catalog) (statement : Statement) → is_late statement ≡ false → (answer : Answer) (new : Catalog) (error : SetupError) (text : List ℕ)
    → refusal old statement ≡ Some error → new ≡ old → text ≡ line_of_error error → IsStep (refusing (set_up_so most new) text) answer
    → IsStep (built_step (set_up_so most old) statement) answer
refused_step most old statement early answer new error text refused new_is text_is step =
    subst (λ is. IsStep is answer) (sym (setup_step (set_up_so most old) statement early ∙ ap (declare_step (set_up_so most old) statement) refused))
    (subst (λ bytes. IsStep (refusing (set_up_so most old) bytes) answer) text_is (subst (λ catalog. IsStep (refusing (set_up_so most catalog) text) answer) new_is step))
