use Rattle.std.proofs.Common.{◌≡◌, ℕ, true, false, Option, Some, refl, sym, ap, ◌∙◌, subst}
use Rattle.strip_ast.specs.declared.deeds.Deed.{Deed}
use Rattle.strip_ast.specs.declared.statements.Statement.{Statement}
use Rattle.strip_ast.specs.declared.statements.Statement.TheVariants as st
use Rattle.strip_setup.specs.Catalog.{Catalog}
use Rattle.strip_setup.specs.declared.errors.SetupError.TheVariants.{Closed}
use Rattle.strip_catalog.specs.Refusals.{refusal}
use Rattle.strip_script.specs.Built.{is_built, is_late}
use Rattle.strip_script.specs.Refusals.{line_of_error}
use Rattle.strip_script.specs.Script.{Stage, Step, built_step, declare_step, refusing}
use Rattle.strip_script.specs.Stages.{IsStep}
use Rattle.strip_script.proofs.JobLaws.{shown}
use Rattle.strip_script.proofs.script.run_on.Goals as goal

-- behind the setup a statement of the setup is refused
closed_refusal : (catalog : Catalog) (statement : Statement) → catalog.closed ≡ true → is_late statement ≡ false → refusal catalog statement ≡ Some Closed
unfolding refusal
closed_refusal catalog (st.At moment) closed early = absurd (cc)
closed_refusal catalog (st.Deed caller d) closed early = absurd (cc)
closed_refusal catalog (st.Maintain name how manner) closed early = rw closed refl
closed_refusal catalog _ closed early = rw closed refl

closed_step : (stage : Stage) (statement : Statement) → stage.catalog.closed ≡ true → is_built stage.catalog statement ≡ true → ((caller : Option ℕ) (d : Deed) → statement ≡ st.Deed caller d → ⊥)
    → built_step stage statement ≡ refusing stage (line_of_error Closed)
closed_step stage (st.At moment) closed built other = absurd (cc)
closed_step stage (st.Deed caller d) closed built other = absurd (other caller d refl)
closed_step stage statement closed built other = ap (declare_step stage statement) (closed_refusal stage.catalog statement closed refl)

pub returns-in_ok-text-in_default : goal.returns-in_ok-text-in_default
returns-in_ok-text-in_default c =
    let stage = shown c.args.database.engine in
    subst (λ (s : Step). IsStep s c.refuse_with.result)
    (ap (refusing stage) c.in_ok-text-in_default.ensures ∙ sym (closed_step stage c.args.statement.now c.requires.idle.closed c.requires.built c.in_default.not-Deed)) c.refuse_with.ensures
