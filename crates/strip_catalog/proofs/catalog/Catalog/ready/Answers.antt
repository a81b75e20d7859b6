use Rattle.std.proofs.Common.{true, refl, sym, ap, ◌∙◌}
use Rattle.strip_setup.specs.Catalog.{Catalog}
use Rattle.strip_catalog.proofs.Adding.{ready_declared}
use Rattle.strip_catalog.proofs.catalog.Catalog.ready.Goals as goal

pub returns-then-self : goal.returns-then-self
returns-then-self c = (refl, sym (ap (λ (v : Catalog). v.closed) c.self.view_is) ∙ c.if-self.true, refl)

pub invariant_of-self : goal.invariant_of-self
invariant_of-self c = ready_declared _ c.self.invariant c.if-self.false

pub returns : goal.returns
returns c = (sym (ap (λ (v : Catalog). v.closed) c.self.view_is) ∙ c.if-self.false, ap (λ (v : Catalog). record v { closed = true }) c.self.view_is)
