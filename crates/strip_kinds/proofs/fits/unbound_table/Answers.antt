use Rattle.std.proofs.Common.{◌≡◌, true, false, List, ℕ, None, Some, option_map, refl, sym, ◌∙◌}
use Rattle.std.specs.List.{list_any}
use Rattle.std.specs.Str.{bytes_eq}
use Rattle.strip_setup.specs.declared.answers.Binding.{Binding}
use Rattle.strip_setup.specs.declared.errors.SetupError.TheVariants.{NotBound}
use Rattle.strip_kinds.specs.Bound.{unbound_table}
use Rattle.strip_setup.specs.Catalog.{first}
use Rattle.strip_setup.proofs.Filters.{filter-empty}
use Rattle.strip_setup.proofs.Firsts.{carried}
use Rattle.strip_kinds.proofs.fits.unbound_table.Goals as goal

bound : (bindings : List Binding) (name : List ℕ) → list_any (λ binding. bytes_eq binding.name name) bindings ≡ true → option_map NotBound (first (unbound_table bindings name)) ≡ None
bound bindings name found =
    let empty = filter-empty (λ (binding : Binding). bytes_eq binding.name name) bindings in
    rw (empty, found) refl

unbound : (bindings : List Binding) (name : List ℕ) → list_any (λ binding. bytes_eq binding.name name) bindings ≡ false → option_map NotBound (first (unbound_table bindings name)) ≡ Some (NotBound name)
unbound bindings name found =
    let empty = filter-empty (λ (binding : Binding). bytes_eq binding.name name) bindings in
    rw (empty, found) refl

pub returns-then-binds : goal.returns-then-binds
returns-then-binds c = bound c.args.bindings.now c.args.name.now (sym c.binds.ensures ∙ c.if-binds.true)

pub returns : goal.returns
returns c = carried _ _ c.refuse_unbound.result (unbound c.args.bindings.now c.args.name.now (sym c.binds.ensures ∙ c.if-binds.false)) c.refuse_unbound.ensures
