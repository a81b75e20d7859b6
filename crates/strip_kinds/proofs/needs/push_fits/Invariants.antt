use Rattle.std.proofs.Common.{◌≡◌, ◌++◌, ℕ, List, drop, map}
use Rattle.std.specs.List.{flat_map}
use Rattle.strip_setup.specs.declared.answers.Binding.{Binding}
use Rattle.strip_kinds.specs.declared.needs.Fit.{Fit}
use Rattle.strip_kinds.specs.declared.needs.Need.{Need}
use Rattle.strip_kinds.specs.Needs.{answer_named, bindings_named}
use Rattle.strip_kinds.proofs.needs.push_fits.Given as goal

abbrev fits_of_need : List Binding → List ℕ → Need → List Fit
fits_of_need bindings name need = map (λ binding. record { need = need; given = answer_named binding need.column.name }) (bindings_named bindings name)

abbrev pub invariant-loop-need : goal.invariant-loop-need
invariant-loop-need l =
    l.fits ++ flat_map (fits_of_need l.bindings l.name) (drop l.need-index l.needs)
    ≡ l.initial.fits ++ flat_map (fits_of_need l.bindings l.name) l.needs
