use Rattle.std.proofs.Common.{◌≡◌, ◌++◌, drop, map}
use Rattle.strip_setup.specs.declared.answers.Binding.{Binding}
use Rattle.strip_kinds.specs.declared.needs.Fit.{Fit}
use Rattle.strip_kinds.specs.declared.needs.Need.{Need}
use Rattle.strip_kinds.specs.Needs.{answer_named, bindings_named}
use Rattle.strip_kinds.proofs.needs.push_need_fits.Given as goal

abbrev fit_of : Need → Binding → Fit
fit_of need binding = record { need = need; given = answer_named binding need.column.name }

abbrev pub invariant-loop-binding : goal.invariant-loop-binding
invariant-loop-binding l =
    l.fits ++ map (fit_of l.need) (bindings_named (drop l.binding-index l.bindings) l.name)
    ≡ l.initial.fits ++ map (fit_of l.need) (bindings_named l.bindings l.name)
