use Rattle.std.proofs.Common.{◌≡◌, [], ◌∷◌, drop, flat_map}
use Rattle.strip_kinds.specs.Mismatch.{mismatched_in_all}
use Rattle.strip_setup.specs.Parts.{value}
use Rattle.strip_kinds.proofs.mismatch.check_sets.Given as goal

abbrev pub invariant-loop-set : goal.invariant-loop-set
invariant-loop-set l = flat_map (λ s. mismatched_in_all l.entries (record { expr = s.value; purpose = value } ∷ [])) l.sets ≡ flat_map (λ s. mismatched_in_all l.entries (record { expr = s.value; purpose = value } ∷ [])) (drop l.set-index l.sets)
