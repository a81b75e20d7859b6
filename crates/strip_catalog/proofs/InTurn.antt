-- Causes that are tried in turn.
use Rattle.std.proofs.Common.{◌≡◌, List, [], ◌∷◌, Option, Some, None, Result, Err, refl}
use Rattle.std.specs.Option.{option_or}
use Rattle.strip_setup.specs.declared.errors.SetupError.{SetupError}
use Rattle.strip_setup.specs.Checks.{Checks}
use Rattle.strip_setup.proofs.Firsts.{carried, passed, refused}
use Rattle.strip_catalog.specs.Refusals.{first_cause}

-- a refusal for the first cause refuses
pub turn_refused : (a : Option SetupError) (causes : List (Option SetupError)) (e : SetupError) → Checks a (Err e) → Checks (first_cause (a ∷ causes)) (Err e)
turn_refused a causes e p = refused a (first_cause causes) e p

-- a cause that isn't there leaves the others
pub turn_passed : (a : Option SetupError) (causes : List (Option SetupError)) (r : Result Unit SetupError) → a ≡ None → Checks (first_cause causes) r → Checks (first_cause (a ∷ causes)) r
turn_passed a causes r none p = passed a (first_cause causes) r none p

-- the last cause decides
pub turn_last : (a : Option SetupError) (r : Result Unit SetupError) → Checks a r → Checks (first_cause (a ∷ [])) r
turn_last a r p = carried (first_cause (a ∷ [])) a r (alone a) p
  where
    alone : (o : Option SetupError) → option_or o None ≡ o
    alone None = refl
    alone (Some e) = refl
