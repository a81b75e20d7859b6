-- What a check answers.
use Rattle.std.specs.Prelude.{◌≡◌, Option, Some, None, Result, Ok, Err}
use Rattle.strip_setup.specs.declared.errors.SetupError.{SetupError}
use Rattle.strip_setup.specs.declared.errors.SetupError.TheVariants.{Memory}

-- a refusal, exactly where there is this cause; memory may be wanting at any point
abbrev pub Checks : Option SetupError → Result Unit SetupError → Type 0
Checks cause (Ok _) = cause ≡ None
Checks cause (Err Memory) = Unit {0}
Checks cause (Err error) = cause ≡ Some error
