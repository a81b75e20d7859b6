-- The replies to pieces that are refused before an engine is asked.
use Rattle.std.specs.Prelude.{ℕ, List, ◌++◌, codes}
use Rattle.std.specs.Fmt.{decimal}
use Rattle.strip_ast.specs.declared.faults.ParseError.{ParseError}
use Rattle.strip_ast.specs.Faults.{fault_text}
use Rattle.strip_setup.specs.declared.errors.SetupError.{SetupError}
use Rattle.strip_setup.specs.Texts.{error_text}
use Rattle.strip_model.specs.Texts.{line}

-- a cause, as it is replied
abbrev pub line_of_refused : List ℕ → List ℕ
line_of_refused cause = line (codes "refused " ++ cause)

-- bytes that are no statement, by the place of their fault, counted from 0, and its kind
abbrev pub line_of_fault : ParseError → List ℕ
line_of_fault fault = line_of_refused (fault_text fault)

-- a piece of so many bytes, more than a statement may have
abbrev pub line_of_oversize : ℕ → List ℕ
line_of_oversize length = line_of_refused (codes "Oversize " ++ decimal length)

-- what stands behind the last `;`
abbrev pub line_of_unended : List ℕ
line_of_unended = line_of_refused (codes "Unended")

-- a statement for after the setup, before `ready`
abbrev pub line_of_not_ready : List ℕ
line_of_not_ready = line_of_refused (codes "NotReady")

-- a statement that isn't built yet
abbrev pub line_of_not_built : List ℕ
line_of_not_built = line_of_refused (codes "NotBuilt")

-- a statement or an act that the catalog refuses
abbrev pub line_of_error : SetupError → List ℕ
line_of_error error = line_of_refused (error_text error)
