-- The text of a fault, as it is written behind `refused `.
use Rattle.std.specs.Prelude.{ℕ, List, ◌++◌, codes}
use Rattle.std.specs.Fmt.{decimal}
use Rattle.strip_ast.specs.declared.faults.ParseError.{ParseError}
use Rattle.strip_ast.specs.declared.faults.Why.{Why}
use Rattle.strip_ast.specs.declared.faults.Why.TheVariants as why

abbrev pub why_name : Why → List ℕ
why_name why.NoToken = codes "NoToken"
why_name why.TooLong = codes "TooLong"
why_name why.Unexpected = codes "Unexpected"
why_name why.TooDeep = codes "TooDeep"
why_name why.Ended = codes "Ended"

-- its place, and its kind
unfoldable pub fault_text : ParseError → List ℕ
fault_text fault = codes "Parse " ++ (decimal fault.at ++ (codes " " ++ why_name fault.why))
