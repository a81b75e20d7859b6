-- What bytes are parsed as.
use Rattle.std.specs.Prelude.{◌≡◌, ℕ, List, [], ◌∷◌, length, Result, Ok, Err}
use Rattle.strip_ast.specs.declared.faults.Why.{Why}
use Rattle.strip_ast.specs.declared.faults.Why.TheVariants as why
use Rattle.strip_ast.specs.declared.faults.ParseError.{ParseError}
use Rattle.strip_ast.specs.declared.faults.ParseFail.{ParseFail}
use Rattle.strip_ast.specs.declared.faults.ParseFail.TheVariants.{Fault, Memory}
use Rattle.strip_ast.specs.declared.token_types.Placed.{Placed}
use Rattle.strip_ast.specs.declared.statements.Statement.{Statement}
use Rattle.strip_ast.specs.Syntax.{statement}
use Rattle.strip_ast.specs.Tokens.{tokens_of}
use Rattle.strip_parse.specs.declared.stops.Stop.{Stop}
use Rattle.strip_parse.specs.declared.stops.Stop.TheVariants as stop
use Rattle.strip_parse.specs.Reading.{State, Halt, part, at_end}

-- all tokens are left, and no operator was read
abbrev pub beginning : List Placed → State
beginning ts = record { left = ts; operators = 0; most = length ts }

-- the tree that the tokens are read as, or why and where the reading stops
unfoldable pub reading : List Placed → Result Statement Halt
reading ts = at_end (part statement (beginning ts))

abbrev pub halt_at : Why → State → Halt
halt_at w s = record { why = w; left = s.left }

abbrev pub fault_at : ℕ → Why → List Placed → ParseError
fault_at len w [] = record { at = len; why = why.Ended }
fault_at len w (p ∷ ps) = record { at = p.at; why = w }

-- the fault of bytes of this length: at the first token that is left, or at their end
abbrev pub fault_of : ℕ → Halt → ParseError
fault_of len halt = fault_at len halt.why halt.left

abbrev pub answer_of : ℕ → Result Statement Halt → Result Statement ParseError
answer_of len (Ok s) = Ok s
answer_of len (Err halt) = Err (fault_of len halt)

abbrev pub parsed_tokens : ℕ → Result (List Placed) ParseError → Result Statement ParseError
parsed_tokens len (Ok ts) = answer_of len (reading ts)
parsed_tokens len (Err fault) = Err fault

-- the tree of the bytes, or their fault
unfoldable pub parsed : List ℕ → Result Statement ParseError
parsed bytes = parsed_tokens (length bytes) (tokens_of bytes)

-- what `parse` answers
abbrev pub IsParsed : Result Statement ParseError → Result Statement ParseFail → Type 0
IsParsed wanted (Ok s) = wanted ≡ Ok s
IsParsed wanted (Err (Fault fault)) = wanted ≡ Err fault
IsParsed wanted (Err Memory) = Unit {0}

-- what a whole statement is read as; or why that stopped, the cursor standing where it did
abbrev pub IsWhole : Result Statement Halt → Result Statement Stop → State → Type 0
IsWhole wanted (Ok a) s = wanted ≡ Ok a
IsWhole wanted (Err stop.Unexpected) s = wanted ≡ Err (halt_at why.Unexpected s)
IsWhole wanted (Err stop.TooDeep) s = wanted ≡ Err (halt_at why.TooDeep s)
IsWhole wanted (Err stop.TooLong) s = wanted ≡ Err (halt_at why.TooLong s)
IsWhole wanted (Err stop.Memory) s = Unit {0}
