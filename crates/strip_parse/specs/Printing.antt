-- That what is printed of a statement is a statement with the same tree, and is parsed where its text was.
use Rattle.std.specs.Prelude.{◌≡◌, ℕ, List, Ok}
use Rattle.strip_ast.specs.declared.token_types.Placed.{Placed}
use Rattle.strip_ast.specs.declared.statements.Statement.{Statement}
use Rattle.strip_ast.specs.Tokens.{tokens_of}
use Rattle.strip_ast.specs.Syntax.{IsStatement}
use Rattle.strip_ast.specs.Written.{statement_text}
use Rattle.strip_parse.specs.Parsed.{parsed}

-- the bytes are a statement of the grammar with this tree
abbrev pub IsTextOf : List ℕ → Statement → Type 0
IsTextOf bytes s = (ts : List Placed) × (tokens_of bytes ≡ Ok ts) × IsStatement ts s

-- whatever bytes are a statement: what its tree is printed as is a statement with the same tree
abbrev pub PrintsItself : Type 0
PrintsItself = (bytes : List ℕ) (s : Statement) → IsTextOf bytes s → IsTextOf (statement_text s) s

-- what is printed of a statement that was parsed is parsed as the same tree
abbrev pub PrintsWithin : Type 0
PrintsWithin = (bytes : List ℕ) (s : Statement) → parsed bytes ≡ Ok s → parsed (statement_text s) ≡ Ok s
