-- What statements declare, and which catalogs there are.
use Rattle.std.specs.Prelude.{◌≡◌, ℕ, List, [], ◌∷◌, None, Ok}
use Rattle.strip_ast.specs.declared.statements.Statement.{Statement}
use Rattle.strip_ast.specs.declared.statements.Statement.TheVariants as st
use Rattle.strip_ast.specs.declared.token_types.Placed.{Placed}
use Rattle.strip_ast.specs.Syntax.{IsStatement}
use Rattle.strip_ast.specs.Tokens.{tokens_of}
use Rattle.strip_setup.specs.Adds.{with_statement}
use Rattle.strip_setup.specs.Catalog.{Catalog, nothing}
use Rattle.strip_catalog.specs.Refusals.{refusal}

-- some bytes are cut into tokens that are this statement by the productions of the grammar
abbrev pub HasText : Statement → Type 0
HasText statement = (bytes : List ℕ) × (tokens : List Placed) × (tokens_of bytes ≡ Ok tokens) × IsStatement tokens statement

-- what declares a table, a derived table, a stream, a function or a rule has a text
abbrev pub IsWritten : Statement → Type 0
IsWritten (st.Table name columns key limit) = HasText (st.Table name columns key limit)
IsWritten (st.Stream name table marked) = HasText (st.Stream name table marked)
IsWritten (st.Derive name query) = HasText (st.Derive name query)
IsWritten (st.Function name steps) = HasText (st.Function name steps)
IsWritten (st.Rule name table events conditions evaluate function manner) = HasText (st.Rule name table events conditions evaluate function manner)
IsWritten _ = Unit {0}

-- what is declared after these statements, the last of them first
abbrev pub declared : List Statement → Catalog
declared [] = nothing
declared (statement ∷ earlier) = with_statement (declared earlier) statement

-- they are written so, and none of them is refused after those before it
abbrev pub AreAccepted : List Statement → Type 0
AreAccepted [] = Unit {0}
AreAccepted (statement ∷ earlier) = AreAccepted earlier × IsWritten statement × (refusal (declared earlier) statement ≡ None)

-- it is what some statements declare that are written, and of which none is refused
pub record IsDeclared (catalog : Catalog) : Type 0 where
  pub statements : List Statement
  pub accepted : AreAccepted statements
  pub is : catalog ≡ declared statements
