-- Which acts are parsed: those that have a text, by a look at their trees.
use Rattle.std.specs.Prelude.{◌≡◌, ℕ, true, List, None, Ok}
use Rattle.strip_ast.specs.declared.deeds.Deed.{Deed}
use Rattle.strip_ast.specs.declared.statements.Statement.TheVariants as st
use Rattle.strip_ast.specs.Written.{statement_text}
use Rattle.strip_acts.specs.Writable.{IsAct, is_written}
use Rattle.strip_parse.specs.Parsed.{parsed}

-- what an act that has a text is printed as is parsed as that act
abbrev pub WrittenActsAreParsed : Type 0
WrittenActsAreParsed = (d : Deed) → is_written d ≡ true → parsed (statement_text (st.Deed None d)) ≡ Ok (st.Deed None d)

-- an act that some bytes are parsed as has a text
abbrev pub ParsedActsAreWritten : Type 0
ParsedActsAreWritten = (bytes : List ℕ) (d : Deed) → IsAct d → parsed bytes ≡ Ok (st.Deed None d) → is_written d ≡ true
