-- Where nothing waits and nothing runs, what a script shows of a table that is kept are the rows of the table's query.
use Rattle.std.specs.Prelude.{◌≡◌, ℕ, true, false, List, [], ◌∷◌, ◌++◌, None, Some, Ok, is_some}
use Rattle.std.specs.List.{list_all}
use Rattle.strip_value.specs.declared.pieces.Piece.{Piece}
use Rattle.strip_value.specs.declared.pieces.Piece.TheVariants as piece
use Rattle.strip_value.specs.declared.values.Value.{Value}
use Rattle.strip_value.specs.Pieces.{is_blank}
use Rattle.strip_ast.specs.declared.deeds.Deed.TheVariants as deed
use Rattle.strip_ast.specs.declared.statements.Statement.TheVariants as st
use Rattle.strip_parse.specs.Parsed.{parsed}
use Rattle.strip_setup.specs.Catalog.{table_number}
use Rattle.strip_meaning.specs.Contents.{def_at}
use Rattle.strip_model.specs.History.{base}
use Rattle.strip_model.specs.Derived.{beginning}
use Rattle.strip_model.specs.Texts.{rows_text}
use Rattle.strip_engine.specs.Quiet.{IsQuiet, query_rows}
use Rattle.strip_script.specs.Script.{Stage, fixed_at, opening, stage_after, replies}

-- the setup is closed, nothing waits and nothing runs, and these bytes show the table of a number, a derived one that is declared
-- to be kept
pub record IsQuietShow (stage : Stage) (bytes : List ℕ) (id : ℕ) : Type 0 where
  pub closed : stage.catalog.closed ≡ true
  pub quiet : IsQuiet (fixed_at stage) stage.past
  pub name : List ℕ
  pub worded : list_all is_blank bytes ≡ false
  pub shows : parsed bytes ≡ Ok (st.Deed None (deed.Show name))
  pub named : table_number stage.catalog.tables name ≡ Some id
  pub derived : is_some (def_at stage.catalog.tables id).query ≡ true
  pub declared : (def_at stage.catalog.tables id).declared ≡ true

-- the rows of the query of the table over the base tables of the history
abbrev pub rows_asked : Stage → ℕ → List (List Value)
rows_asked stage id = query_rows (def_at stage.catalog.tables id) (base (beginning (fixed_at stage)) stage.past)

-- what is written where such a piece is answered, behind some pieces of a script and before others, are the rows of the query,
-- between the replies to those pieces
abbrev pub QuietShowsAreQueries : Type 0
QuietShowsAreQueries =
    (most : ℕ) (before : List Piece) (bytes : List ℕ) (after : List Piece) (id : ℕ) → IsQuietShow (stage_after (opening most) before) bytes id
    → replies (opening most) (before ++ piece.Statement bytes ∷ after)
    ≡ replies (opening most) before ++ (rows_text (rows_asked (stage_after (opening most) before) id) ++ replies (stage_after (opening most) (before ++ piece.Statement bytes ∷ [])) after)
