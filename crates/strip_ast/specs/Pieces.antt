-- The canonical text of a list of pieces: a blank between two, but for the places named here.
use Rattle.std.specs.Prelude.{ℕ, Bool, true, false, not, ◌&&◌, ◌||◌, List, [], ◌∷◌, ◌++◌, codes, if◌then◌else◌, ℤ}
use Rattle.std.specs.Fmt.{decimal, signed_decimal}
use Rattle.strip_value.specs.Print.{quoted}
use Rattle.strip_ast.specs.declared.marks.Mark.{Mark as OneMark}
use Rattle.strip_ast.specs.declared.marks.Mark.TheVariants as m
use Rattle.strip_ast.specs.Marks.{mark_text, same_mark}

-- what is printed between two blanks
pub data Piece : Type 0 where
  mark : OneMark → Piece
  name : List ℕ → Piece
  number : ℤ → Piece
  whole : ℕ → Piece
  text : List ℕ → Piece

-- no blank stands before `)`, `,` and `.`
abbrev pub joins_left : OneMark → Bool
joins_left a = same_mark a m.Close || same_mark a m.Comma || same_mark a m.Dot

-- no blank stands behind `(` and `.`
abbrev pub joins_right : OneMark → Bool
joins_right a = same_mark a m.Open || same_mark a m.Dot

-- no blank stands between `sum` or `count` and `(`
abbrev pub is_total : OneMark → Bool
is_total a = same_mark a m.Sum || same_mark a m.Count

-- a text that is being written: its bytes, whether a blank may follow, and whether it ends with `sum` or `count`
pub record Written : Type 0 where
  pub bytes : List ℕ
  pub apart : Bool
  pub total : Bool

abbrev pub unwritten : Written
unwritten = record { bytes = []; apart = false; total = false }

abbrev pub blank_if : Bool → List ℕ
blank_if apart = if apart then codes " " else []

-- a piece whose text no mark decides about
abbrev pub word_after : Written → List ℕ → Written
word_after w bytes = record { bytes = w.bytes ++ blank_if w.apart ++ bytes; apart = true; total = false }

-- whether a blank stands before the mark
abbrev pub is_apart : Written → OneMark → Bool
is_apart w a = w.apart && not (joins_left a) && not (w.total && same_mark a m.Open)

abbrev pub mark_after : Written → OneMark → Written
mark_after w a =
    record { bytes = w.bytes ++ blank_if (is_apart w a) ++ mark_text a; apart = not (joins_right a); total = is_total a }

-- one piece more
abbrev pub piece_after : Written → Piece → Written
piece_after w (mark a) = mark_after w a
piece_after w (name bytes) = word_after w bytes
piece_after w (number n) = word_after w (signed_decimal n)
piece_after w (whole n) = word_after w (decimal n)
piece_after w (text bytes) = word_after w (quoted bytes)

-- the pieces one after the other
abbrev pub after_all : Written → List Piece → Written
after_all w [] = w
after_all w (p ∷ ps) = after_all (piece_after w p) ps

-- the text of the pieces
abbrev pub text_of_pieces : List Piece → List ℕ
text_of_pieces ps = (after_all unwritten ps).bytes

-- what a list prints, with commas between
abbrev pub following : {A : Type 0} → (A → List Piece) → List A → List Piece
following f [] = []
following f (x ∷ xs) = mark m.Comma ∷ (f x ++ following f xs)

abbrev pub listed : {A : Type 0} → (A → List Piece) → List A → List Piece
listed f [] = []
listed f (x ∷ xs) = f x ++ following f xs

abbrev pub enclosed_by : List Piece → List Piece
enclosed_by ps = mark m.Open ∷ (ps ++ mark m.Close ∷ [])
