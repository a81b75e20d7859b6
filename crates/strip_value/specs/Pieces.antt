-- How a text of statements is cut into its pieces.
use Rattle.std.specs.Prelude.{ℕ, ◌+◌, Bool, true, false, not, ◌&&◌, ◌||◌, ◌==◌, nat_le, nat_lt, List, [], ◌∷◌, length, if◌then◌else◌}
use Rattle.std.specs.List.{list_all}
use Rattle.strip_value.specs.declared.pieces.Piece.{Piece}
use Rattle.strip_value.specs.declared.pieces.Piece.TheVariants.{Statement, TooLong, Rest}

-- a quote opens or closes a text
abbrev pub quoted_after : Bool → ℕ → Bool
quoted_after quoted c = if c == 39 then not quoted else quoted

-- a `;` outside quotes ends a segment
abbrev pub ends_segment : Bool → ℕ → Bool
ends_segment quoted c = c == 59 && not quoted

-- a byte before the segments that follow: it ends a segment, or belongs to the first
abbrev pub with_byte : Bool → ℕ → List (List ℕ) → List (List ℕ)
with_byte true c segments = [] ∷ segments
with_byte false c [] = (c ∷ []) ∷ []
with_byte false c (s ∷ segments) = (c ∷ s) ∷ segments

-- the bytes between the `;` that stand outside quotes; the last segment is what follows the last `;`
abbrev pub segments_of : Bool → List ℕ → List (List ℕ)
segments_of quoted [] = [] ∷ []
segments_of quoted (c ∷ cs) = with_byte (ends_segment quoted c) c (segments_of (quoted_after quoted c) cs)

-- space, tab, CR and LF
abbrev pub is_blank : ℕ → Bool
is_blank c = c == 32 || c == 9 || c == 13 || c == 10

-- a segment that a `;` ended, `from` bytes into the text
abbrev pub whole_piece : ℕ → List ℕ → Piece
whole_piece from s = if nat_le (length s) 65536 then Statement s else TooLong from (length s)

-- what follows the last `;`: nothing where it is blank
abbrev pub last_pieces : ℕ → List ℕ → List Piece
last_pieces from s =
    if nat_lt 65536 (length s) then TooLong from (length s) ∷ [] else (if list_all is_blank s then [] else Rest s ∷ [])

abbrev pub pieces_from : ℕ → List (List ℕ) → List Piece
pieces_from from [] = []
pieces_from from (s ∷ []) = last_pieces from s
pieces_from from (s ∷ t ∷ segments) = whole_piece from s ∷ pieces_from (from + length s + 1) (t ∷ segments)

-- the pieces of a text of statements, in order
unfoldable pub pieces : List ℕ → List Piece
pieces bytes = pieces_from 0 (segments_of false bytes)
