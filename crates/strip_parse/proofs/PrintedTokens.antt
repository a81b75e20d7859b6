-- The tokens of pieces: what `print` writes, cut again.
use Rattle.std.proofs.Common.{◌≡◌, ℕ, suc, ◌+◌, ◌-◌, ◌||◌, ◌&&◌, not, Bool, true, false, ℤ, pos, negsuc, List, [], ◌∷◌, ◌++◌, length, map, Ok, decimal, append_assoc, append-nil, refl, sym, ap, ◌∙◌}
use Rattle.std.specs.List.{AllByRecursion}
use Rattle.std.specs.Fmt.{signed_decimal}
use Rattle.std.proofs.lemmas.Slice.Eq.{bytes_eq-Decides}
use Rattle.strip_value.specs.Print.{quoted}
use Rattle.strip_value.proofs.Lists.{all_left, all_right}
use Rattle.strip_ast.specs.declared.marks.Mark.{Mark}
use Rattle.strip_ast.specs.declared.marks.Mark.TheVariants as m
use Rattle.strip_ast.specs.declared.token_types.Token.{Token}
use Rattle.strip_ast.specs.declared.token_types.Token.TheVariants as token
use Rattle.strip_ast.specs.declared.token_types.Placed.{Placed}
use Rattle.strip_ast.specs.Marks.{mark_text, same_mark}
use Rattle.strip_ast.specs.Pieces.{Piece, mark, name, number, whole, text, Written, unwritten, blank_if, joins_left, joins_right, is_total, is_apart, piece_after, after_all, text_of_pieces}
use Rattle.strip_ast.specs.Tokens.{cut, blank, with_token, tokens_from, tokens_of, placed_at}
use Rattle.strip_ast.proofs.CutLemmas.{blank_step}
use Rattle.strip_ast.proofs.SoundTokens.{SoundToken}
use Rattle.strip_parse.proofs.Begins.{both_true}
use Rattle.strip_parse.proofs.PrintedTokensFronts.{is_ended, IsFront, front_cut, name_front, decimal_front, text_front, mark_front, minus_front}

-- the tokens of a number: a minus is one of its own
abbrev pub number_tokens : ℤ → List Token
number_tokens (pos n) = token.Number n ∷ []
number_tokens (negsuc n) = token.Mark m.Minus ∷ token.Number (suc n) ∷ []

-- the tokens of one piece
abbrev pub piece_tokens : Piece → List Token
piece_tokens (mark a) = token.Mark a ∷ []
piece_tokens (name a) = token.Name a ∷ []
piece_tokens (number n) = number_tokens n
piece_tokens (whole n) = token.Number n ∷ []
piece_tokens (text t) = token.Text t ∷ []

-- the tokens of pieces
abbrev pub pieces_tokens : List Piece → List Token
pieces_tokens [] = []
pieces_tokens (p ∷ ps) = piece_tokens p ++ pieces_tokens ps

-- pieces that bytes can be cut into
abbrev pub SoundPieces : List Piece → Type 0
SoundPieces ps = AllByRecursion SoundToken (pieces_tokens ps)

-- the tokens without their places
abbrev pub bare : List Placed → List Token
bare ts = map (λ p. p.token) ts

-- ---- what pieces are written as, from the left

-- the bytes of a piece
abbrev piece_text : Piece → List ℕ
piece_text (mark a) = mark_text a
piece_text (name a) = a
piece_text (number n) = signed_decimal n
piece_text (whole n) = decimal n
piece_text (text t) = quoted t

-- whether a blank stands before a mark
abbrev is_mark_apart : Bool → Bool → Mark → Bool
is_mark_apart apart total a = apart && not (joins_left a) && not (total && same_mark a m.Open)

-- whether a blank stands before a piece
abbrev is_piece_apart : Bool → Bool → Piece → Bool
is_piece_apart apart total (mark a) = is_mark_apart apart total a
is_piece_apart apart total _ = apart

-- whether a blank may follow the piece
abbrev apart_after : Piece → Bool
apart_after (mark a) = not (joins_right a)
apart_after _ = true

-- whether the piece is `sum` or `count`
abbrev total_after : Piece → Bool
total_after (mark a) = is_total a
total_after _ = false

-- the bytes of pieces that follow others
abbrev pieces_text : Bool → Bool → List Piece → List ℕ
pieces_text apart total [] = []
pieces_text apart total (p ∷ ps) = blank_if (is_piece_apart apart total p) ++ (piece_text p ++ pieces_text (apart_after p) (total_after p) ps)

behind_all : (xs gap word rest : List ℕ) → ((xs ++ gap) ++ word) ++ rest ≡ xs ++ (gap ++ (word ++ rest))
behind_all xs gap word rest = append_assoc (xs ++ gap) word rest ∙ append_assoc xs gap (word ++ rest)

pieces_written : (w : Written) (ps : List Piece) → (after_all w ps).bytes ≡ w.bytes ++ pieces_text w.apart w.total ps
pieces_written w [] = sym (append-nil w.bytes)
pieces_written w (mark a ∷ ps) = pieces_written (piece_after w (mark a)) ps ∙ behind_all w.bytes (blank_if (is_apart w a)) (mark_text a) (pieces_text (not (joins_right a)) (is_total a) ps)
pieces_written w (name a ∷ ps) = pieces_written (piece_after w (name a)) ps ∙ behind_all w.bytes (blank_if w.apart) a (pieces_text true false ps)
pieces_written w (number n ∷ ps) = pieces_written (piece_after w (number n)) ps ∙ behind_all w.bytes (blank_if w.apart) (signed_decimal n) (pieces_text true false ps)
pieces_written w (whole n ∷ ps) = pieces_written (piece_after w (whole n)) ps ∙ behind_all w.bytes (blank_if w.apart) (decimal n) (pieces_text true false ps)
pieces_written w (text t ∷ ps) = pieces_written (piece_after w (text t)) ps ∙ behind_all w.bytes (blank_if w.apart) (quoted t) (pieces_text true false ps)

-- ---- what follows a piece

same_text : (a b : Mark) → same_mark a b ≡ true → mark_text a ≡ mark_text b
same_text a b is = (bytes_eq-Decides (mark_text a) (mark_text b)).0 is

mark_ended : (a b : Mark) (rest : List ℕ) → same_mark a b ≡ true → is_ended (mark_text b ++ rest) ≡ true → is_ended (mark_text a ++ rest) ≡ true
mark_ended a b rest is ended = ap (λ word. is_ended (word ++ rest)) (same_text a b is) ∙ ended

joining_ended : (a : Mark) (rest : List ℕ) (close comma dot : Bool) → same_mark a m.Close ≡ close → same_mark a m.Comma ≡ comma → same_mark a m.Dot ≡ dot → (close || comma || dot) ≡ true → is_ended (mark_text a ++ rest) ≡ true
joining_ended a rest true comma dot is_close is_comma is_dot one = mark_ended a m.Close rest is_close refl
joining_ended a rest false true dot is_close is_comma is_dot one = mark_ended a m.Comma rest is_comma refl
joining_ended a rest false false true is_close is_comma is_dot one = mark_ended a m.Dot rest is_dot refl
joining_ended a rest false false false is_close is_comma is_dot one = cc

gap_ended : (total : Bool) (a : Mark) (rest : List ℕ) (joins opens : Bool) → joins_left a ≡ joins → (total && same_mark a m.Open) ≡ opens → is_ended (blank_if (not joins && not opens) ++ (mark_text a ++ rest)) ≡ true
gap_ended total a rest true opens joined opened = joining_ended a rest (same_mark a m.Close) (same_mark a m.Comma) (same_mark a m.Dot) refl refl refl joined
gap_ended total a rest false true joined opened = mark_ended a m.Open rest (both_true total (same_mark a m.Open) opened).1 refl
gap_ended total a rest false false joined opened = refl

-- where a blank may follow, what follows ends the token
pieces_ended : (total : Bool) (ps : List Piece) → is_ended (pieces_text true total ps) ≡ true
pieces_ended total [] = refl
pieces_ended total (mark a ∷ ps) = gap_ended total a (pieces_text (not (joins_right a)) (is_total a) ps) (joins_left a) (total && same_mark a m.Open) refl refl
pieces_ended total (name a ∷ ps) = refl
pieces_ended total (number n ∷ ps) = refl
pieces_ended total (whole n ∷ ps) = refl
pieces_ended total (text t ∷ ps) = refl

-- ---- pieces before what follows

-- wherever the bytes stand, they are cut into these tokens
abbrev CutInto : List ℕ → List Token → Type 0
CutInto bytes tokens = (at : ℕ) → (ts : List Placed) × (tokens_from 0 at bytes ≡ Ok ts) × (bare ts ≡ tokens)

token_more : (word rest : List ℕ) (a : Token) (tokens : List Token) → IsFront word a rest → CutInto rest tokens → CutInto (word ++ rest) (a ∷ tokens)
token_more word rest a tokens is more = λ at.
    let behind = more (at + length word) in
    (placed_at at a ∷ behind.0, front_cut at word rest a is ∙ ap (with_token at a) behind.1, ap (λ bs. a ∷ bs) behind.2)

gap_more : (gap : Bool) (rest : List ℕ) (tokens : List Token) → CutInto rest tokens → CutInto (blank_if gap ++ rest) tokens
gap_more true rest tokens more = λ at.
    let behind = more (at + 1) in
    (behind.0, blank_step at 32 rest refl ∙ behind.1, behind.2)
gap_more false rest tokens more = more

-- what follows can follow the piece
abbrev is_followed : Piece → List ℕ → Bool
is_followed (mark a) rest = joins_right a || is_ended rest
is_followed _ rest = is_ended rest

piece_more : (p : Piece) (rest : List ℕ) (tokens : List Token) → AllByRecursion SoundToken (piece_tokens p) → is_followed p rest ≡ true → CutInto rest tokens → CutInto (piece_text p ++ rest) (piece_tokens p ++ tokens)
piece_more (mark a) rest tokens sound follow more = token_more (mark_text a) rest (token.Mark a) tokens (mark_front a rest follow) more
piece_more (name a) rest tokens sound follow more = token_more a rest (token.Name a) tokens (name_front a rest sound.0 follow) more
piece_more (number (pos n)) rest tokens sound follow more = token_more (decimal n) rest (token.Number n) tokens (decimal_front n rest sound.0 follow) more
piece_more (number (negsuc n)) rest tokens sound follow more =
    let behind = token_more (decimal (suc n)) rest (token.Number (suc n)) tokens (decimal_front (suc n) rest sound.1.0 follow) more in
    token_more (45 ∷ []) (decimal (suc n) ++ rest) (token.Mark m.Minus) (token.Number (suc n) ∷ tokens) (minus_front (decimal (suc n) ++ rest)) behind
piece_more (whole n) rest tokens sound follow more = token_more (decimal n) rest (token.Number n) tokens (decimal_front n rest sound.0 follow) more
piece_more (text t) rest tokens sound follow more = token_more (quoted t) rest (token.Text t) tokens (text_front t rest sound.0 follow) more

mark_followed : (joins total : Bool) (ps : List Piece) → (joins || is_ended (pieces_text (not joins) total ps)) ≡ true
mark_followed true total ps = refl
mark_followed false total ps = pieces_ended total ps

followed : (p : Piece) (ps : List Piece) → is_followed p (pieces_text (apart_after p) (total_after p) ps) ≡ true
followed (mark a) ps = mark_followed (joins_right a) (is_total a) ps
followed (name a) ps = pieces_ended false ps
followed (number n) ps = pieces_ended false ps
followed (whole n) ps = pieces_ended false ps
followed (text t) ps = pieces_ended false ps

pieces_cut : (apart total : Bool) (ps : List Piece) → SoundPieces ps → CutInto (pieces_text apart total ps) (pieces_tokens ps)
pieces_cut apart total [] sound = λ at. ([], refl, refl)
pieces_cut apart total (p ∷ ps) sound =
    let here = all_left SoundToken (piece_tokens p) (pieces_tokens ps) sound in
    let behind = all_right SoundToken (piece_tokens p) (pieces_tokens ps) sound in
    let rest = pieces_text (apart_after p) (total_after p) ps in
    gap_more (is_piece_apart apart total p) (piece_text p ++ rest) (piece_tokens p ++ pieces_tokens ps) (piece_more p rest (pieces_tokens ps) here (followed p ps) (pieces_cut (apart_after p) (total_after p) ps behind))

-- what pieces are written as is cut into just their tokens
pub cut_again : (ps : List Piece) → SoundPieces ps → (ts : List Placed) × (tokens_of (text_of_pieces ps) ≡ Ok ts) × (bare ts ≡ pieces_tokens ps)
unfolding tokens_of
cut_again ps sound =
    let all = pieces_cut false false ps sound 0 in
    (all.0, ap (λ bytes. tokens_from 0 0 bytes) (pieces_written unwritten ps) ∙ all.1, all.2)
