-- Laws of segments and pieces: a segment that has begun and goes on, ends, or is the last one.
use Rattle.std.proofs.Common.{◌≡◌, ℕ, ◌+◌, ◌<◌, ◌≤◌, Bool, true, false, List, [], ◌∷◌, ◌++◌, length, take, drop, get_or, sym, refl, ap, ◌∙◌, subst, append_assoc, append-nil, arith, length-append, length-take, length-drop, ⊎_elim}
use Rattle.std.specs.Prelude.{if◌then◌else◌}
use Rattle.std.specs.List.{list_all}
use Rattle.std.proofs.lemmas.Bool.{lt-leb, lt-ltb, cases_lt}
use Rattle.std.proofs.lemmas.List.{drop_more, take_more, drop_all}
use Rattle.strip_value.specs.declared.pieces.Piece.{Piece}
use Rattle.strip_value.specs.declared.pieces.Piece.TheVariants.{Statement, TooLong, Rest}
use Rattle.strip_value.specs.Pieces.{quoted_after, ends_segment, is_blank, with_byte, segments_of, whole_piece, last_pieces, pieces_from}
use Rattle.strip_lines.specs.Reading.{Segment, begun_with, whole_pieces}
use Rattle.strip_lines.specs.Steps.{IsLike, EndsAt, Looks}

-- bytes that go on after others
pub begun_with-append : (a b : List ℕ) (segments : List (List ℕ)) → begun_with (a ++ b) segments ≡ begun_with a (begun_with b segments)
begun_with-append a b [] = refl
begun_with-append a b (s ∷ segments) = ap (λ l. l ∷ segments) (append_assoc a b s)

-- a byte that ends no segment belongs to the first one
pub with_byte-goes_on : (c : ℕ) (segments : List (List ℕ)) → with_byte false c segments ≡ begun_with (c ∷ []) segments
with_byte-goes_on c [] = refl
with_byte-goes_on c (s ∷ segments) = refl

-- there is always a segment
pub with_byte-some : (e : Bool) (c : ℕ) (segments : List (List ℕ)) → (s : List ℕ) × ((others : List (List ℕ)) × (with_byte e c segments ≡ s ∷ others))
with_byte-some true c segments = ([], (segments, refl))
with_byte-some false c [] = (c ∷ [], ([], refl))
with_byte-some false c (s ∷ segments) = (c ∷ s, (segments, refl))

pub segments_of-some : (q : Bool) (bytes : List ℕ) → (s : List ℕ) × ((others : List (List ℕ)) × (segments_of q bytes ≡ s ∷ others))
segments_of-some q [] = ([], ([], refl))
segments_of-some q (c ∷ cs) = with_byte-some (ends_segment q c) c (segments_of (quoted_after q c) cs)

-- nothing has begun
pub begun_with-nil : (q : Bool) (bytes : List ℕ) → begun_with [] (segments_of q bytes) ≡ segments_of q bytes
begun_with-nil q bytes =
    let some = segments_of-some q bytes in
    ap (begun_with []) some.1.1 ∙ sym some.1.1

-- one more byte that ends no segment
pub run_more : (before q : Bool) (bytes : List ℕ) (i c : ℕ) → i < length bytes → c ≡ get_or bytes i c → ends_segment q c ≡ false
    → ((more : List ℕ) → segments_of before (bytes ++ more) ≡ begun_with (take i bytes) (segments_of q (drop i bytes ++ more)))
    → (more : List ℕ) → segments_of before (bytes ++ more) ≡ begun_with (take (i + 1) bytes) (segments_of (quoted_after q c) (drop (i + 1) bytes ++ more))
run_more before q bytes i c lt read goes_on inv more =
    let here = drop_more bytes i c lt in
    let grown = take_more bytes i c lt in
    let rest = drop (i + 1) bytes ++ more in
    let next : segments_of q (drop i bytes ++ more) ≡ begun_with (c ∷ []) (segments_of (quoted_after q c) rest) =
    ap (λ l. segments_of q (l ++ more)) (here ∙ ap (λ x. x ∷ drop (i + 1) bytes) (sym read))
    ∙ ap (λ e. with_byte e c (segments_of (quoted_after q c) rest)) goes_on
    ∙ with_byte-goes_on c (segments_of (quoted_after q c) rest) in
    inv more
    ∙ ap (begun_with (take i bytes)) next
    ∙ sym (begun_with-append (take i bytes) (c ∷ []) (segments_of (quoted_after q c) rest))
    ∙ ap (λ l. begun_with l (segments_of (quoted_after q c) rest)) (ap (λ x. take i bytes ++ x ∷ []) read ∙ sym grown)

-- ---- pieces of segments, by what is made of the last one

abbrev pub cut_from : (ℕ → List ℕ → List Piece) → ℕ → List (List ℕ) → List Piece
cut_from last from [] = []
cut_from last from (s ∷ []) = last from s
cut_from last from (s ∷ t ∷ segments) = whole_piece from s ∷ cut_from last (from + length s + 1) (t ∷ segments)

abbrev pub no_pieces : ℕ → List ℕ → List Piece
no_pieces from s = []

pub pieces_from-cut : (from : ℕ) (segments : List (List ℕ)) → pieces_from from segments ≡ cut_from last_pieces from segments
pieces_from-cut from [] = refl
pieces_from-cut from (s ∷ []) = refl
pieces_from-cut from (s ∷ t ∷ segments) = ap (λ l. whole_piece from s ∷ l) (pieces_from-cut (from + length s + 1) (t ∷ segments))

pub whole_pieces-cut : (from : ℕ) (segments : List (List ℕ)) → whole_pieces from segments ≡ cut_from no_pieces from segments
whole_pieces-cut from [] = refl
whole_pieces-cut from (s ∷ []) = refl
whole_pieces-cut from (s ∷ t ∷ segments) = ap (λ l. whole_piece from s ∷ l) (whole_pieces-cut (from + length s + 1) (t ∷ segments))

-- the pieces of all segments are those of the whole ones, and what is made of the last one
pub pieces_from-whole : (from : ℕ) (segments : List (List ℕ)) → (last : List Piece) × (pieces_from from segments ≡ whole_pieces from segments ++ last)
pieces_from-whole from [] = ([], refl)
pieces_from-whole from (s ∷ []) = (last_pieces from s, refl)
pieces_from-whole from (s ∷ t ∷ segments) =
    let rest = pieces_from-whole (from + length s + 1) (t ∷ segments) in
    (rest.0, ap (λ l. whole_piece from s ∷ l) rest.1)

-- a `;` ends the segment that has begun
pub cut_from-end : (last : ℕ → List ℕ → List Piece) (from : ℕ) (bytes : List ℕ) (q : Bool) (rest : List ℕ)
    → cut_from last from (begun_with bytes ([] ∷ segments_of q rest)) ≡ whole_piece from bytes ∷ cut_from last (from + length bytes + 1) (begun_with [] (segments_of q rest))
cut_from-end last from bytes q rest =
    let some = segments_of-some q rest in
    let next = some.0 ∷ some.1.0 in
    let whole : cut_from last from ((bytes ++ []) ∷ next) ≡ whole_piece from bytes ∷ cut_from last (from + length bytes + 1) next =
    ap (λ b. whole_piece from b ∷ cut_from last (from + length b + 1) next) (append-nil bytes) in
    ap (λ l. cut_from last from ((bytes ++ []) ∷ l)) some.1.1
    ∙ whole
    ∙ ap (λ l. whole_piece from bytes ∷ cut_from last (from + length bytes + 1) l) (sym some.1.1 ∙ sym (begun_with-nil q rest))

-- a segment that is too long is told by its length alone
whole_piece-long : (from : ℕ) (s : List ℕ) → 65536 < length s → whole_piece from s ≡ TooLong from (length s)
whole_piece-long from s long = ap (λ b. if b then Statement s else TooLong from (length s)) (lt-leb (length s) 65536 long)

last_pieces-long : (from : ℕ) (s : List ℕ) → 65536 < length s → last_pieces from s ≡ TooLong from (length s) ∷ []
last_pieces-long from s long =
    ap (λ b. if b then TooLong from (length s) ∷ [] else (if list_all is_blank s then [] else Rest s ∷ [])) (lt-ltb 65536 (length s) long)

-- what is made of the last segment tells a long one by its length alone
abbrev pub ByLength : (ℕ → List ℕ → List Piece) → Type 0
ByLength last = (from : ℕ) (a b : List ℕ) → 65536 < length a → length a ≡ length b → last from a ≡ last from b

pub no_pieces-by_length : ByLength no_pieces
no_pieces-by_length from a b long same = refl

pub last_pieces-by_length : ByLength last_pieces
last_pieces-by_length from a b long same =
    last_pieces-long from a long ∙ ap (λ n. TooLong from n ∷ []) same ∙ sym (last_pieces-long from b (subst (λ n. 65536 < n) same long))

length-append-same : (a b s : List ℕ) → length a ≡ length b → length (a ++ s) ≡ length (b ++ s)
length-append-same a b s same = length-append a s ∙ ap (λ n. n + length s) same ∙ sym (length-append b s)

-- segments so far that are alike give the same pieces, however they go on
pub cut_from-long : (last : ℕ → List ℕ → List Piece) → ByLength last → (from : ℕ) (a b : List ℕ) (segments : List (List ℕ))
    → 65536 < length a → length a ≡ length b → cut_from last from (begun_with a segments) ≡ cut_from last from (begun_with b segments)
cut_from-long last by_length from a b [] long same = by_length from a b long same
cut_from-long last by_length from a b (s ∷ []) long same =
    by_length from (a ++ s) (b ++ s) (omega (arith, length-append a s)) (length-append-same a b s same)
cut_from-long last by_length from a b (s ∷ t ∷ segments) long same =
    let longer : 65536 < length (a ++ s) = omega (arith, length-append a s) in
    let as_long : length (a ++ s) ≡ length (b ++ s) = length-append-same a b s same in
    let other : 65536 < length (b ++ s) = omega (arith, as_long) in
    let whole : whole_piece from (a ++ s) ≡ whole_piece from (b ++ s) =
    whole_piece-long from (a ++ s) longer ∙ ap (TooLong from) as_long ∙ sym (whole_piece-long from (b ++ s) other) in
    ap (λ p. p ∷ cut_from last (from + length (a ++ s) + 1) (t ∷ segments)) whole
    ∙ ap (λ n. whole_piece from (b ++ s) ∷ cut_from last (from + n + 1) (t ∷ segments)) as_long

pub cut_from-like : (last : ℕ → List ℕ → List Piece) → ByLength last → (from : ℕ) (a b : List ℕ) (segments : List (List ℕ))
    → IsLike a b → cut_from last from (begun_with a segments) ≡ cut_from last from (begun_with b segments)
cut_from-like last by_length from a b segments like = ⊎_elim
    (λ long. cut_from-long last by_length from a b segments long like.same_length)
    (λ short. ap (λ l. cut_from last from (begun_with l segments)) (like.same_bytes short))
    (cases_lt 65536 (length a))

-- ---- looking through bytes

-- the bytes go on the segment that has begun
pub cut_from-on : (last : ℕ → List ℕ → List Piece) → ByLength last → (from : ℕ) (old grown bytes : List ℕ) (before q : Bool) (run : ℕ)
    → EndsAt before bytes run q → IsLike (old ++ take run bytes) grown → (more : List ℕ)
    → cut_from last from (begun_with old (segments_of before (bytes ++ more))) ≡ cut_from last from (begun_with grown (segments_of q (drop run bytes ++ more)))
cut_from-on last by_length from old grown bytes before q run ends like more =
    let rest = segments_of q (drop run bytes ++ more) in
    ap (λ l. cut_from last from (begun_with old l)) (ends.first more)
    ∙ ap (cut_from last from) (sym (begun_with-append old (take run bytes) rest))
    ∙ cut_from-like last by_length from (old ++ take run bytes) grown rest like

-- no `;` is among the bytes
pub cut_from-looked : (last : ℕ → List ℕ → List Piece) → ByLength last → (from : ℕ) (old grown bytes : List ℕ) (before q : Bool) (run : ℕ)
    → EndsAt before bytes run q → IsLike (old ++ take run bytes) grown → length bytes ≤ run → (more : List ℕ)
    → cut_from last from (begun_with old (segments_of before (bytes ++ more))) ≡ cut_from last from (begun_with grown (segments_of q more))
cut_from-looked last by_length from old grown bytes before q run ends like all more =
    cut_from-on last by_length from old grown bytes before q run ends like more
    ∙ ap (λ l. cut_from last from (begun_with grown (segments_of q (l ++ more)))) (drop_all run bytes all)

-- a `;` is among the bytes
pub cut_from-cut : (last : ℕ → List ℕ → List Piece) → ByLength last → (from : ℕ) (old grown bytes : List ℕ) (before q : Bool) (run : ℕ)
    → EndsAt before bytes run q → IsLike (old ++ take run bytes) grown → run < length bytes → (more : List ℕ)
    → cut_from last from (begun_with old (segments_of before (bytes ++ more)))
    ≡ whole_piece from grown ∷ cut_from last (from + length grown + 1) (begun_with [] (segments_of false (drop (run + 1) bytes ++ more)))
cut_from-cut last by_length from old grown bytes before q run ends like some more =
    let here = ends.ending some in
    cut_from-on last by_length from old grown bytes before q run ends like more
    ∙ ap (λ v. cut_from last from (begun_with grown (segments_of v (drop run bytes ++ more)))) here.0
    ∙ ap (λ l. cut_from last from (begun_with grown (segments_of false (l ++ more)))) here.1
    ∙ cut_from-end last from grown false (drop (run + 1) bytes ++ more)

-- ---- what looking through the bytes does

pub EndsAt-along : (before before' q q' : Bool) (bytes bytes' : List ℕ) (run : ℕ) → before ≡ before' → q ≡ q' → bytes ≡ bytes' → EndsAt before bytes run q → EndsAt before' bytes' run q'
EndsAt-along before before' q q' bytes bytes' run one two three ends =
    subst (λ b. EndsAt b bytes' run q') one (subst (λ v. EndsAt before bytes' run v) two (subst (λ l. EndsAt before l run q) three ends))

-- no `;` was found
pub Looks-none : (old new : Segment) (bytes : List ℕ) (run : ℕ) → EndsAt old.quoted bytes run new.quoted → IsLike (old.bytes ++ take run bytes) new.bytes
    → new.from ≡ old.from → length bytes ≤ run → Looks old new bytes [] []
Looks-none old new bytes run ends like from all = record {
  next = λ more. pieces_from-cut old.from (begun_with old.bytes (segments_of old.quoted (bytes ++ more)))
      ∙ cut_from-looked last_pieces last_pieces-by_length old.from old.bytes new.bytes bytes old.quoted new.quoted run ends like all more
      ∙ ap (λ f. cut_from last_pieces f (begun_with new.bytes (segments_of new.quoted more))) (sym from)
      ∙ sym (pieces_from-cut new.from (begun_with new.bytes (segments_of new.quoted more)));
  whole = λ more. whole_pieces-cut old.from (begun_with old.bytes (segments_of old.quoted (bytes ++ more)))
      ∙ cut_from-looked no_pieces no_pieces-by_length old.from old.bytes new.bytes bytes old.quoted new.quoted run ends like all more
      ∙ ap (λ f. cut_from no_pieces f (begun_with new.bytes (segments_of new.quoted more))) (sym from)
      ∙ sym (whole_pieces-cut new.from (begun_with new.bytes (segments_of new.quoted more)));
  no_more_bytes = omega (arith, like.same_length, length-append old.bytes (take run bytes), length-take run bytes, ends.within, from);
}

-- a `;` was found, and the next segment has begun behind it
pub Looks-cut : (old grown new : Segment) (piece : Piece) (bytes rest : List ℕ) (run : ℕ) → EndsAt old.quoted bytes run grown.quoted → IsLike (old.bytes ++ take run bytes) grown.bytes
    → grown.from ≡ old.from → run < length bytes → piece ≡ whole_piece grown.from grown.bytes
    → new ≡ record { from = grown.from + length grown.bytes + 1; bytes = []; quoted = false } → rest ≡ drop (run + 1) bytes
    → Looks old new bytes rest (piece ∷ [])
Looks-cut old grown new piece bytes rest run ends like from some is_piece is_new is_rest =
    let begun : Segment = record { from = grown.from + length grown.bytes + 1; bytes = []; quoted = false } in
    let is_piece' : whole_piece old.from grown.bytes ≡ piece = ap (λ f. whole_piece f grown.bytes) (sym from) ∙ sym is_piece in
    let behind = drop (run + 1) bytes in
    let begins : Looks old begun bytes behind (piece ∷ []) = record {
      next = λ more. pieces_from-cut old.from (begun_with old.bytes (segments_of old.quoted (bytes ++ more)))
          ∙ cut_from-cut last_pieces last_pieces-by_length old.from old.bytes grown.bytes bytes old.quoted grown.quoted run ends like some more
          ∙ ap (λ p. p ∷ cut_from last_pieces (old.from + length grown.bytes + 1) (begun_with [] (segments_of false (behind ++ more)))) is_piece'
          ∙ ap (λ f. piece ∷ cut_from last_pieces (f + length grown.bytes + 1) (begun_with [] (segments_of false (behind ++ more)))) (sym from)
          ∙ ap (λ l. piece ∷ l) (sym (pieces_from-cut begun.from (begun_with [] (segments_of false (behind ++ more)))));
      whole = λ more. whole_pieces-cut old.from (begun_with old.bytes (segments_of old.quoted (bytes ++ more)))
          ∙ cut_from-cut no_pieces no_pieces-by_length old.from old.bytes grown.bytes bytes old.quoted grown.quoted run ends like some more
          ∙ ap (λ p. p ∷ cut_from no_pieces (old.from + length grown.bytes + 1) (begun_with [] (segments_of false (behind ++ more)))) is_piece'
          ∙ ap (λ f. piece ∷ cut_from no_pieces (f + length grown.bytes + 1) (begun_with [] (segments_of false (behind ++ more)))) (sym from)
          ∙ ap (λ l. piece ∷ l) (sym (whole_pieces-cut begun.from (begun_with [] (segments_of false (behind ++ more)))));
      no_more_bytes = omega (arith, like.same_length, length-append old.bytes (take run bytes), length-take run bytes, length-drop (run + 1) bytes, from);
    } in
    subst (λ n. Looks old n bytes rest (piece ∷ [])) (sym is_new) (subst (λ r. Looks old begun bytes r (piece ∷ [])) (sym is_rest) begins)
