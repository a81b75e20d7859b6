-- Laws of what is still to come.
use Rattle.std.proofs.Common.{◌≡◌, ℕ, true, false, List, [], ◌++◌, sym, ap, ◌∙◌, append-nil}
use Rattle.std.specs.Prelude.{if◌then◌else◌}
use Rattle.strip_value.specs.declared.pieces.Piece.{Piece}
use Rattle.strip_value.specs.Pieces.{segments_of, last_pieces, pieces_from, pieces}
use Rattle.strip_lines.specs.Reading.{Reading, fresh, segments_on, whole_pieces, whole_statements, coming, ended}
use Rattle.strip_lines.specs.Steps.{Looks}
use Rattle.strip_lines.proofs.SegmentLaws.{begun_with-nil, pieces_from-whole}

-- at the beginning all pieces are to come
pub coming-fresh : (limit : ℕ) (bytes : List ℕ) → coming (fresh limit) bytes ≡ pieces bytes
unfolding coming pieces
coming-fresh limit bytes = ap (pieces_from 0) (begun_with-nil false bytes)

-- after the end nothing is
pub coming-done : (reading : Reading) → reading.done ≡ true → (more : List ℕ) → coming reading more ≡ []
unfolding coming
coming-done reading done more =
    ap (λ d. if d then [] else pieces_from reading.begun.from (segments_on reading.begun (reading.waiting ++ more))) done

-- before the end it is the pieces of the bytes taken and those that follow
pub coming-going : (reading : Reading) → reading.done ≡ false → (more : List ℕ)
    → coming reading more ≡ pieces_from reading.begun.from (segments_on reading.begun (reading.waiting ++ more))
unfolding coming
coming-going reading going more =
    ap (λ d. if d then [] else pieces_from reading.begun.from (segments_on reading.begun (reading.waiting ++ more))) going

-- looking through the bytes taken changes nothing but what it finds
pub coming-looks : (old new : Reading) (found : List Piece) → old.done ≡ false → new.done ≡ false
    → Looks old.begun new.begun old.waiting new.waiting found → (more : List ℕ) → coming old more ≡ found ++ coming new more
coming-looks old new found going still looks more =
    coming-going old going more ∙ looks.next more ∙ ap (λ l. found ++ l) (sym (coming-going new still more))

pub ended-looks : (old new : Reading) (found : List Piece)
    → Looks old.begun new.begun old.waiting new.waiting found → (more : List ℕ) → ended old more ≡ found ++ ended new more
unfolding ended
ended-looks old new found looks more = looks.whole more

-- bytes that were taken where none were waiting
pub coming-takes : (old : Reading) (count : ℕ) (given : List ℕ) → old.waiting ≡ [] → (more : List ℕ)
    → coming old (given ++ more) ≡ coming (record old { taken = count; waiting = given }) more
unfolding coming
coming-takes old count given looked more =
    ap (λ w. if old.done then [] else pieces_from old.begun.from (segments_on old.begun (w ++ (given ++ more)))) looked

pub ended-takes : (old : Reading) (count : ℕ) (given : List ℕ) → old.waiting ≡ [] → (more : List ℕ)
    → ended old (given ++ more) ≡ ended (record old { taken = count; waiting = given }) more
unfolding ended
ended-takes old count given looked more =
    ap (λ w. whole_pieces old.begun.from (segments_on old.begun (w ++ (given ++ more)))) looked

-- where all bytes taken were looked at, no whole piece is among them
pub ended-looked : (reading : Reading) → reading.waiting ≡ [] → ended reading [] ≡ []
unfolding ended
ended-looked reading looked = ap (λ w. whole_pieces reading.begun.from (segments_on reading.begun (w ++ []))) looked

-- and if the source ends here, only the segment that has begun is left
pub coming-looked : (reading : Reading) → reading.done ≡ false → reading.waiting ≡ []
    → coming reading [] ≡ last_pieces reading.begun.from reading.begun.bytes
coming-looked reading going looked =
    coming-going reading going []
    ∙ ap (λ w. pieces_from reading.begun.from (segments_on reading.begun (w ++ []))) looked
    ∙ ap (last_pieces reading.begun.from) (append-nil reading.begun.bytes)

-- at the beginning the whole pieces of what follows are to be answered
pub ended-fresh : (limit : ℕ) (bytes : List ℕ) → ended (fresh limit) bytes ≡ whole_statements bytes
unfolding ended whole_statements
ended-fresh limit bytes = ap (whole_pieces 0) (begun_with-nil false bytes)

-- all pieces of a text are the whole ones, and what follows the last `;`
pub pieces-whole : (bytes : List ℕ) → (last : List Piece) × (pieces bytes ≡ whole_statements bytes ++ last)
unfolding pieces whole_statements
pieces-whole bytes = pieces_from-whole 0 (segments_of false bytes)
