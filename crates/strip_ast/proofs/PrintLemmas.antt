-- What the printing of trees needs: pieces one after the other, and expressions by their variants.
use Rattle.std.proofs.Common.{◌≡◌, ℕ, List, [], ◌∷◌, ◌++◌, ◌+◌, ◌<◌, suc, length, drop, get_or, drop-cons, arith, sym, ap, take, ◌-◌, refl}
use Rattle.std.proofs.lemmas.List.{take_all}
use Rattle.strip_ast.specs.declared.expressions.Op.{Op}
use Rattle.strip_ast.specs.declared.expressions.Expr.{Expr}
use Rattle.strip_ast.specs.declared.expressions.Expr.TheVariants as expr
use Rattle.strip_ast.specs.declared.expressions.Expr.TheBlock.{hidden-the_row-Expr-0}
use denote.Hole.Carrier.{hidden}
use Rattle.strip_ast.specs.declared.marks.Mark.TheVariants as m
use Rattle.strip_ast.specs.Pieces.{Piece, mark, Written, piece_after, after_all, following, listed}
use Rattle.strip_ast.specs.Written.{expr_pieces, enclosed_below, level, left_level, right_level, op_mark, op_level}

pub after_all_append : (w : Written) (ps qs : List Piece) → after_all w (ps ++ qs) ≡ after_all (after_all w ps) qs
after_all_append w [] qs = refl
after_all_append w (p ∷ ps) qs = after_all_append (piece_after w p) ps qs

pub pieces_of_two : (o : Op) (left right : Expr) → expr_pieces (expr.Two o left right) ≡ enclosed_below (left_level o) left ++ (mark (op_mark o) ∷ enclosed_below (right_level o) right)
unfolding hidden-the_row-Expr-0 hidden
pieces_of_two o left right = refl

pub pieces_of_not : (inner : Expr) → expr_pieces (expr.Not inner) ≡ mark m.Not ∷ enclosed_below 3 inner
unfolding hidden-the_row-Expr-0 hidden
pieces_of_not inner = refl

pub level_of_two : (o : Op) (left right : Expr) → level (expr.Two o left right) ≡ op_level o
level_of_two o left right = refl

pub level_of_not : (inner : Expr) → level (expr.Not inner) ≡ 2
level_of_not inner = refl

-- one item more
pub following_one : {A : Type 0} (f : A → List Piece) (w w1 w2 : Written) (xs : List A) (i : ℕ) (x : A) → i < length xs → x ≡ get_or xs i x → w1 ≡ piece_after w (mark m.Comma) → w2 ≡ after_all w1 (f x) → after_all w2 (following f (drop (i + 1) xs)) ≡ after_all w (following f (drop i xs))
following_one f w w1 w2 xs i x within is comma item =
    let next : drop i xs ≡ get_or xs i x ∷ drop (suc i) xs = drop-cons xs i x within in
    let place : i + 1 ≡ suc i = omega arith in
    rw (next, ← is, place) (rw (item, comma) (sym (after_all_append (piece_after w (mark m.Comma)) (f x) (following f (drop (suc i) xs)))))

pub two_printed : (w w1 w2 w3 : Written) (o : Op) (left right e : Expr) → e ≡ expr.Two o left right → w1 ≡ after_all w (enclosed_below (left_level o) left) → w2 ≡ piece_after w1 (mark (op_mark o)) → w3 ≡ after_all w2 (enclosed_below (right_level o) right) → w3 ≡ after_all w (expr_pieces e)
two_printed w w1 w2 w3 o left right e is first between second =
    let pieces = pieces_of_two o left right in
    let joined = after_all_append w (enclosed_below (left_level o) left) (mark (op_mark o) ∷ enclosed_below (right_level o) right) in
    rw (is, pieces, joined, second, between, first) refl

pub head_first : {A : Type 0} (xs : List A) (x : A) → 0 < length xs → x ≡ get_or xs 0 x → xs ≡ x ∷ take (length xs - 1) (drop 1 xs)
head_first [] x some is = absurd (omega arith)
head_first (y ∷ ys) x some is =
    let whole : take (length (y ∷ ys) - 1) ys ≡ ys = take_all (length (y ∷ ys) - 1) ys (omega arith) in
    rw whole (ap (λ z. z ∷ ys) (sym is))

-- the first item, and then the others
pub listed_printed : {A : Type 0} (f : A → List Piece) (w w1 w2 : Written) (xs others : List A) (x : A) → xs ≡ x ∷ others → w1 ≡ after_all w (f x) → w2 ≡ after_all w1 (following f others) → w2 ≡ after_all w (listed f xs)
listed_printed f w w1 w2 xs others x is first rest =
    rw (is, rest, first, after_all_append w (f x) (following f others)) refl

pub ruleset printing = (after_all_append, pieces_of_two, pieces_of_not)

pub ruleset levels = (level_of_two, level_of_not)
