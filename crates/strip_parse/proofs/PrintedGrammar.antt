-- What a statement is printed as is a statement with the same tree, with no more operators and parentheses.
use Rattle.std.proofs.Common.{◌≡◌, ℕ, zero, suc, ◌+◌, ◌-◌, ◌<◌, ◌≤◌, ◌^◌, Bool, true, false, nat_lt, List, [], ◌∷◌, ◌++◌, Option, Some, None, is_some, ℤ, pos, negsuc, neg_ℤ, inl, inr, refl, sym, ◌∙◌, ap, subst, append_assoc, arith}
use Rattle.std.specs.List.{AllByRecursion}
use Rattle.std.proofs.lemmas.Slice.Eq.{bytes_eq-Decides}
use Rattle.std.proofs.lemmas.List.{append-nil}
use Rattle.std.proofs.lemmas.Bool.Decides.{nat_tests}
use Rattle.strip_value.proofs.Lists.{all_append, all_left, all_right}
use Rattle.strip_value.specs.declared.kinds.Kind.{Kind}
use Rattle.strip_value.specs.declared.kinds.Kind.TheVariants as kind
use Rattle.strip_value.specs.declared.tables.By.{By}
use Rattle.strip_value.specs.declared.tables.By.TheVariants as by
use Rattle.strip_value.specs.declared.values.Value.{Value}
use Rattle.strip_value.specs.declared.values.Value.TheVariants as value
use Rattle.strip_ast.specs.declared.marks.Mark.{Mark as OneMark}
use Rattle.strip_ast.specs.declared.marks.Mark.TheVariants as m
use Rattle.strip_ast.specs.declared.token_types.Token.{Token}
use Rattle.strip_ast.specs.declared.token_types.Token.TheVariants as token
use Rattle.strip_ast.specs.declared.token_types.Placed.{Placed}
use Rattle.strip_ast.specs.declared.expressions.Expr.{Expr}
use Rattle.strip_ast.specs.declared.expressions.Expr.TheVariants as expr
use Rattle.strip_ast.specs.declared.expressions.Op.{Op}
use Rattle.strip_ast.specs.declared.expressions.Op.TheVariants as op
use Rattle.strip_ast.specs.declared.queries.Origin.TheVariants as origin
use Rattle.strip_ast.specs.declared.rules.EventTree.TheVariants as event_
use Rattle.strip_ast.specs.declared.rules.Manner.{Manner}
use Rattle.strip_ast.specs.declared.deeds.Deed.{Deed}
use Rattle.strip_ast.specs.declared.deeds.Deed.TheVariants as deed_
use Rattle.strip_ast.specs.declared.statements.Statement.{Statement}
use Rattle.strip_ast.specs.declared.statements.Statement.TheVariants as st
use Rattle.strip_ast.specs.Marks.{mark_text, same_mark}
use Rattle.strip_ast.specs.Pieces.{Piece}
use Rattle.strip_ast.specs.Pieces as piece
use Rattle.strip_ast.specs.Tokens.{is_grammar_name}
use Rattle.strip_ast.specs.Grammar.{Terminal, Grammar, terminal, empty, made, both, either, many, commas, outermost, or_enclosed, takes, some_if, Matches}
use Rattle.strip_ast.specs.Grammar as grammar
use Rattle.strip_ast.specs.Syntax.{key, ◌▸◌, ◌◂◌, optional, given, listed, stands, joins, a_name, a_number, joined, chain, or_none, names, column, columns, table, stream, step, function, col_of, dotted, col, atom, factor, product, sum, comparing, compared, compare, test, conj, expression, whole, item, totalled, total, source, entry, filter, rest, query, plain, derive, enclosed_names, event, bound, after_of, unique, manner, trigger, effect, rule, maintain, a_value, row, set, insert, put, update, delete, act, begin, show, deed, called, statement, Within}
use Rattle.strip_ast.specs.Written as written
use Rattle.strip_ast.specs.Written.{level, expr_pieces, enclosed, enclosed_below, op_mark, op_level, left_level, right_level, statement_pieces}
use Rattle.strip_ast.proofs.PrintLemmas.{pieces_of_two, pieces_of_not}
use Rattle.strip_parse.proofs.Counted.{Bounds, Step, BehindCounted, EachCounted, MaybeCounted, Counted, CountedWithin, uncounted, within_uncounted, each_counted, counted_more, room_more, Falls, fewer}
use Rattle.strip_ast.proofs.SoundTokens.{SoundToken, sound_placed, SoundTokens}
use Rattle.strip_parse.proofs.PrintedTokens.{piece_tokens, pieces_tokens, SoundPieces, bare}

-- ---- tokens of pieces

pieces_append : (ps qs : List Piece) → pieces_tokens (ps ++ qs) ≡ pieces_tokens ps ++ pieces_tokens qs
pieces_append [] qs = refl
pieces_append (p ∷ ps) qs =
    ap (λ ts. piece_tokens p ++ ts) (pieces_append ps qs) ∙ sym (append_assoc (piece_tokens p) (pieces_tokens ps) (pieces_tokens qs))

sound_append : (ps qs : List Piece) → SoundPieces ps → SoundPieces qs → SoundPieces (ps ++ qs)
sound_append ps qs s t =
    subst (λ ts. AllByRecursion SoundToken ts) (sym (pieces_append ps qs)) (all_append SoundToken (pieces_tokens ps) (pieces_tokens qs) s t)

sound_left : (u v w : List Placed) → u ≡ v ++ w → SoundTokens u → SoundTokens v
sound_left u v w split s = all_left sound_placed v w (subst (λ x. SoundTokens x) split s)

sound_right : (u v w : List Placed) → u ≡ v ++ w → SoundTokens u → SoundTokens w
sound_right u v w split s = all_right sound_placed v w (subst (λ x. SoundTokens x) split s)

-- tokens that are those of two lists are two lists
bare_split : (ks ls : List Token) (ts : List Placed) → bare ts ≡ ks ++ ls → (v : List Placed) × (w : List Placed) × (ts ≡ v ++ w) × (bare v ≡ ks) × (bare w ≡ ls)
bare_split [] ls ts is = ([], ts, refl, refl, is)
bare_split (k ∷ ks) ls [] is = cc
bare_split (k ∷ ks) ls (t ∷ ts) is =
    let here : t.token ≡ k = cc in
    let others : bare ts ≡ ks ++ ls = cc in
    let s = bare_split ks ls ts others in
    (t ∷ s.0, s.1, ap (λ us. t ∷ us) s.2, ap (λ x. x ∷ bare s.0) here ∙ ap (λ us. k ∷ us) s.3, s.4)

bare_one : (k : Token) (ts : List Placed) → bare ts ≡ k ∷ [] → (p : Placed) × (ts ≡ p ∷ []) × (p.token ≡ k)
bare_one k [] is = cc
bare_one k (p ∷ []) is = (p, refl, cc)
bare_one k (p ∷ q ∷ ts) is = cc

-- ---- what printing again says of one tree

-- what bounds expressions, and how many parentheses at most are open
record Inside : Type 0 where
  bounds : Bounds
  falls : Falls bounds
  room : ℕ

-- where so many parentheses at most are open
abbrev with_room : Inside → ℕ → Inside
with_room I room = record { bounds = I.bounds; falls = I.falls; room = room }

-- the list is matched as the tree, from so many operators to so many
abbrev Matched : {A : Type 0} → Inside → Grammar A → List Placed → A → ℕ → ℕ → Type 0
Matched I g u a k l = Counted I.bounds (CountedWithin I.bounds I.room) g u a k l

-- the list is matched as the tree
abbrev Plain : {A : Type 0} → Inside → Grammar A → List Placed → A → Type 0
Plain I g u a = Matches (Within I.room) g u a

plain_match : (I : Inside) {A : Type 0} (g : Grammar A) (u : List Placed) (a : A) (k l : ℕ) → Matched I g u a k l → Plain I g u a
plain_match I g u a k l r =
    uncounted I.bounds (CountedWithin I.bounds I.room) (Within I.room) (within_uncounted I.bounds I.room) g u a k l r

-- what one grammar matches as a tree, the other matches as a tree of its own
abbrev IsAlso : {A B : Type 0} → Inside → Grammar A → A → Grammar B → B → Type 0
IsAlso I g a h b = (u : List Placed) (k l : ℕ) → Matched I g u a k l → Matched I h u b k l

-- the pieces are sound, and any tokens that are theirs, whatever their places, are matched as the tree, from no more
-- operators to no more
record Printed (I : Inside) {A : Type 0} (g : Grammar A) (ps : List Piece) (a : A) (k l : ℕ) : Type 0 where
  sound : SoundPieces ps
  again : (ts : List Placed) → bare ts ≡ pieces_tokens ps → (i : ℕ) → i ≤ k → (j : ℕ) × (j ≤ l) × Matched I g ts a i j

-- where a list matched by one grammar is matched by another
printed_as : {I : Inside} {A B : Type 0} {k l : ℕ} (g : Grammar A) (h : Grammar B) (ps : List Piece) (a : A) (b : B) → IsAlso I g a h b → Printed I g ps a k l → Printed I h ps b k l
printed_as g h ps a b f p =
    record {
      sound = p.sound;
      again = λ ts is i few. let r = p.again ts is i few in (r.0, r.1, f ts i r.0 r.2);
    }

printed_both : {I : Inside} {A B : Type 0} {k n l : ℕ} (g : Grammar A) (h : Grammar B) (ps qs : List Piece) (c : A × B) → Printed I g ps c.0 k n → Printed I h qs c.1 n l → Printed I (both g h) (ps ++ qs) c k l
printed_both g h ps qs c p q =
    record {
      sound = sound_append ps qs p.sound q.sound;
      again = λ ts is i few.
          let s = bare_split (pieces_tokens ps) (pieces_tokens qs) ts (is ∙ pieces_append ps qs) in
          let r = p.again s.0 s.3 i few in
          let t = q.again s.1 s.4 r.0 r.1 in
          (t.0, t.1, (s.0, s.1, s.2, r.0, r.2, t.2));
    }

printed_one : {I : Inside} {A : Type 0} {k l : ℕ} (t : Terminal A) (p : Piece) (x : Token) (a : A) → pieces_tokens (p ∷ []) ≡ x ∷ [] → SoundToken x → takes t x ≡ Some a → Step I.bounds t a k l → Printed I (terminal t) (p ∷ []) a k l
printed_one {I} {A} {k} {l} t p x a is s taken step' =
    record {
      sound = subst (λ ts. AllByRecursion SoundToken ts) (sym is) (s, tt);
      again = λ ts same i few.
          let o = bare_one x ts (same ∙ is) in
          let r = fewer I.bounds t a i k l I.falls step' few in
          (r.0, r.1, ((o.0, o.1, ap (takes t) o.2 ∙ taken), r.2));
    }

printed_empty : {I : Inside} {A : Type 0} {k l : ℕ} (a : A) → l ≡ k → Printed I (empty a) [] a k l
printed_empty {I} {A} {k} {l} a same =
    record { sound = tt; again = λ ts is i few. (i, omega arith, (no_tokens ts is, refl, refl)) }
  where
    no_tokens : (ts : List Placed) → bare ts ≡ [] → ts ≡ []
    no_tokens [] is = refl
    no_tokens (p ∷ ts) is = cc

-- from fewer operators too
printed_fewer : {I : Inside} {A : Type 0} {k n l : ℕ} (g : Grammar A) (ps : List Piece) (a : A) → k ≤ n → Printed I g ps a n l → Printed I g ps a k l
printed_fewer g ps a few p = record { sound = p.sound; again = λ ts is i few'. p.again ts is i (omega (arith, few, few')) }

-- an expression that is no part of another is counted anew
printed_outermost : {I : Inside} {A : Type 0} {k l : ℕ} (g : Grammar A) (ps : List Piece) (a : A) → Printed I g ps a 0 l → Printed I (outermost g) ps a k l
printed_outermost g ps a p = record { sound = p.sound; again = λ ts is i few. p.again ts is 0 (omega arith) }

-- with room for one parenthesis more
printed_more : {k l : ℕ} (I : Inside) (room : ℕ) {A : Type 0} (g : Grammar A) (ps : List Piece) (a : A) → Printed (with_room I room) g ps a k l → Printed (with_room I (suc room)) g ps a k l
printed_more I room g ps a p =
    record {
      sound = p.sound;
      again = λ ts is i few.
          let r = p.again ts is i few in
          (r.0, r.1, counted_more I.bounds (CountedWithin I.bounds room) (CountedWithin I.bounds (suc room)) (room_more I.bounds room) g ts a i r.0 r.2);
    }

same_mark_text : (a : OneMark) → some_if (same_mark a a) ≡ Some tt
same_mark_text a = ap some_if ((bytes_eq-Decides (mark_text a) (mark_text a)).1 refl)

printed_key : {I : Inside} {k l : ℕ} (a : OneMark) → l ≡ k → Printed I (key a) (piece.mark a ∷ []) tt k l
printed_key a same = printed_one (grammar.mark a) (piece.mark a) (token.Mark a) tt refl tt (same_mark_text a) same

printed_operator : {I : Inside} {k l : ℕ} (a : OneMark) → (I.bounds.counts k ≡ true) × (l ≡ k + 1) → Printed I (terminal (grammar.operator a)) (piece.mark a ∷ []) tt k l
printed_operator a step' =
    printed_one (grammar.operator a) (piece.mark a) (token.Mark a) tt refl tt (same_mark_text a) step'

-- ---- what printing again says of a grammar

-- each tree that sound tokens are matched as is printed as sound pieces that are matched as it again
record Prints (I : Inside) {A : Type 0} (g : Grammar A) (f : A → List Piece) : Type 0 where
  prints : (u : List Placed) (a : A) (k l : ℕ) → SoundTokens u → Matched I g u a k l → Printed I g (f a) a k l

prints_alike : {I : Inside} {A : Type 0} {g : Grammar A} {f k : A → List Piece} → Prints I g f → ((u : List Placed) (a : A) → Plain I g u a → k a ≡ f a) → Prints I g k
prints_alike {I} {g = g} {f = f} {k = k} p alike =
    record {
      prints = λ u a i j s r. subst (λ ps. Printed I g ps a i j) (sym (alike u a (plain_match I g u a i j r))) (p.prints u a i j s r);
    }

prints_made : {I : Inside} {A B : Type 0} {g : Grammar A} {h : A → B} {f : A → List Piece} {k : B → List Piece} → Prints I g f → ((u : List Placed) (a : A) → Plain I g u a → k (h a) ≡ f a) → Prints I (made g h) k
prints_made {I} {g = g} {h = h} {f = f} {k = k} p alike =
    record {
      prints = λ u b i j s (a, r, is).
          let one : Printed I (made g h) (f a) (h a) i j = printed_as g (made g h) (f a) a (h a) (λ v i' j' t. (a, t, refl)) (p.prints u a i j s r) in
          subst (λ x. Printed I (made g h) (k x) x i j) (sym is) (subst (λ ps. Printed I (made g h) ps (h a) i j) (sym (alike u a (plain_match I g u a i j r))) one);
    }

prints_both : {I : Inside} {A B : Type 0} {g : Grammar A} {h : Grammar B} {f : A → List Piece} {k : B → List Piece} → Prints I g f → Prints I h k → Prints I (both g h) (λ c. f c.0 ++ k c.1)
prints_both {g = g} {h = h} {f = f} {k = k} p q =
    record {
      prints = λ u c i j s (v, w, split, n, r, t). printed_both g h (f c.0) (k c.1) c (p.prints v c.0 i n (sound_left u v w split s) r) (q.prints w c.1 n j (sound_right u v w split s) t);
    }

prints_either : {I : Inside} {A : Type 0} {g h : Grammar A} {f : A → List Piece} → Prints I g f → Prints I h f → Prints I (either g h) f
prints_either {I} {g = g} {h = h} {f = f} p q = record { prints = one }
  where
    one : (u : List Placed) (a : _) (k l : ℕ) → SoundTokens u → Matched I (either g h) u a k l → Printed I (either g h) (f a) a k l
    one u a k l s (inl r) = printed_as g (either g h) (f a) a a (λ v i j t. inl t) (p.prints u a k l s r)
    one u a k l s (inr r) = printed_as h (either g h) (f a) a a (λ v i j t. inr t) (q.prints u a k l s r)

prints_empty : {I : Inside} {A : Type 0} {b : A} {f : A → List Piece} → f b ≡ [] → Prints I (empty b) f
prints_empty {I} {b = b} {f = f} nil =
    record {
      prints = λ u a i j s (none, is, same). subst (λ x. Printed I (empty b) (f x) x i j) (sym is) (subst (λ ps. Printed I (empty b) ps b i j) (sym nil) (printed_empty b same));
    }

each_printed : (I : Inside) {A : Type 0} (g : Grammar A) (f : A → List Piece) (k : List A → List Piece) → Prints I g f → k [] ≡ [] → ((a : A) (as_ : List A) → k (a ∷ as_) ≡ f a ++ k as_) → (u : List Placed) (as_ : List A) (i j : ℕ) → SoundTokens u → EachCounted (Matched I g) u as_ i j → Printed I (many g) (k as_) as_ i j
each_printed I {A} g f k p nil more u [] i j s (is, same) =
    let none : List A = [] in
    subst (λ ps. Printed I (many g) ps none i j) (sym nil) (printed_as (empty none) (many g) [] none none (λ v i' j' t. (t.0, t.2)) (printed_empty none same))
each_printed I g f k p nil more u (a ∷ as_) i j s (v, w, split, n, r, t) =
    let others = each_printed I g f k p nil more w as_ n j (sound_right u v w split s) t in
    let one = printed_both g (many g) (f a) (k as_) (a, as_) (p.prints v a i n (sound_left u v w split s) r) others in
    subst (λ ps. Printed I (many g) ps (a ∷ as_) i j) (sym (more a as_)) (printed_as (both g (many g)) (many g) (f a ++ k as_) (a, as_) (a ∷ as_) (λ x i' j' y. y) one)

-- what a list prints, each item behind the other
prints_many : {I : Inside} {A : Type 0} {g : Grammar A} {f : A → List Piece} {k : List A → List Piece} → Prints I g f → k [] ≡ [] → ((a : A) (as_ : List A) → k (a ∷ as_) ≡ f a ++ k as_) → Prints I (many g) k
prints_many {I} {A} {g} {f} {k} p nil more = record { prints = λ u as_ i j s r. each_printed I g f k p nil more u as_ i j s r }

prints_key : {I : Inside} (a : OneMark) → Prints I (key a) (λ _. piece.mark a ∷ [])
prints_key a = record { prints = λ u x i j s (one, same). printed_key a same }

-- pieces with the same tokens print the same
printed_tokens : {I : Inside} {A : Type 0} {k l : ℕ} (g : Grammar A) (ps qs : List Piece) (a : A) → pieces_tokens ps ≡ pieces_tokens qs → Printed I g ps a k l → Printed I g qs a k l
printed_tokens g ps qs a is p =
    record { sound = subst (λ ts. AllByRecursion SoundToken ts) is p.sound; again = λ ts same. p.again ts (same ∙ sym is) }

-- ---- one token

prints_terminal : {I : Inside} {A : Type 0} (t : Terminal A) (f : A → Piece) (k : A → Token) → ((a : A) → pieces_tokens (f a ∷ []) ≡ k a ∷ []) → ((x : Token) (a : A) → takes t x ≡ Some a → SoundToken x → SoundToken (k a)) → ((a : A) → takes t (k a) ≡ Some a) → Prints I (terminal t) (λ a. f a ∷ [])
prints_terminal t f k is kept back =
    record {
      prints = λ u a i j s ((p, split, taken), step').
          let here = subst (λ x. SoundTokens x) split s in
          printed_one t (f a) (k a) a (is a) (kept p.token a taken here.0) (back a) step';
    }

name_kept : (x : Token) (a : List ℕ) → takes grammar.name x ≡ Some a → SoundToken x → is_grammar_name a ≡ true
name_kept (token.Mark b) a taken s = cc
name_kept (token.Name b) a taken s =
    let same : b ≡ a = cc in
    subst (λ y. is_grammar_name y ≡ true) same s
name_kept (token.Number n) a taken s = cc
name_kept (token.Text t) a taken s = cc

number_kept : (x : Token) (n : ℕ) → takes grammar.number x ≡ Some n → SoundToken x → n < 10 ^ 38
number_kept (token.Mark b) n taken s = cc
number_kept (token.Name b) n taken s = cc
number_kept (token.Number k) n taken s =
    let same : k ≡ n = cc in
    subst (λ y. y < 10 ^ 38) same s
number_kept (token.Text t) n taken s = cc

caller_alike : (x : Token) → takes grammar.caller x ≡ takes grammar.number x
caller_alike (token.Mark b) = refl
caller_alike (token.Name b) = refl
caller_alike (token.Number n) = refl
caller_alike (token.Text t) = refl

text_kept : (x : Token) (t : List ℕ) → takes grammar.text x ≡ Some t → SoundToken x → SoundToken (token.Text t)
text_kept (token.Mark b) t taken s = cc
text_kept (token.Name b) t taken s = cc
text_kept (token.Number n) t taken s = cc
text_kept (token.Text b) t taken s =
    let same : b ≡ t = cc in
    subst (λ y. SoundToken (token.Text y)) same s

prints_name : {I : Inside} → Prints I a_name written.name_pieces
prints_name = prints_terminal grammar.name piece.name token.Name (λ a. refl) name_kept (λ a. refl)

prints_number : {I : Inside} → Prints I a_number (λ n. piece.whole n ∷ [])
prints_number = prints_terminal grammar.number piece.whole token.Number (λ n. refl) number_kept (λ n. refl)

prints_natural : {I : Inside} → Prints I a_number (λ n. piece.number (pos n) ∷ [])
prints_natural = prints_terminal grammar.number (λ n. piece.number (pos n)) token.Number (λ n. refl) number_kept (λ n. refl)

prints_caller : {I : Inside} → Prints I (terminal grammar.caller) (λ n. piece.whole n ∷ [])
prints_caller = prints_terminal grammar.caller piece.whole token.Number (λ n. refl) (λ x n is. number_kept x n (sym (caller_alike x) ∙ is)) (λ n. refl)

prints_text : {I : Inside} → Prints I (terminal grammar.text) (λ t. piece.text t ∷ [])
prints_text = prints_terminal grammar.text piece.text token.Text (λ t. refl) text_kept (λ t. refl)

-- `-` and a number: two tokens, or one where it is nothing
printed_negative : {I : Inside} {A C : Type 0} {k n l : ℕ} (g : Grammar A) (o : Grammar C) (y : C) (x : ℤ → A) → k ≤ n → Printed I o (piece.mark m.Minus ∷ []) y k n → ((i : ℕ) → IsAlso I a_number i g (x (pos i))) → ((i : ℕ) → IsAlso I (both o a_number) (y, i) g (x (neg_ℤ (pos i)))) → (i : ℕ) → Printed I a_number (piece.number (pos i) ∷ []) i n l → Printed I g (piece.number (neg_ℤ (pos i)) ∷ []) (x (neg_ℤ (pos i))) k l
printed_negative g o y x few minus alone behind zero p =
    printed_as a_number g (piece.number (pos 0) ∷ []) 0 (x (pos 0)) (alone 0) (printed_fewer a_number (piece.number (pos 0) ∷ []) 0 few p)
printed_negative g o y x few minus alone behind (suc i) p =
    printed_tokens g (piece.mark m.Minus ∷ piece.number (pos (suc i)) ∷ []) (piece.number (negsuc i) ∷ []) (x (negsuc i)) refl (printed_as (both o a_number) g (piece.mark m.Minus ∷ piece.number (pos (suc i)) ∷ []) (y, suc i) (x (negsuc i)) (behind (suc i)) (printed_both o a_number (piece.mark m.Minus ∷ []) (piece.number (pos (suc i)) ∷ []) (y, suc i) minus p))

-- ---- words of the grammar

prints_behind : {I : Inside} {A : Type 0} {g : Grammar A} {f : A → List Piece} (w : OneMark) → Prints I g f → Prints I (w ▸ g) (λ a. piece.mark w ∷ f a)
prints_behind w p = prints_made (prints_both (prints_key w) p) (λ u c r. refl)

prints_ahead : {I : Inside} {A : Type 0} {g : Grammar A} {f : A → List Piece} (w : OneMark) → Prints I g f → Prints I (g ◂ w) (λ a. f a ++ piece.mark w ∷ [])
prints_ahead w p = prints_made (prints_both p (prints_key w)) (λ u c r. refl)

prints_enclosed : {I : Inside} {A : Type 0} {g : Grammar A} {f : A → List Piece} → Prints I g f → Prints I (m.Open ▸ (g ◂ m.Close)) (λ a. piece.enclosed_by (f a))
prints_enclosed p = prints_behind m.Open (prints_ahead m.Close p)

prints_stands : {I : Inside} {A : Type 0} {f : A → List Piece} (w : OneMark) (x : A) → f x ≡ piece.mark w ∷ [] → Prints I (stands w x) f
prints_stands w x is = prints_made (prints_key w) (λ u a r. is)

prints_optional : {I : Inside} {A : Type 0} {g : Grammar A} {f : A → List Piece} (k : Option A → List Piece) → Prints I g f → k None ≡ [] → ((a : A) → k (Some a) ≡ f a) → Prints I (optional g) k
prints_optional k p nil some = prints_either (prints_made p (λ u a r. some a)) (prints_empty nil)

prints_or_none : {I : Inside} {A : Type 0} {g : Grammar (List A)} {k : List A → List Piece} → Prints I g k → k [] ≡ [] → Prints I (made (optional g) or_none) k
prints_or_none {k = k} p nil = prints_made (prints_optional (λ o. k (or_none o)) p nil (λ a. refl)) (λ u o r. refl)

prints_following : {I : Inside} {A : Type 0} {g : Grammar A} {f : A → List Piece} → Prints I g f → Prints I (many (m.Comma ▸ g)) (piece.following f)
prints_following p = prints_many (prints_behind m.Comma p) refl (λ a as_. refl)

prints_listed : {I : Inside} {A : Type 0} {g : Grammar A} {f : A → List Piece} → Prints I g f → Prints I (listed g) (piece.listed f)
prints_listed p = prints_made (prints_both p (prints_following p)) (λ u c r. refl)

-- what a grammar matches is a list with something in it
record Fills (I : Inside) {A : Type 0} (g : Grammar (List A)) : Type 0 where
  some : (u : List Placed) (as_ : List A) → Plain I g u as_ → (x : A) × (xs : List A) × (as_ ≡ x ∷ xs)

fills_listed : {I : Inside} {A : Type 0} (g : Grammar A) → Fills I (listed g)
fills_listed g = record { some = λ u as_ (c, r, is). (c.0, c.1, is) }

fills_behind : {I : Inside} {A : Type 0} {g : Grammar (List A)} (w : OneMark) → Fills I g → Fills I (w ▸ g)
fills_behind w p =
    record { some = λ u as_ (c, (v, x, split, one, r), is). let s = p.some x c.1 r in (s.0, s.1, is ∙ s.2) }

fills_ahead : {I : Inside} {A : Type 0} {g : Grammar (List A)} (w : OneMark) → Fills I g → Fills I (g ◂ w)
fills_ahead w p =
    record { some = λ u as_ (c, (v, x, split, r, one), is). let s = p.some v c.0 r in (s.0, s.1, is ∙ s.2) }

prints_some : {I : Inside} {A : Type 0} {g : Grammar (List A)} {f k : List A → List Piece} → Fills I g → Prints I g f → ((x : A) (xs : List A) → k (x ∷ xs) ≡ f (x ∷ xs)) → Prints I g k
prints_some {f = f} {k = k} fills p alike =
    prints_alike p (λ u as_ r. let s = fills.some u as_ r in ap k s.2 ∙ alike s.0 s.1 ∙ ap f (sym s.2))

prints_led : {I : Inside} {A : Type 0} {g : Grammar A} {f : A → List Piece} (w : OneMark) → Prints I g f → Prints I (w ▸ listed g) (written.led w f)
prints_led {g = g} w p = prints_some (fills_behind w (fills_listed g)) (prints_behind w (prints_listed p)) (λ x xs. refl)

some_taken : (o : Option (Unit {0})) → is_some o ≡ true → o ≡ Some tt
some_taken (Some x) is = refl
some_taken None is = cc

to_behind : (I : Inside) {A : Type 0} (w : OneMark) (g : Grammar A) (u : List Placed) (a : A) (k l : ℕ) → BehindCounted (grammar.mark w) (Matched I g) u a k l → Matched I (w ▸ g) u a k l
to_behind I w g u a k l (p, v, split, some, r) =
    ((tt, a), (p ∷ [], v, split, k, ((p, refl, some_taken (takes (grammar.mark w) p.token) some), refl), r), refl)

from_behind : (I : Inside) {A : Type 0} (w : OneMark) (g : Grammar A) (u : List Placed) (a : A) (k l : ℕ) → Matched I (w ▸ g) u a k l → BehindCounted (grammar.mark w) (Matched I g) u a k l
from_behind I w g u a k l (c, (v, x, split, n, ((p, one, taken), same), r), is) =
    (p, x, split ∙ ap (λ y. y ++ x) one, ap is_some taken, subst (λ y. Matched I g x y k l) (sym is) (subst (λ i. Matched I g x c.1 i l) same r))

to_optional : (I : Inside) {A : Type 0} (w : OneMark) (g : Grammar A) (u : List Placed) (o : Option A) (k l : ℕ) → MaybeCounted (BehindCounted (grammar.mark w) (Matched I g)) u o k l → Matched I (optional (w ▸ g)) u o k l
to_optional I w g u None k l (nil, same) = inr (nil, refl, same)
to_optional I w g u (Some a) k l r = inl (a, to_behind I w g u a k l r, refl)

from_optional : (I : Inside) {A : Type 0} (w : OneMark) (g : Grammar A) (u : List Placed) (o : Option A) (k l : ℕ) → Matched I (optional (w ▸ g)) u o k l → MaybeCounted (BehindCounted (grammar.mark w) (Matched I g)) u o k l
from_optional I w g u o k l (inl (a, r, is)) =
    subst (λ x. MaybeCounted (BehindCounted (grammar.mark w) (Matched I g)) u x k l) (sym is) (from_behind I w g u a k l r)
from_optional I w g u o k l (inr (nil, is, same)) =
    subst (λ x. MaybeCounted (BehindCounted (grammar.mark w) (Matched I g)) u x k l) (sym is) (nil, same)

-- a list behind commas is any number of items, and maybe one of another kind
commas_apart : (I : Inside) {A B : Type 0} (g : Grammar A) (h : Grammar B) (u : List Placed) (c : List A × Option B) (k l : ℕ) → Matched I (commas g h) u c k l → Matched I (both (many (m.Comma ▸ g)) (optional (m.Comma ▸ h))) u c k l
commas_apart I g h u c k l (v, w, split, n, r, s) =
    (v, w, split, n, each_counted (BehindCounted (grammar.mark m.Comma) (Matched I g)) (Matched I (m.Comma ▸ g)) (to_behind I m.Comma g) v c.0 k n r, to_optional I m.Comma h w c.1 n l s)

commas_together : (I : Inside) {A B : Type 0} (g : Grammar A) (h : Grammar B) (u : List Placed) (c : List A × Option B) (k l : ℕ) → Matched I (both (many (m.Comma ▸ g)) (optional (m.Comma ▸ h))) u c k l → Matched I (commas g h) u c k l
commas_together I g h u c k l (v, w, split, n, r, s) =
    (v, w, split, n, each_counted (Matched I (m.Comma ▸ g)) (BehindCounted (grammar.mark m.Comma) (Matched I g)) (from_behind I m.Comma g) v c.0 k n r, from_optional I m.Comma h w c.1 n l s)

prints_commas : {I : Inside} {A B : Type 0} {g : Grammar A} {h : Grammar B} {f : A → List Piece} {k : Option B → List Piece} → Prints I g f → Prints I (optional (m.Comma ▸ h)) k → Prints I (commas g h) (λ c. piece.following f c.0 ++ k c.1)
prints_commas {I} {g = g} {h = h} {f = f} {k = k} p q =
    let apart = prints_both (prints_following p) q in
    record {
      prints = λ u c i j s r. printed_as (both (many (m.Comma ▸ g)) (optional (m.Comma ▸ h))) (commas g h) (piece.following f c.0 ++ k c.1) c c (λ v i' j' t. commas_together I g h v c i' j' t) (apart.prints u c i j s (commas_apart I g h u c i j r));
    }

-- ---- expressions

-- the grammar of a level
abbrev grammar_at : ℕ → Grammar Expr
grammar_at zero = expression
grammar_at (suc zero) = conj
grammar_at (suc (suc zero)) = test
grammar_at (suc (suc (suc zero))) = compare
grammar_at (suc (suc (suc (suc zero)))) = sum
grammar_at (suc (suc (suc (suc (suc zero))))) = product
grammar_at (suc (suc (suc (suc (suc (suc n)))))) = factor

-- the expression prints as what its own level matches
abbrev Own : Inside → Expr → ℕ → ℕ → Type 0
Own I e k l = Printed I (grammar_at (level e)) (expr_pieces e) e k l

printed_alone : {I : Inside} {k l : ℕ} (o : Grammar Op) (g : Grammar Expr) (ps : List Piece) (e : Expr) → Printed I g ps e k l → Printed I (chain o g) ps e k l
printed_alone o g ps e p =
    printed_as g (chain o g) ps e e (λ v i j t. ((e, []), (v, [], sym (append-nil v), j, t, (refl, refl)), refl)) p

expression_of : {I : Inside} {k l : ℕ} (ps : List Piece) (e : Expr) → Printed I conj ps e k l → Printed I expression ps e k l
unfolding expression
expression_of ps e p = printed_alone (joins m.Or op.Or) conj ps e p

conj_of : {I : Inside} {k l : ℕ} (ps : List Piece) (e : Expr) → Printed I test ps e k l → Printed I conj ps e k l
unfolding conj
conj_of ps e p = printed_alone (joins m.And op.And) test ps e p

test_of : {I : Inside} {k l : ℕ} (ps : List Piece) (e : Expr) → Printed I compare ps e k l → Printed I test ps e k l
unfolding test
test_of ps e p = printed_as compare test ps e e (λ v i j t. inr t) p

compare_of : {I : Inside} {k l : ℕ} (ps : List Piece) (e : Expr) → Printed I sum ps e k l → Printed I compare ps e k l
unfolding compare
compare_of ps e p =
    printed_as sum compare ps e e (λ v i j t. ((e, None), (v, [], sym (append-nil v), j, t, inr (refl, refl, refl)), refl)) p

sum_of : {I : Inside} {k l : ℕ} (ps : List Piece) (e : Expr) → Printed I product ps e k l → Printed I sum ps e k l
unfolding sum
sum_of ps e p = printed_alone (either (joins m.Plus op.Add) (joins m.Minus op.Sub)) product ps e p

product_of : {I : Inside} {k l : ℕ} (ps : List Piece) (e : Expr) → Printed I factor ps e k l → Printed I product ps e k l
unfolding product
product_of ps e p = printed_alone (joins m.Star op.Mul) factor ps e p

one_down : {I : Inside} {k l : ℕ} (n : ℕ) (ps : List Piece) (e : Expr) → Printed I (grammar_at (suc n)) ps e k l → Printed I (grammar_at n) ps e k l
one_down zero ps e p = expression_of ps e p
one_down (suc zero) ps e p = conj_of ps e p
one_down (suc (suc zero)) ps e p = test_of ps e p
one_down (suc (suc (suc zero))) ps e p = compare_of ps e p
one_down (suc (suc (suc (suc zero)))) ps e p = sum_of ps e p
one_down (suc (suc (suc (suc (suc zero))))) ps e p = product_of ps e p
one_down (suc (suc (suc (suc (suc (suc n)))))) ps e p = p

all_down : {I : Inside} {k l : ℕ} (n i : ℕ) (ps : List Piece) (e : Expr) → Printed I (grammar_at (i + n)) ps e k l → Printed I (grammar_at i) ps e k l
all_down {I} {k} {l} zero i ps e p =
    let same : i + 0 ≡ i = omega arith in
    subst (λ x. Printed I (grammar_at x) ps e k l) same p
all_down {I} {k} {l} (suc n) i ps e p =
    let same : i + suc n ≡ suc (i + n) = omega arith in
    all_down n i ps e (one_down (i + n) ps e (subst (λ x. Printed I (grammar_at x) ps e k l) same p))

-- what a level matches is matched by each below it
printed_down : {I : Inside} {k l : ℕ} (high low : ℕ) (ps : List Piece) (e : Expr) → low ≤ high → Printed I (grammar_at high) ps e k l → Printed I (grammar_at low) ps e k l
printed_down {I} {k} {l} high low ps e below p =
    let apart : high ≡ low + (high - low) = omega arith in
    all_down (high - low) low ps e (subst (λ n. Printed I (grammar_at n) ps e k l) apart p)

-- an expression in parentheses
printed_enclosed : {k l : ℕ} (I : Inside) (room : ℕ) (ps : List Piece) (e : Expr) → Printed (with_room I room) expression ps e k l → Printed (with_room I (suc room)) factor (piece.enclosed_by ps) e k l
unfolding factor
printed_enclosed I room ps e p =
    let closed = printed_both expression (key m.Close) ps (piece.mark m.Close ∷ []) (e, tt) p (printed_key m.Close refl) in
    let all = printed_both (key m.Open) (both expression (key m.Close)) (piece.mark m.Open ∷ []) (ps ++ piece.mark m.Close ∷ []) (tt, (e, tt)) (printed_key m.Open refl) closed in
    record {
      sound = all.sound;
      again = λ ts is i few. let r = all.again ts is i few in (r.0, r.1, enclosed_within ts e i r.0 r.2);
    }
  where
    enclosed_within : (ts : List Placed) (e' : Expr) (i j : ℕ) → Matched (with_room I room) (both (key m.Open) (both expression (key m.Close))) ts (tt, (e', tt)) i j → Matched (with_room I (suc room)) (or_enclosed atom) ts e' i j
    enclosed_within ts e' i j (v, w, split, n, ((p', one, taken), same), (x, y, split', n', r, (c, same'))) =
        inr (p', w, split ∙ ap (λ z. z ++ w) one, ap is_some taken, (x, y, split', subst (λ z. CountedWithin I.bounds (suc room) x e' i z) (sym same') (subst (λ z. CountedWithin I.bounds (suc room) x e' z n') same r), c))

plainly : {I : Inside} {k l : ℕ} (e : Expr) → Own I e k l → Printed I expression (expr_pieces e) e k l
plainly e p = printed_down (level e) 0 (expr_pieces e) e (omega arith) p

-- an expression of this level or a higher one; or one for which a parenthesis was open
data Sits (I : Inside) (low : ℕ) (e : Expr) (k l : ℕ) : Type 0 where
  bare_sits : low ≤ level e → Own I e k l → Sits I low e k l
  closed_sits : (room : ℕ) → I.room ≡ suc room → Own (with_room I room) e k l → Sits I low e k l

own_of : {I : Inside} {low k l : ℕ} {e : Expr} → Sits I low e k l → Own I e k l
own_of (bare_sits above p) = p
own_of {I} {low} {k} {l} {e} (closed_sits room deep p) =
    subst (λ n. Own (with_room I n) e k l) (sym deep) (printed_more I room (grammar_at (level e)) (expr_pieces e) e p)

sits_down : {I : Inside} {k l : ℕ} (high low : ℕ) (e : Expr) → low ≤ high → Sits I high e k l → Sits I low e k l
sits_down high low e below (bare_sits above p) = bare_sits (omega arith) p
sits_down high low e below (closed_sits room deep p) = closed_sits room deep p

too_low : (n low : ℕ) → nat_lt n low ≡ true → low ≤ n → ⊥
too_low n low is above = grind (arith, nat_tests)

at_level : {I : Inside} {k l : ℕ} (low : ℕ) (e : Expr) (b : Bool) → low ≤ 6 → nat_lt (level e) low ≡ b → Sits I low e k l → Printed I (grammar_at low) (enclosed b (expr_pieces e)) e k l
at_level low e true few is (bare_sits above p) = absurd (too_low (level e) low is above)
at_level {I} {k} {l} low e true few is (closed_sits room deep p) =
    printed_down 6 low (piece.enclosed_by (expr_pieces e)) e few (subst (λ n. Printed (with_room I n) factor (piece.enclosed_by (expr_pieces e)) e k l) (sym deep) (printed_enclosed I room (expr_pieces e) e (plainly e p)))
at_level low e false few is s =
    let below : low ≤ level e = grind (arith, nat_tests) in
    printed_down (level e) low (expr_pieces e) e below (own_of s)

-- an operand of this level
operand_of : {I : Inside} {k l : ℕ} (low : ℕ) (e : Expr) → low ≤ 6 → Sits I low e k l → Printed I (grammar_at low) (enclosed_below low e) e k l
operand_of low e few p = at_level low e (nat_lt (level e) low) few refl p

-- ---- two expressions joined

-- one operator more
abbrev Joins : Inside → ℕ → ℕ → Type 0
Joins I k l = (I.bounds.counts k ≡ true) × (l ≡ k + 1)

printed_joins : {I : Inside} {k l : ℕ} (w : OneMark) (o : Op) → Joins I k l → Printed I (joins w o) (piece.mark w ∷ []) o k l
printed_joins w o one =
    printed_as (terminal (grammar.operator w)) (joins w o) (piece.mark w ∷ []) tt o (λ v i j t. (tt, t, refl)) (printed_operator w one)

joined_last : (e : Expr) (xs : List (Op × Expr)) (o : Op) (b : Expr) → joined e (xs ++ (o, b) ∷ []) ≡ expr.Two o (joined e xs) b
joined_last e [] o b = refl
joined_last e (x ∷ xs) o b = joined_last (expr.Two x.0 e x.1) xs o b

each_last : {A : Type 0} (R : List Placed → A → ℕ → ℕ → Type 0) (u v : List Placed) (as_ : List A) (a : A) (k n l : ℕ) → EachCounted R u as_ k n → R v a n l → EachCounted R (u ++ v) (as_ ++ a ∷ []) k l
each_last R u v [] a k n l (is, same) r =
    (v, [], ap (λ x. x ++ v) is ∙ sym (append-nil v), l, subst (λ i. R v a i l) same r, (refl, refl))
each_last R u v (b ∷ as_) a k n l (x, y, split, i, s, more) r =
    (x, y ++ v, ap (λ z. z ++ v) split ∙ append_assoc x y v, i, s, each_last R y v as_ a i n l more r)

chained : (I : Inside) (o : Grammar Op) (g : Grammar Expr) (x : Op) (a b : Expr) (u : List Placed) (k l : ℕ) → Matched I (both (chain o g) (both o g)) u (a, (x, b)) k l → Matched I (chain o g) u (expr.Two x a b) k l
chained I o g x a b u k l (v, w, split, n, ((e, xs), (v1, v2, split1, n1, r, each), is), s) =
    ((e, xs ++ (x, b) ∷ []), (v1, v2 ++ w, split ∙ ap (λ z. z ++ w) split1 ∙ append_assoc v1 v2 w, n1, r, each_last (Matched I (both o g)) v2 w xs (x, b) n1 n l each s), ap (λ y. expr.Two x y b) is ∙ sym (joined_last e xs x b))

printed_chained : {I : Inside} {k i j l : ℕ} (o : Grammar Op) (g : Grammar Expr) (w : OneMark) (x : Op) (ps qs : List Piece) (a b : Expr) → Printed I (chain o g) ps a k i → Printed I o (piece.mark w ∷ []) x i j → Printed I g qs b j l → Printed I (chain o g) (ps ++ (piece.mark w ∷ qs)) (expr.Two x a b) k l
printed_chained {I} o g w x ps qs a b p q r =
    printed_as (both (chain o g) (both o g)) (chain o g) (ps ++ (piece.mark w ∷ qs)) (a, (x, b)) (expr.Two x a b) (λ v i' j' t. chained I o g x a b v i' j' t) (printed_both (chain o g) (both o g) ps (piece.mark w ∷ qs) (a, (x, b)) p (printed_both o g (piece.mark w ∷ []) qs (x, b) q r))

-- two operands joined are an expression of the operator's level
own_two : {I : Inside} {k l : ℕ} (o : Op) (a b : Expr) → Printed I (grammar_at (op_level o)) (enclosed_below (left_level o) a ++ (piece.mark (op_mark o) ∷ enclosed_below (right_level o) b)) (expr.Two o a b) k l → Sits I (op_level o) (expr.Two o a b) k l
own_two {I} {k} {l} o a b p =
    bare_sits (omega arith) (subst (λ ps. Printed I (grammar_at (op_level o)) ps (expr.Two o a b) k l) (sym (pieces_of_two o a b)) p)

joined_or : {I : Inside} {k i j l : ℕ} (a b : Expr) → Joins I i j → Sits I 0 a k i → Sits I 1 b j l → Printed I expression (enclosed_below 0 a ++ (piece.mark m.Or ∷ enclosed_below 1 b)) (expr.Two op.Or a b) k l
unfolding expression
joined_or a b one p q =
    printed_chained (joins m.Or op.Or) conj m.Or op.Or (enclosed_below 0 a) (enclosed_below 1 b) a b (operand_of 0 a (omega arith) p) (printed_joins m.Or op.Or one) (operand_of 1 b (omega arith) q)

joined_and : {I : Inside} {k i j l : ℕ} (a b : Expr) → Joins I i j → Sits I 1 a k i → Sits I 2 b j l → Printed I conj (enclosed_below 1 a ++ (piece.mark m.And ∷ enclosed_below 2 b)) (expr.Two op.And a b) k l
unfolding conj
joined_and a b one p q =
    printed_chained (joins m.And op.And) test m.And op.And (enclosed_below 1 a) (enclosed_below 2 b) a b (operand_of 1 a (omega arith) p) (printed_joins m.And op.And one) (operand_of 2 b (omega arith) q)

joined_star : {I : Inside} {k i j l : ℕ} (a b : Expr) → Joins I i j → Sits I 5 a k i → Sits I 6 b j l → Printed I product (enclosed_below 5 a ++ (piece.mark m.Star ∷ enclosed_below 6 b)) (expr.Two op.Mul a b) k l
unfolding product
joined_star a b one p q =
    printed_chained (joins m.Star op.Mul) factor m.Star op.Mul (enclosed_below 5 a) (enclosed_below 6 b) a b (operand_of 5 a (omega arith) p) (printed_joins m.Star op.Mul one) (operand_of 6 b (omega arith) q)

-- how sums are joined
abbrev summing : Grammar Op
summing = either (joins m.Plus op.Add) (joins m.Minus op.Sub)

joined_sum : {I : Inside} {k i j l : ℕ} (w : OneMark) (o : Op) (a b : Expr) → IsAlso I (joins w o) o summing o → Joins I i j → Sits I 4 a k i → Sits I 5 b j l → Printed I sum (enclosed_below 4 a ++ (piece.mark w ∷ enclosed_below 5 b)) (expr.Two o a b) k l
unfolding sum
joined_sum w o a b f one p q =
    printed_chained summing product w o (enclosed_below 4 a) (enclosed_below 5 b) a b (operand_of 4 a (omega arith) p) (printed_as (joins w o) summing (piece.mark w ∷ []) o o f (printed_joins w o one)) (operand_of 5 b (omega arith) q)

joined_compared : {I : Inside} {k i j l : ℕ} (w : OneMark) (o : Op) (a b : Expr) → IsAlso I (joins w o) o comparing o → Joins I i j → Sits I 4 a k i → Sits I 4 b j l → Printed I compare (enclosed_below 4 a ++ (piece.mark w ∷ enclosed_below 4 b)) (expr.Two o a b) k l
unfolding compare
joined_compared w o a b f one p q =
    let here = printed_as (joins w o) comparing (piece.mark w ∷ []) o o f (printed_joins w o one) in
    let right = printed_both comparing sum (piece.mark w ∷ []) (enclosed_below 4 b) (o, b) here (operand_of 4 b (omega arith) q) in
    let all = printed_both sum (both comparing sum) (enclosed_below 4 a) (piece.mark w ∷ enclosed_below 4 b) (a, (o, b)) (operand_of 4 a (omega arith) p) right in
    printed_as (both sum (both comparing sum)) (made (both sum (optional (both comparing sum))) compared) (enclosed_below 4 a ++ (piece.mark w ∷ enclosed_below 4 b)) (a, (o, b)) (expr.Two o a b) (λ u i' j' (x, y, split, n, s, t). ((a, Some (o, b)), (x, y, split, n, s, inl ((o, b), t, refl)), refl)) all

joined_not : {I : Inside} {k i l : ℕ} (e : Expr) → Joins I k i → Sits I 3 e i l → Printed I test (piece.mark m.Not ∷ enclosed_below 3 e) (expr.Not e) k l
unfolding test
joined_not e one p =
    let all = printed_both (terminal (grammar.operator m.Not)) compare (piece.mark m.Not ∷ []) (enclosed_below 3 e) (tt, e) (printed_operator m.Not one) (operand_of 3 e (omega arith) p) in
    printed_as (both (terminal (grammar.operator m.Not)) compare) (either (made (both (terminal (grammar.operator m.Not)) compare) (λ c. expr.Not c.1)) compare) (piece.mark m.Not ∷ enclosed_below 3 e) (tt, e) (expr.Not e) (λ u i' j' t. inl ((tt, e), t, refl)) all

own_not : {I : Inside} {k i l : ℕ} (e : Expr) → Joins I k i → Sits I 3 e i l → Sits I 2 (expr.Not e) k l
own_not {I} {k} {i} {l} e one p =
    bare_sits (omega arith) (subst (λ ps. Printed I test ps (expr.Not e) k l) (sym (pieces_of_not e)) (joined_not e one p))

-- ---- the trees of expressions

-- where each tree that sound tokens are matched as sits
abbrev Owned : Inside → ℕ → Grammar Expr → Type 0
Owned I low g = (u : List Placed) (e : Expr) (k l : ℕ) → SoundTokens u → Matched I g u e k l → Sits I low e k l

-- the same of what may stand in parentheses
record Inner (I : Inside) : Type 0 where
  owned : (u : List Placed) (e : Expr) (k l : ℕ) → SoundTokens u → CountedWithin I.bounds I.room u e k l → Sits I 6 e k l

-- two expressions joined by one of these operators sit at its level
abbrev TwoOwned : Inside → ℕ → ℕ → ℕ → Grammar Op → Type 0
TwoOwned I low left right o =
    (v : List Placed) (x : Op) (a b : Expr) (k i j l : ℕ) → Matched I o v x i j → Sits I left a k i → Sits I right b j l → Sits I low (expr.Two x a b) k l

owned_joined : (I : Inside) (low : ℕ) (o : Grammar Op) (g : Grammar Expr) → TwoOwned I low low (suc low) o → Owned I (suc low) g → (u : List Placed) (a : Expr) (xs : List (Op × Expr)) (k n l : ℕ) → SoundTokens u → Sits I low a k n → EachCounted (Matched I (both o g)) u xs n l → Sits I low (joined a xs) k l
owned_joined I low o g two h u a [] k n l s p (nil, same) = subst (λ i. Sits I low a k i) (sym same) p
owned_joined I low o g two h u a (x ∷ xs) k n l s p (v, w, split, n1, (y, z, split', n2, r, t), more) =
    let here = sound_left u v w split s in
    owned_joined I low o g two h w (expr.Two x.0 a x.1) xs k n1 l (sound_right u v w split s) (two y x.0 a x.1 k n n2 n1 r p (h z x.1 n2 n1 (sound_right v y z split' here) t)) more

owned_chain : (I : Inside) (low : ℕ) (o : Grammar Op) (g : Grammar Expr) → TwoOwned I low low (suc low) o → Owned I (suc low) g → Owned I low (chain o g)
owned_chain I low o g two h u e k l s (c, (v, w, split, n, r, each), is) =
    subst (λ x. Sits I low x k l) (sym is) (owned_joined I low o g two h w c.0 c.1 k n l (sound_right u v w split s) (sits_down (suc low) low c.0 (omega arith) (h v c.0 k n (sound_left u v w split s) r)) each)

-- where the operator is this one
two_of : (I : Inside) (low : ℕ) (w : OneMark) (o x : Op) (v : List Placed) (a b : Expr) (k i j l : ℕ) → (Joins I i j → Sits I low (expr.Two o a b) k l) → Matched I (joins w o) v x i j → Sits I low (expr.Two x a b) k l
two_of I low w o x v a b k i j l f (c, (one, step'), is) = subst (λ y. Sits I low (expr.Two y a b) k l) (sym is) (f step')

owned_factor : (I : Inside) → Inner I → Owned I 6 atom → Owned I 6 factor
unfolding factor
owned_factor I inner h u e k l s (inl r) = h u e k l s r
owned_factor I inner h u e k l s (inr (p, v, split, some, (x, y, split', i, c))) =
    inner.owned x e k l (sound_left v x y split' (sound_right u (p ∷ []) v split s)) i

owned_product : (I : Inside) → Owned I 6 factor → Owned I 5 product
unfolding product
owned_product I h =
    owned_chain I 5 (joins m.Star op.Mul) factor (λ v x a b k i j l r p q. two_of I 5 m.Star op.Mul x v a b k i j l (λ one. own_two op.Mul a b (joined_star a b one p q)) r) h

two_summed : (I : Inside) → TwoOwned I 4 4 5 summing
two_summed I v x a b k i j l (inl r) p q =
    two_of I 4 m.Plus op.Add x v a b k i j l (λ one. own_two op.Add a b (joined_sum m.Plus op.Add a b (λ u i' j' t. inl t) one p q)) r
two_summed I v x a b k i j l (inr r) p q =
    two_of I 4 m.Minus op.Sub x v a b k i j l (λ one. own_two op.Sub a b (joined_sum m.Minus op.Sub a b (λ u i' j' t. inr t) one p q)) r

owned_sum : (I : Inside) → Owned I 5 product → Owned I 4 sum
unfolding sum
owned_sum I h = owned_chain I 4 summing product (two_summed I) h

two_compared : (I : Inside) → TwoOwned I 3 4 4 comparing
unfolding comparing
two_compared I v x a b k i j l (inl r) p q =
    two_of I 3 m.Equal op.Eq x v a b k i j l (λ one. own_two op.Eq a b (joined_compared m.Equal op.Eq a b (λ u i' j' t. inl t) one p q)) r
two_compared I v x a b k i j l (inr (inl r)) p q =
    two_of I 3 m.Unequal op.Ne x v a b k i j l (λ one. own_two op.Ne a b (joined_compared m.Unequal op.Ne a b (λ u i' j' t. inr (inl t)) one p q)) r
two_compared I v x a b k i j l (inr (inr (inl r))) p q =
    two_of I 3 m.Below op.Lt x v a b k i j l (λ one. own_two op.Lt a b (joined_compared m.Below op.Lt a b (λ u i' j' t. inr (inr (inl t))) one p q)) r
two_compared I v x a b k i j l (inr (inr (inr (inl r)))) p q =
    two_of I 3 m.AtMost op.Le x v a b k i j l (λ one. own_two op.Le a b (joined_compared m.AtMost op.Le a b (λ u i' j' t. inr (inr (inr (inl t)))) one p q)) r
two_compared I v x a b k i j l (inr (inr (inr (inr (inl r))))) p q =
    two_of I 3 m.Above op.Gt x v a b k i j l (λ one. own_two op.Gt a b (joined_compared m.Above op.Gt a b (λ u i' j' t. inr (inr (inr (inr (inl t))))) one p q)) r
two_compared I v x a b k i j l (inr (inr (inr (inr (inr r))))) p q =
    two_of I 3 m.AtLeast op.Ge x v a b k i j l (λ one. own_two op.Ge a b (joined_compared m.AtLeast op.Ge a b (λ u i' j' t. inr (inr (inr (inr (inr t))))) one p q)) r

owned_compared : (I : Inside) → Owned I 4 sum → (u : List Placed) (a : Expr) (o : Option (Op × Expr)) (k n l : ℕ) → SoundTokens u → Sits I 4 a k n → Matched I (optional (both comparing sum)) u o n l → Sits I 3 (compared (a, o)) k l
owned_compared I h u a o k n l s p (inl (c, (v, w, split, n', r, t), is)) =
    subst (λ y. Sits I 3 (compared (a, y)) k l) (sym is) (two_compared I v c.0 a c.1 k n n' l r p (h w c.1 n' l (sound_right u v w split s) t))
owned_compared I h u a o k n l s p (inr (none, is, same)) =
    subst (λ y. Sits I 3 (compared (a, y)) k l) (sym is) (subst (λ i. Sits I 3 a k i) (sym same) (sits_down 4 3 a (omega arith) p))

owned_compare : (I : Inside) → Owned I 4 sum → Owned I 3 compare
unfolding compare
owned_compare I h u e k l s (c, (v, w, split, n, r, t), is) =
    subst (λ x. Sits I 3 x k l) (sym is) (owned_compared I h w c.0 c.1 k n l (sound_right u v w split s) (h v c.0 k n (sound_left u v w split s) r) t)

owned_test : (I : Inside) → Owned I 3 compare → Owned I 2 test
unfolding test
owned_test I h u e k l s (inl (c, (v, w, split, n, (one, step'), t), is)) =
    subst (λ x. Sits I 2 x k l) (sym is) (own_not c.1 step' (h w c.1 n l (sound_right u v w split s) t))
owned_test I h u e k l s (inr r) = sits_down 3 2 e (omega arith) (h u e k l s r)

owned_conj : (I : Inside) → Owned I 2 test → Owned I 1 conj
unfolding conj
owned_conj I h =
    owned_chain I 1 (joins m.And op.And) test (λ v x a b k i j l r p q. two_of I 1 m.And op.And x v a b k i j l (λ one. own_two op.And a b (joined_and a b one p q)) r) h

owned_expression : (I : Inside) → Owned I 1 conj → Owned I 0 expression
unfolding expression
owned_expression I h =
    owned_chain I 0 (joins m.Or op.Or) conj (λ v x a b k i j l r p q. two_of I 0 m.Or op.Or x v a b k i j l (λ one. own_two op.Or a b (joined_or a b one p q)) r) h

-- ---- numbers, texts and columns

-- a name behind a point, where there is one
abbrev dot_pieces : Option (List ℕ) → List Piece
dot_pieces None = []
dot_pieces (Some a) = piece.mark m.Dot ∷ piece.name a ∷ []

prints_dotted : {I : Inside} → Prints I dotted (λ c. written.name_pieces c.0 ++ dot_pieces c.1)
unfolding dotted
prints_dotted = prints_both prints_name (prints_optional dot_pieces (prints_behind m.Dot prints_name) refl (λ a. refl))

-- what is made of a column's names prints them
dotted_alike : {A : Type 0} (f : Option (List ℕ) → List ℕ → A) (k : A → List Piece) → ((of : Option (List ℕ)) (a : List ℕ) → k (f of a) ≡ written.col_pieces of a) → (c : List ℕ × Option (List ℕ)) → k (col_of f c) ≡ written.name_pieces c.0 ++ dot_pieces c.1
dotted_alike f k is (a, None) = is None a
dotted_alike f k is (a, Some b) = is (Some a) b

-- an operator is one more
joined_before : (I : Inside) (u : List Placed) (w : OneMark) (o x : Op) (k l : ℕ) → Matched I (joins w o) u x k l → Joins I k l
joined_before I u w o x k l (c, (one, step'), is) = step'

atom_printed : (I : Inside) (u : List Placed) (e : Expr) (k l : ℕ) → SoundTokens u → Matched I atom u e k l → Printed I atom (expr_pieces e) e k l
unfolding atom
atom_printed I u e k l s (inl (c, (v, w, split, n, r, t), is)) =
    let before = joined_before I v m.Minus op.Sub c.0 k n r in
    let few : k ≤ n = omega (arith, before.1) in
    let one = (prints_natural {I = I}).prints w c.1 n l (sound_right u v w split s) t in
    subst (λ x. Printed I atom (expr_pieces x) x k l) (sym is) (printed_negative atom (joins m.Minus op.Sub) op.Sub expr.Number few (printed_joins m.Minus op.Sub before) (λ i y i' j' z. inr (inl (i, z, refl))) (λ i y i' j' z. inl ((op.Sub, i), z, refl)) c.1 one)
atom_printed I u e k l s (inr r) =
    let others : Prints I (either (made a_number (λ n. expr.Number (pos n))) (either (made (terminal grammar.text) expr.Text) (made dotted (col_of expr.Column)))) expr_pieces = prints_either (prints_made prints_natural (λ v n t. refl)) (prints_either (prints_made prints_text (λ v t z. refl)) (prints_made prints_dotted (λ v c t. dotted_alike expr.Column expr_pieces (λ of a. refl) c))) in
    printed_as (either (made a_number (λ n. expr.Number (pos n))) (either (made (terminal grammar.text) expr.Text) (made dotted (col_of expr.Column)))) atom (expr_pieces e) e e (λ v i j t. inr t) (others.prints u e k l s r)

column_level : (c : List ℕ × Option (List ℕ)) → level (col_of expr.Column c) ≡ 6
column_level (a, None) = refl
column_level (a, Some b) = refl

atom_level : (I : Inside) (u : List Placed) (e : Expr) → Plain I atom u e → level e ≡ 6
unfolding atom
atom_level I u e (inl (c, r, is)) = ap level is
atom_level I u e (inr (inl (n, r, is))) = ap level is
atom_level I u e (inr (inr (inl (t, r, is)))) = ap level is
atom_level I u e (inr (inr (inr (c, r, is)))) = ap level is ∙ column_level c

owned_atom : (I : Inside) → Owned I 6 atom
unfolding factor
owned_atom I u e k l s r =
    let one : Printed I factor (expr_pieces e) e k l = printed_as atom factor (expr_pieces e) e e (λ v i j t. inl t) (atom_printed I u e k l s r) in
    let high : level e ≡ 6 = atom_level I u e (plain_match I atom u e k l r) in
    bare_sits (omega arith) (subst (λ n. Printed I (grammar_at n) (expr_pieces e) e k l) (sym high) one)

owned_sums : (I : Inside) → Inner I → Owned I 4 sum
owned_sums I inner = owned_sum I (owned_product I (owned_factor I inner (owned_atom I)))

owned_all : (I : Inside) → Inner I → Owned I 0 expression
owned_all I inner = owned_expression I (owned_conj I (owned_test I (owned_compare I (owned_sums I inner))))

inner_within : (b : Bounds) (falls : Falls b) (room : ℕ) → Inner (record { bounds = b; falls = falls; room = room })
inner_within b falls zero = record { owned = λ u e k l s w. absurd w }
inner_within b falls (suc room) =
    record {
      owned = λ u e k l s w. closed_sits room refl (own_of (owned_all (record { bounds = b; falls = falls; room = room }) (inner_within b falls room) u e k l s w));
    }

prints_whole : {I : Inside} → Inner I → Prints I whole expr_pieces
unfolding whole
prints_whole {I} inner =
    record {
      prints = λ u e k l s r. printed_outermost expression (expr_pieces e) e (plainly e (own_of (owned_all I inner u e 0 l s r)));
    }

-- a sum that is no part of another expression
prints_sum : {I : Inside} → Inner I → Prints I (outermost sum) (enclosed_below 4)
prints_sum {I} inner =
    record {
      prints = λ u e k l s r. printed_outermost sum (enclosed_below 4 e) e (operand_of 4 e (omega arith) (owned_sums I inner u e 0 l s r));
    }

-- ---- names, tables, streams, functions

prints_names : {I : Inside} → Prints I names (piece.listed written.name_pieces)
unfolding names
prints_names = prints_listed prints_name

fills_names : {I : Inside} → Fills I names
unfolding names
fills_names = fills_listed a_name

-- the word for a kind
abbrev kind_pieces : Kind → List Piece
kind_pieces k = piece.mark (written.kind_mark k) ∷ []

prints_column : {I : Inside} → Prints I column written.def_pieces
unfolding column
prints_column =
    prints_made (prints_both prints_name (prints_either {f = kind_pieces} (prints_stands m.Int kind.Int refl) (prints_stands m.Text kind.Text refl))) (λ u c r. refl)

prints_keys : {I : Inside} → Prints I (m.Comma ▸ (m.Key ▸ names)) written.key_pieces
prints_keys =
    prints_some (fills_behind m.Comma (fills_behind m.Key fills_names)) (prints_behind m.Comma (prints_behind m.Key prints_names)) (λ x xs. refl)

prints_columns : {I : Inside} → Prints I columns (λ c. piece.listed written.def_pieces c.0 ++ written.key_pieces c.1)
unfolding columns
prints_columns =
    prints_made (prints_both prints_column (prints_commas prints_column (prints_optional (λ o. written.key_pieces (or_none o)) prints_keys refl (λ a. refl)))) (λ u c r. refl)

prints_limit : {I : Inside} → Prints I (optional (m.Limit ▸ a_number)) written.limit_pieces
prints_limit = prints_optional written.limit_pieces (prints_behind m.Limit prints_number) refl (λ n. refl)

-- the pieces of a table, as its grammar groups them
table_regrouped : (ds ks ls : List Piece) → ds ++ (ks ++ (piece.mark m.Close ∷ ls)) ≡ ((ds ++ ks) ++ (piece.mark m.Close ∷ [])) ++ ls
table_regrouped ds ks ls =
    sym (append_assoc (ds ++ ks) (piece.mark m.Close ∷ []) ls ∙ append_assoc ds ks (piece.mark m.Close ∷ ls))

prints_table : {I : Inside} → Prints I table statement_pieces
unfolding table
prints_table =
    prints_made (prints_both (prints_behind m.Table prints_name) (prints_both (prints_enclosed prints_columns) prints_limit)) (λ u c r. ap (λ ps. piece.mark m.Table ∷ piece.name c.0 ∷ piece.mark m.Open ∷ ps) (table_regrouped (piece.listed written.def_pieces c.1.0.0) (written.key_pieces c.1.0.1) (written.limit_pieces c.1.1)))

prints_marked : {I : Inside} → Prints I (given m.Marked) written.marked_pieces
prints_marked = prints_either (prints_made (prints_key m.Marked) (λ u a r. refl)) (prints_empty refl)

prints_stream : {I : Inside} → Prints I stream statement_pieces
unfolding stream
prints_stream =
    prints_made (prints_both (prints_behind m.Stream prints_name) (prints_both (prints_behind m.Into prints_name) prints_marked)) (λ u c r. refl)

prints_step : {I : Inside} → Prints I step written.step_pieces
unfolding step
prints_step =
    prints_either (prints_made (prints_both (prints_behind m.Add prints_name) (prints_behind m.Into prints_name)) (λ u c r. refl)) (prints_made (prints_both (prints_behind m.Redo prints_name) (prints_behind m.By prints_name)) (λ u c r. refl))

prints_function : {I : Inside} → Prints I function statement_pieces
unfolding function
prints_function = prints_made (prints_both (prints_behind m.Function prints_name) (prints_listed prints_step)) (λ u c r. refl)

-- ---- queries

-- a name behind `as`, where there is one
prints_named : {I : Inside} → Prints I (optional (m.As ▸ a_name)) written.named_pieces
prints_named = prints_optional written.named_pieces (prints_behind m.As prints_name) refl (λ a. refl)

prints_item : {I : Inside} → Inner I → Prints I item written.item_pieces
unfolding item
prints_item inner = prints_made (prints_both (prints_whole inner) prints_named) (λ u c r. refl)

prints_totalled : {I : Inside} → Inner I → Prints I totalled written.total_pieces
unfolding totalled
prints_totalled inner =
    prints_either (prints_made (prints_behind m.Sum (prints_enclosed (prints_whole inner))) (λ u e r. refl)) (prints_made (prints_behind m.Count (prints_behind m.Open (prints_behind m.Star (prints_key m.Close)))) (λ u e r. refl))

prints_total : {I : Inside} → Inner I → Prints I total written.item_pieces
unfolding total
prints_total inner =
    prints_either (prints_made (prints_both (prints_totalled inner) prints_named) (λ u c r. refl)) (prints_item inner)

prints_source : {I : Inside} → Prints I source written.origin_pieces
unfolding source
prints_source =
    prints_either (prints_made (prints_behind m.Before prints_name) (λ u a r. refl)) (prints_either (prints_stands m.Inserted origin.Inserted refl) (prints_either (prints_stands m.Deleted origin.Deleted refl) (prints_either (prints_stands m.Old origin.Old refl) (prints_either (prints_stands m.New origin.New refl) (prints_made prints_name (λ u a r. refl))))))

prints_entry : {I : Inside} → Prints I entry written.entry_pieces
unfolding entry
prints_entry =
    prints_made (prints_both prints_source (prints_optional written.alias_pieces prints_name refl (λ a. refl))) (λ u c r. refl)

prints_filter : {I : Inside} → Inner I → Prints I filter written.filter_pieces
unfolding filter
prints_filter inner = prints_optional written.filter_pieces (prints_behind m.Where (prints_whole inner)) refl (λ e. refl)

prints_rest : {I : Inside} → Inner I → Prints I rest (λ c. (piece.mark m.From ∷ piece.listed written.entry_pieces c.0) ++ written.filter_pieces c.1)
unfolding rest
prints_rest inner = prints_both (prints_behind m.From (prints_listed prints_entry)) (prints_filter inner)

prints_col : {I : Inside} → Prints I col written.column_pieces
unfolding col
prints_col =
    prints_made prints_dotted (λ u c r. dotted_alike (λ of a. record { of = of; name = a }) written.column_pieces (λ of a. refl) c)

prints_group : {I : Inside} → Prints I (optional (m.Group ▸ (m.By ▸ listed col))) written.group_pieces
prints_group =
    prints_optional written.group_pieces (prints_behind m.Group (prints_behind m.By (prints_listed prints_col))) refl (λ a. refl)

prints_query : {I : Inside} → Inner I → Prints I query written.query_pieces
unfolding query
prints_query inner =
    prints_made (prints_both (prints_behind m.Select (prints_listed (prints_total inner))) (prints_both (prints_rest inner) prints_group)) (λ u c r. ap (λ ps. piece.mark m.Select ∷ (piece.listed written.item_pieces c.0 ++ (piece.mark m.From ∷ ps))) (sym (append_assoc (piece.listed written.entry_pieces c.1.0.0) (written.filter_pieces c.1.0.1) (written.group_pieces c.1.1))))

prints_plain : {I : Inside} → Inner I → Prints I plain written.query_pieces
unfolding plain
prints_plain inner =
    prints_made (prints_both (prints_behind m.Select (prints_listed (prints_item inner))) (prints_rest inner)) (λ u c r. ap (λ ps. piece.mark m.Select ∷ (piece.listed written.item_pieces c.0 ++ (piece.mark m.From ∷ (piece.listed written.entry_pieces c.1.0 ++ ps)))) (append-nil (written.filter_pieces c.1.1)))

prints_derive : {I : Inside} → Inner I → Prints I derive statement_pieces
unfolding derive
prints_derive inner =
    prints_made (prints_both (prints_behind m.Derive prints_name) (prints_behind m.As (prints_query inner))) (λ u c r. refl)

-- ---- rules

prints_enclosed_names : {I : Inside} → Prints I enclosed_names written.enclosed_names
unfolding enclosed_names
prints_enclosed_names =
    prints_some (fills_behind m.Open (fills_ahead m.Close fills_names)) (prints_enclosed prints_names) (λ x xs. refl)

fills_enclosed_names : {I : Inside} → Fills I enclosed_names
unfolding enclosed_names
fills_enclosed_names = fills_behind m.Open (fills_ahead m.Close fills_names)

prints_event : {I : Inside} → Prints I event written.event_pieces
unfolding event
prints_event =
    prints_either (prints_stands m.Inserted event_.Inserted refl) (prints_either (prints_stands m.Deleted event_.Deleted refl) (prints_made (prints_behind m.Updated (prints_optional (λ o. written.enclosed_names (or_none o)) prints_enclosed_names refl (λ a. refl))) (λ u o r. refl)))

prints_bind : {I : Inside} → Prints I (optional (m.Bind ▸ (m.As ▸ a_name))) written.bind_pieces
prints_bind = prints_optional written.bind_pieces (prints_behind m.Bind (prints_behind m.As prints_name)) refl (λ a. refl)

prints_bound : {I : Inside} → Inner I → Prints I bound written.bound_pieces
unfolding bound
prints_bound inner =
    prints_made (prints_both (prints_enclosed (prints_plain inner)) prints_bind) (λ u c r. ap (λ ps. piece.mark m.Open ∷ ps) (sym (append_assoc (written.query_pieces c.0) (piece.mark m.Close ∷ []) (written.bind_pieces c.1))))

prints_on : {I : Inside} → Prints I (m.On ▸ enclosed_names) written.on_pieces
prints_on = prints_some (fills_behind m.On fills_enclosed_names) (prints_behind m.On prints_enclosed_names) (λ x xs. refl)

prints_unique : {I : Inside} → Prints I unique (λ columns'. piece.mark m.Unique ∷ written.on_pieces columns')
unfolding unique
prints_unique =
    prints_made (prints_behind m.Unique (prints_optional (λ o. written.on_pieces (or_none o)) prints_on refl (λ a. refl))) (λ u o r. refl)

-- no time is printed as nothing
no_after : {I : Inside} {k l : ℕ} → l ≡ k → Printed I (optional (m.After ▸ a_number)) [] None k l
no_after same =
    printed_as (empty None) (optional (m.After ▸ a_number)) [] None None (λ v i j t. inr t) (printed_empty None same)

-- a time behind `after`, where one is given
abbrev after_given : Option ℕ → List Piece
after_given None = []
after_given (Some n) = piece.mark m.After ∷ piece.whole n ∷ []

after_some : (I : Inside) (u : List Placed) (n k l : ℕ) → SoundTokens u → Matched I (optional (m.After ▸ a_number)) u (Some n) k l → Printed I (optional (m.After ▸ a_number)) (piece.mark m.After ∷ piece.whole n ∷ []) (Some n) k l
after_some I u n k l s r =
    (prints_optional {I = I} after_given (prints_behind m.After prints_number) refl (λ i. refl)).prints u (Some n) k l s r

-- a time has no operator
after_nothing : (I : Inside) (u : List Placed) (o : Option ℕ) (k l : ℕ) → SoundTokens u → Matched I (optional (m.After ▸ a_number)) u o k l → l ≡ k
after_nothing I u o k l s (inl (n, (c, (v, w, split, i, (one, same), (two, same')), is), is')) = same' ∙ same
after_nothing I u o k l s (inr (nil, is, same)) = same

-- a time of 0 is printed as no time is
after_printed : (I : Inside) (u : List Placed) (o : Option ℕ) (k l : ℕ) → SoundTokens u → Matched I (optional (m.After ▸ a_number)) u o k l → (n : Option ℕ) × (after_of o ≡ after_of n) × Printed I (optional (m.After ▸ a_number)) (written.after_pieces (after_of o)) n k l
after_printed I u None k l s r = (None, refl, no_after (after_nothing I u None k l s r))
after_printed I u (Some zero) k l s r = (None, refl, no_after (after_nothing I u (Some zero) k l s r))
after_printed I u (Some (suc n)) k l s r = (Some (suc n), refl, after_some I u (suc n) k l s r)

prints_unique_option : {I : Inside} → Prints I (optional unique) written.unique_pieces
prints_unique_option = prints_optional written.unique_pieces prints_unique refl (λ a. refl)

manner_printed : (I : Inside) (u : List Placed) (a : Manner) (k l : ℕ) → SoundTokens u → Matched I manner u a k l → Printed I manner (written.manner_pieces a) a k l
unfolding manner
manner_printed I u a k l s (c, (v, w, split, n', r, t), is) =
    let once = (prints_unique_option {I = I}).prints v c.0 k n' (sound_left u v w split s) r in
    let time = after_printed I w c.1 n' l (sound_right u v w split s) t in
    let all = printed_both (optional unique) (optional (m.After ▸ a_number)) (written.unique_pieces c.0) (written.after_pieces (after_of c.1)) (c.0, time.0) once time.2 in
    let one : Printed I manner (written.unique_pieces c.0 ++ written.after_pieces (after_of c.1)) (record { unique = c.0; after = after_of time.0 }) k l = printed_as (both (optional unique) (optional (m.After ▸ a_number))) manner (written.unique_pieces c.0 ++ written.after_pieces (after_of c.1)) (c.0, time.0) (record { unique = c.0; after = after_of time.0 }) (λ x i j y. ((c.0, time.0), y, refl)) all in
    let here : Printed I manner (written.unique_pieces c.0 ++ written.after_pieces (after_of c.1)) (record { unique = c.0; after = after_of c.1 }) k l = subst (λ n. Printed I manner (written.unique_pieces c.0 ++ written.after_pieces (after_of c.1)) (record { unique = c.0; after = n }) k l) (sym time.1) one in
    subst (λ x. Printed I manner (written.manner_pieces x) x k l) (sym is) here

prints_manner : {I : Inside} → Prints I manner written.manner_pieces
prints_manner {I} = record { prints = manner_printed I }

prints_trigger : {I : Inside} → Inner I → Prints I trigger (λ c. written.trigger_pieces c.0 c.1.0 c.1.1)
unfolding trigger
prints_trigger inner =
    prints_alike (prints_both (prints_behind m.On prints_name) (prints_both (prints_behind m.When (prints_listed prints_event)) (prints_or_none (prints_led m.If (prints_bound inner)) refl))) (λ u c r. refl)

prints_effect : {I : Inside} → Inner I → Prints I effect (λ c. written.effect_pieces c.0 c.1.0 c.1.1)
unfolding effect
prints_effect inner =
    prints_alike (prints_both (prints_behind m.Then (prints_or_none (prints_led m.Evaluate (prints_bound inner)) refl)) (prints_both (prints_behind m.Execute prints_name) prints_manner)) (λ u c r. refl)

prints_rule : {I : Inside} → Inner I → Prints I rule statement_pieces
unfolding rule
prints_rule inner =
    prints_made (prints_both (prints_behind m.Rule prints_name) (prints_both (prints_trigger inner) (prints_effect inner))) (λ u c r. refl)

-- the word for how rules keep a derived table
abbrev by_pieces : By → List Piece
by_pieces b = piece.mark (written.by_mark b) ∷ []

prints_maintain : {I : Inside} → Prints I maintain statement_pieces
unfolding maintain
prints_maintain =
    prints_made (prints_both (prints_behind m.Maintain prints_name) (prints_both (prints_behind m.By (prints_either {f = by_pieces} (prints_stands m.Sum by.Sum refl) (prints_stands m.Key by.Key refl))) prints_manner)) (λ u c r. refl)

-- ---- deeds

-- nor has a keyword or a symbol
key_before : (I : Inside) (u : List Placed) (w : OneMark) (k l : ℕ) → Matched I (key w) u tt k l → l ≡ k
key_before I u w k l (one, same) = same

value_printed : (I : Inside) (u : List Placed) (a : Value) (k l : ℕ) → SoundTokens u → Matched I a_value u a k l → Printed I a_value (written.value_pieces a) a k l
unfolding a_value
value_printed I u a k l s (inl (n, (c, (v, w, split, n', r, t), is'), is)) =
    let before = key_before I v m.Minus k n' r in
    let few : k ≤ n' = omega (arith, before) in
    let one = (prints_natural {I = I}).prints w c.1 n' l (sound_right u v w split s) t in
    let here = printed_negative a_value (key m.Minus) tt value.Int few (printed_key m.Minus before) (λ i y i' j' z. inr (inl (i, z, refl))) (λ i y i' j' z. inl (i, ((tt, i), z, refl), refl)) c.1 one in
    let same : a ≡ value.Int (neg_ℤ (pos c.1)) = is ∙ ap (λ i. value.Int (neg_ℤ (pos i))) is' in
    subst (λ x. Printed I a_value (written.value_pieces x) x k l) (sym same) here
value_printed I u a k l s (inr r) =
    let others : Prints I (either (made a_number (λ n. value.Int (pos n))) (made (terminal grammar.text) value.Text)) written.value_pieces = prints_either (prints_made prints_natural (λ v n t. refl)) (prints_made prints_text (λ v t z. refl)) in
    printed_as (either (made a_number (λ n. value.Int (pos n))) (made (terminal grammar.text) value.Text)) a_value (written.value_pieces a) a a (λ v i j t. inr t) (others.prints u a k l s r)

prints_value : {I : Inside} → Prints I a_value written.value_pieces
prints_value {I} = record { prints = value_printed I }

prints_row : {I : Inside} → Prints I row written.row_pieces
unfolding row
prints_row = prints_alike (prints_enclosed (prints_listed prints_value)) (λ u a r. refl)

prints_set : {I : Inside} → Inner I → Prints I set written.set_pieces
unfolding set
prints_set inner = prints_made (prints_both prints_name (prints_behind m.Equal (prints_sum inner))) (λ u c r. refl)

prints_insert : {I : Inside} → Prints I insert written.deed_pieces
unfolding insert
prints_insert = prints_made (prints_both (prints_behind m.Insert prints_name) (prints_listed prints_row)) (λ u c r. refl)

prints_put : {I : Inside} → Prints I put written.deed_pieces
unfolding put
prints_put = prints_made (prints_both (prints_behind m.Put prints_name) prints_row) (λ u c r. refl)

prints_update : {I : Inside} → Inner I → Prints I update written.deed_pieces
unfolding update
prints_update inner =
    prints_made (prints_both (prints_behind m.Update prints_name) (prints_both (prints_behind m.Set (prints_listed (prints_set inner))) (prints_filter inner))) (λ u c r. refl)

prints_delete : {I : Inside} → Inner I → Prints I delete written.deed_pieces
unfolding delete
prints_delete inner = prints_made (prints_both (prints_behind m.Delete prints_name) (prints_filter inner)) (λ u c r. refl)

prints_act : {I : Inside} → Inner I → Prints I act written.deed_pieces
unfolding act
prints_act inner =
    prints_either prints_insert (prints_either prints_put (prints_either (prints_update inner) (prints_either (prints_delete inner) (prints_made (prints_query inner) (λ u q r. refl)))))

prints_begin : {I : Inside} → Prints I begin written.deed_pieces
unfolding begin names
prints_begin =
    prints_made (prints_behind m.Begin (prints_both (prints_or_none (prints_led m.Write prints_name) refl) (prints_or_none (prints_led m.Read prints_name) refl))) (λ u c r. refl)

-- what is shown
abbrev shown_pieces : Deed → List Piece
shown_pieces (deed_.Show a) = piece.name a ∷ []
shown_pieces d = piece.mark m.Pending ∷ []

shown_alike : (I : Inside) (u : List Placed) (d : Deed) → Plain I (m.Show ▸ either (stands m.Pending deed_.ShowPending) (made a_name deed_.Show)) u d → written.deed_pieces d ≡ piece.mark m.Show ∷ shown_pieces d
shown_alike I u d (c, (v, w, split, one, inl (x, r, same)), is) =
    ap written.deed_pieces (is ∙ same) ∙ ap (λ y. piece.mark m.Show ∷ shown_pieces y) (sym (is ∙ same))
shown_alike I u d (c, (v, w, split, one, inr (a, r, same)), is) =
    ap written.deed_pieces (is ∙ same) ∙ ap (λ y. piece.mark m.Show ∷ shown_pieces y) (sym (is ∙ same))

prints_show : {I : Inside} → Prints I show written.deed_pieces
unfolding show
prints_show {I} =
    prints_alike (prints_behind m.Show (prints_either {f = shown_pieces} (prints_stands m.Pending deed_.ShowPending refl) (prints_made prints_name (λ u a r. refl)))) (shown_alike I)

prints_deed : {I : Inside} → Inner I → Prints I deed written.deed_pieces
unfolding deed
prints_deed inner =
    prints_either prints_begin (prints_either (prints_stands m.Commit deed_.Commit refl) (prints_either (prints_stands m.Undo deed_.Undo refl) (prints_either (prints_stands m.Start deed_.Start refl) (prints_either (prints_made (prints_behind m.Finish prints_number) (λ u n r. refl)) (prints_either (prints_made (prints_behind m.Return prints_number) (λ u n r. refl)) (prints_either (prints_stands m.Run deed_.Run refl) (prints_either prints_show (prints_act inner))))))))

prints_called : {I : Inside} → Inner I → Prints I called statement_pieces
unfolding called
prints_called inner =
    prints_made (prints_both (prints_optional written.caller_pieces (prints_behind m.As prints_caller) refl (λ n. refl)) (prints_deed inner)) (λ u c r. refl)

prints_statement : {I : Inside} → Inner I → Prints I statement statement_pieces
unfolding statement
prints_statement inner =
    prints_either prints_table (prints_either prints_stream (prints_either (prints_derive inner) (prints_either prints_function (prints_either (prints_rule inner) (prints_either prints_maintain (prints_either (prints_stands m.Ready st.Ready refl) (prints_either (prints_made (prints_behind m.At prints_number) (λ u n r. refl)) (prints_called inner))))))))

-- what a statement of sound tokens is printed as is sound, and its tokens are a statement with the same tree, within
-- the same bounds
pub printed_again : (b : Bounds) → Falls b → (room : ℕ) (u : List Placed) (s : Statement) (l : ℕ) → SoundTokens u → Counted b (CountedWithin b room) statement u s 0 l → SoundPieces (statement_pieces s) × ((ts : List Placed) → bare ts ≡ pieces_tokens (statement_pieces s) → (j : ℕ) × Counted b (CountedWithin b room) statement ts s 0 j)
printed_again b falls room u s l sound r =
    let inner = inner_within b falls room in
    let p = (prints_statement inner).prints u s 0 l sound r in
    (p.sound, λ ts is. let t = p.again ts is 0 (omega arith) in (t.0, t.2))
