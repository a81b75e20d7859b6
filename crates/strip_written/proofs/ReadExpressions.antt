-- An expression that is read within the limits can be written within them.
use Rattle.std.proofs.Common.{◌≡◌, ℕ, zero, suc, ◌+◌, ◌<◌, ◌≤◌, ◌^◌, Bool, true, false, ◌&&◌, nat_le, nat_lt, max, List, [], ◌∷◌, ◌++◌, Option, Some, None, ℤ, pos, negsuc, neg_ℤ, ◌⊎◌, inl, inr, refl, sym, ◌∙◌, ap, subst, arith}
use Rattle.std.proofs.Math.Nat.{max-le}
use Rattle.std.proofs.lemmas.Bool.{ltb-true, le-leb}
use Rattle.strip_value.proofs.Lists.{all_left, all_right}
use Rattle.strip_ast.specs.declared.marks.Mark.{Mark as OneMark}
use Rattle.strip_ast.specs.declared.marks.Mark.TheVariants as m
use Rattle.strip_ast.specs.declared.token_types.Token.{Token}
use Rattle.strip_ast.specs.declared.token_types.Token.TheVariants as token
use Rattle.strip_ast.specs.declared.token_types.Placed.{Placed}
use Rattle.strip_ast.specs.declared.expressions.Expr.{Expr}
use Rattle.strip_ast.specs.declared.expressions.Expr.TheVariants as expr
use Rattle.strip_ast.specs.declared.expressions.Op.{Op}
use Rattle.strip_ast.specs.declared.expressions.Op.TheVariants as op
use Rattle.strip_ast.specs.Grammar.{Terminal, Grammar, terminal, made, both, either, many, takes}
use Rattle.strip_ast.specs.Grammar as grammar
use Rattle.strip_ast.specs.Syntax.{optional, joins, a_name, a_number, joined, chain, col_of, dotted, atom, factor, product, sum, comparing, compared, compare, test, conj, expression, whole}
use Rattle.strip_ast.specs.Tokens.{is_grammar_name}
use Rattle.strip_ast.specs.Written.{level, op_level, left_level, right_level}
use Rattle.strip_setup.specs.Trees.{Two, Not, Two-is, Not-is}
use Rattle.strip_acts.specs.Writable.{has_words, has_digits, is_line, is_optional_name, is_expression, operators, opened, parentheses}
use Rattle.strip_parse.proofs.Counted.{limits, EachCounted, Counted, CountedWithin}
use Rattle.strip_ast.proofs.SoundTokens.{SoundToken, sound_placed, SoundTokens}
use Rattle.strip_written.proofs.Within.{Matched}
use Rattle.strip_written.proofs.Tests.{both_yes, opened_lowest, opened_own, opened_least, opened_most, opened_falls, text_line, digits_natural, digits_negative}

pub sound_left : (u v w : List Placed) → u ≡ v ++ w → SoundTokens u → SoundTokens v
sound_left u v w split s = all_left sound_placed v w (subst (λ x. SoundTokens x) split s)

pub sound_right : (u v w : List Placed) → u ≡ v ++ w → SoundTokens u → SoundTokens w
sound_right u v w split s = all_right sound_placed v w (subst (λ x. SoundTokens x) split s)

-- ---- single tokens

name_kept : (x : Token) (a : List ℕ) → takes grammar.name x ≡ Some a → SoundToken x → is_grammar_name a ≡ true
name_kept (token.Mark b) a taken s = cc
name_kept (token.Name b) a taken s =
    let same : b ≡ a = cc in
    subst (λ y. is_grammar_name y ≡ true) same s
name_kept (token.Number n) a taken s = cc
name_kept (token.Text t) a taken s = cc

number_kept : (x : Token) (n : ℕ) → takes grammar.number x ≡ Some n → SoundToken x → n < 10 ^ 38
number_kept (token.Mark b) n taken s = cc
number_kept (token.Name b) n taken s = cc
number_kept (token.Number k) n taken s =
    let same : k ≡ n = cc in
    subst (λ y. y < 10 ^ 38) same s
number_kept (token.Text t) n taken s = cc

text_kept : (x : Token) (t : List ℕ) → takes grammar.text x ≡ Some t → SoundToken x → is_line t ≡ true
text_kept (token.Mark b) t taken s = cc
text_kept (token.Name b) t taken s = cc
text_kept (token.Number n) t taken s = cc
text_kept (token.Text b) t taken s =
    let same : b ≡ t = cc in
    subst (λ y. is_line y ≡ true) same (text_line b s)

pub name_read : (room : ℕ) (u : List Placed) (a : List ℕ) (k l : ℕ) → SoundTokens u → Matched room a_name u a k l → is_grammar_name a ≡ true
name_read room u a k l s ((p, split, taken), same) =
    name_kept p.token a taken (subst (λ x. SoundTokens x) split s).0

pub number_read : (room : ℕ) (u : List Placed) (n k l : ℕ) → SoundTokens u → Matched room a_number u n k l → n < 10 ^ 38
number_read room u n k l s ((p, split, taken), same) =
    number_kept p.token n taken (subst (λ x. SoundTokens x) split s).0

pub text_read : (room : ℕ) (u : List Placed) (t : List ℕ) (k l : ℕ) → SoundTokens u → Matched room (terminal grammar.text) u t k l → is_line t ≡ true
text_read room u t k l s ((p, split, taken), same) =
    text_kept p.token t taken (subst (λ x. SoundTokens x) split s).0

-- ---- what is read of an expression

-- an operand for which this level needs no parentheses or may open them: its words can be written, it has no more
-- operators than were counted, and no more parentheses than may be open
pub record Sits (room low : ℕ) (e : Expr) (k l : ℕ) : Type 0 where
  pub words : has_words e ≡ true
  pub counts : k + operators e ≤ l
  pub few : k ≤ 256 → l ≤ 256
  pub deep : opened (nat_lt (level e) low) (parentheses e) ≤ room

-- one operator more
abbrev Joins : ℕ → ℕ → Type 0
Joins k l = (nat_lt k 256 ≡ true) × (l ≡ k + 1)

few_joined : (i j : ℕ) → Joins i j → i ≤ 256 → j ≤ 256
few_joined i j (below, is) few =
    let strict : i < 256 = ltb-true i 256 below in
    omega (arith, strict, is)

sits_down : {room k l : ℕ} (high low : ℕ) (e : Expr) → low ≤ high → Sits room high e k l → Sits room low e k l
sits_down high low e below p =
    let fewer = opened_falls (level e) low high (parentheses e) below in
    record { words = p.words; counts = p.counts; few = p.few; deep = omega (arith, fewer, p.deep) }

-- an expression in parentheses
sits_enclosed : {room k l : ℕ} (e : Expr) → Sits room 0 e k l → Sits (suc room) 6 e k l
sits_enclosed {room} e p =
    let inside : parentheses e ≤ room = subst (λ n. n ≤ room) (opened_lowest (level e) (parentheses e)) p.deep in
    let one = opened_most (nat_lt (level e) 6) (parentheses e) in
    record { words = p.words; counts = p.counts; few = p.few; deep = omega (arith, inside, one) }

two_sits : {room k i j l : ℕ} (o : Op) (a b : Expr) → Joins i j → Sits room (left_level o) a k i → Sits room (right_level o) b j l → Sits room (op_level o) (Two o a b) k l
two_sits {room} {k} {i} {j} {l} o a b one p q =
    record {
      words = both_yes (has_words a) (has_words b) p.words q.words;
      counts = omega (arith, p.counts, q.counts, one.1);
      few = λ few. q.few (few_joined i j one (p.few few));
      deep = subst (λ n. n ≤ room) (sym (opened_own (op_level o) (parentheses (Two o a b)))) (max-le p.deep q.deep);
    }

two_sit : {room k i j l : ℕ} (o : Op) (a b : Expr) → Joins i j → Sits room (left_level o) a k i → Sits room (right_level o) b j l → Sits room (op_level o) (expr.Two o a b) k l
two_sit {room} {k} {i} {j} {l} o a b one p q =
    subst (λ e. Sits room (op_level o) e k l) (sym (Two-is o a b)) (two_sits o a b one p q)

not_sits : {room k i l : ℕ} (a : Expr) → Joins k i → Sits room 3 a i l → Sits room 2 (Not a) k l
not_sits {room} {k} {i} {l} a one p =
    record {
      words = p.words;
      counts = omega (arith, p.counts, one.1);
      few = λ few. p.few (few_joined k i one few);
      deep = subst (λ n. n ≤ room) (sym (opened_own 2 (parentheses (Not a)))) p.deep;
    }

not_sit : {room k i l : ℕ} (a : Expr) → Joins k i → Sits room 3 a i l → Sits room 2 (expr.Not a) k l
not_sit {room} {k} {i} {l} a one p = subst (λ e. Sits room 2 e k l) (sym (Not-is a)) (not_sits a one p)

-- ---- level by level

-- each tree that sound tokens are matched as sits
abbrev pub Seated : ℕ → ℕ → Grammar Expr → Type 0
Seated room low g = (u : List Placed) (e : Expr) (k l : ℕ) → SoundTokens u → Matched room g u e k l → Sits room low e k l

-- two expressions joined by one of these operators sit at its level
abbrev TwoSeated : ℕ → ℕ → ℕ → ℕ → Grammar Op → Type 0
TwoSeated room low left right o =
    (v : List Placed) (x : Op) (a b : Expr) (k i j l : ℕ) → Matched room o v x i j → Sits room left a k i → Sits room right b j l → Sits room low (expr.Two x a b) k l

joined_seated : (room low : ℕ) (o : Grammar Op) (g : Grammar Expr) → TwoSeated room low low (suc low) o → Seated room (suc low) g → (u : List Placed) (a : Expr) (xs : List (Op × Expr)) (k n l : ℕ) → SoundTokens u → Sits room low a k n → EachCounted (Matched room (both o g)) u xs n l → Sits room low (joined a xs) k l
joined_seated room low o g two h u a [] k n l s p (nil, same) = subst (λ i. Sits room low a k i) (sym same) p
joined_seated room low o g two h u a (x ∷ xs) k n l s p (v, w, split, n1, (y, z, split', n2, r, t), more) =
    let here = sound_left u v w split s in
    joined_seated room low o g two h w (expr.Two x.0 a x.1) xs k n1 l (sound_right u v w split s) (two y x.0 a x.1 k n n2 n1 r p (h z x.1 n2 n1 (sound_right v y z split' here) t)) more

chain_seated : (room low : ℕ) (o : Grammar Op) (g : Grammar Expr) → TwoSeated room low low (suc low) o → Seated room (suc low) g → Seated room low (chain o g)
chain_seated room low o g two h u e k l s (c, (v, w, split, n, r, each), is) =
    subst (λ x. Sits room low x k l) (sym is) (joined_seated room low o g two h w c.0 c.1 k n l (sound_right u v w split s) (sits_down (suc low) low c.0 (omega arith) (h v c.0 k n (sound_left u v w split s) r)) each)

-- where the operator is this one
two_of : (room low : ℕ) (w : OneMark) (o x : Op) (v : List Placed) (a b : Expr) (k i j l : ℕ) → (Joins i j → Sits room low (expr.Two o a b) k l) → Matched room (joins w o) v x i j → Sits room low (expr.Two x a b) k l
two_of room low w o x v a b k i j l f (c, (one, step'), is) =
    subst (λ y. Sits room low (expr.Two y a b) k l) (sym is) (f step')

product_seated : (room : ℕ) → Seated room 6 factor → Seated room 5 product
unfolding product
product_seated room h =
    chain_seated room 5 (joins m.Star op.Mul) factor (λ v x a b k i j l r p q. two_of room 5 m.Star op.Mul x v a b k i j l (λ one. two_sit op.Mul a b one p q) r) h

two_summed : (room : ℕ) → TwoSeated room 4 4 5 (either (joins m.Plus op.Add) (joins m.Minus op.Sub))
two_summed room v x a b k i j l (inl r) p q =
    two_of room 4 m.Plus op.Add x v a b k i j l (λ one. two_sit op.Add a b one p q) r
two_summed room v x a b k i j l (inr r) p q =
    two_of room 4 m.Minus op.Sub x v a b k i j l (λ one. two_sit op.Sub a b one p q) r

sum_seated : (room : ℕ) → Seated room 5 product → Seated room 4 sum
unfolding sum
sum_seated room h =
    chain_seated room 4 (either (joins m.Plus op.Add) (joins m.Minus op.Sub)) product (two_summed room) h

two_compared : (room : ℕ) → TwoSeated room 3 4 4 comparing
unfolding comparing
two_compared room v x a b k i j l (inl r) p q =
    two_of room 3 m.Equal op.Eq x v a b k i j l (λ one. two_sit op.Eq a b one p q) r
two_compared room v x a b k i j l (inr (inl r)) p q =
    two_of room 3 m.Unequal op.Ne x v a b k i j l (λ one. two_sit op.Ne a b one p q) r
two_compared room v x a b k i j l (inr (inr (inl r))) p q =
    two_of room 3 m.Below op.Lt x v a b k i j l (λ one. two_sit op.Lt a b one p q) r
two_compared room v x a b k i j l (inr (inr (inr (inl r)))) p q =
    two_of room 3 m.AtMost op.Le x v a b k i j l (λ one. two_sit op.Le a b one p q) r
two_compared room v x a b k i j l (inr (inr (inr (inr (inl r))))) p q =
    two_of room 3 m.Above op.Gt x v a b k i j l (λ one. two_sit op.Gt a b one p q) r
two_compared room v x a b k i j l (inr (inr (inr (inr (inr r))))) p q =
    two_of room 3 m.AtLeast op.Ge x v a b k i j l (λ one. two_sit op.Ge a b one p q) r

compared_seated : (room : ℕ) → Seated room 4 sum → (u : List Placed) (a : Expr) (o : Option (Op × Expr)) (k n l : ℕ) → SoundTokens u → Sits room 4 a k n → Matched room (optional (both comparing sum)) u o n l → Sits room 3 (compared (a, o)) k l
compared_seated room h u a o k n l s p (inl (c, (v, w, split, n', r, t), is)) =
    subst (λ y. Sits room 3 (compared (a, y)) k l) (sym is) (two_compared room v c.0 a c.1 k n n' l r p (h w c.1 n' l (sound_right u v w split s) t))
compared_seated room h u a o k n l s p (inr (none, is, same)) =
    subst (λ y. Sits room 3 (compared (a, y)) k l) (sym is) (subst (λ i. Sits room 3 a k i) (sym same) (sits_down 4 3 a (omega arith) p))

compare_seated : (room : ℕ) → Seated room 4 sum → Seated room 3 compare
unfolding compare
compare_seated room h u e k l s (c, (v, w, split, n, r, t), is) =
    subst (λ x. Sits room 3 x k l) (sym is) (compared_seated room h w c.0 c.1 k n l (sound_right u v w split s) (h v c.0 k n (sound_left u v w split s) r) t)

test_seated : (room : ℕ) → Seated room 3 compare → Seated room 2 test
unfolding test
test_seated room h u e k l s (inl (c, (v, w, split, n, (one, step'), t), is)) =
    subst (λ x. Sits room 2 x k l) (sym is) (not_sit c.1 step' (h w c.1 n l (sound_right u v w split s) t))
test_seated room h u e k l s (inr r) = sits_down 3 2 e (omega arith) (h u e k l s r)

conj_seated : (room : ℕ) → Seated room 2 test → Seated room 1 conj
unfolding conj
conj_seated room h =
    chain_seated room 1 (joins m.And op.And) test (λ v x a b k i j l r p q. two_of room 1 m.And op.And x v a b k i j l (λ one. two_sit op.And a b one p q) r) h

expression_seated : (room : ℕ) → Seated room 1 conj → Seated room 0 expression
unfolding expression
expression_seated room h =
    chain_seated room 0 (joins m.Or op.Or) conj (λ v x a b k i j l r p q. two_of room 0 m.Or op.Or x v a b k i j l (λ one. two_sit op.Or a b one p q) r) h

-- ---- numbers, texts and columns

-- a level of its own, and nothing in it
alone : {room k l : ℕ} (e : Expr) → has_words e ≡ true → k + operators e ≤ l → (k ≤ 256 → l ≤ 256) → level e ≡ 6 → parentheses e ≡ 0 → Sits room 6 e k l
alone {room} {k} {l} e words counts few high none =
    let shut : opened (nat_lt (level e) 6) (parentheses e) ≡ 0 = ap (λ n. opened (nat_lt n 6) (parentheses e)) high ∙ none in
    record { words = words; counts = counts; few = few; deep = omega (arith, shut) }

number_alone : (room n k l : ℕ) → n < 10 ^ 38 → l ≡ k → Sits room 6 (expr.Number (pos n)) k l
number_alone room n k l below same =
    alone (expr.Number (pos n)) (digits_natural n below) (omega (arith, same)) (λ few. omega (arith, same, few)) refl refl

negative_alone : (room n k i l : ℕ) → n < 10 ^ 38 → Joins k i → l ≡ i → Sits room 6 (expr.Number (neg_ℤ (pos n))) k l
negative_alone room zero k i l below one same =
    alone (expr.Number (pos 0)) (digits_natural 0 below) (omega (arith, same, one.1)) (λ few. subst (λ x. x ≤ 256) (sym same) (few_joined k i one few)) refl refl
negative_alone room (suc n) k i l below one same =
    alone (expr.Number (negsuc n)) (digits_negative (suc n) below) (omega (arith, same, one.1)) (λ few. subst (λ x. x ≤ 256) (sym same) (few_joined k i one few)) refl refl

text_alone : (room : ℕ) (t : List ℕ) (k l : ℕ) → is_line t ≡ true → l ≡ k → Sits room 6 (expr.Text t) k l
text_alone room t k l line same =
    alone (expr.Text t) line (omega (arith, same)) (λ few. omega (arith, same, few)) refl refl

-- the names of a column
pub dotted_read : (room : ℕ) (u : List Placed) (c : List ℕ × Option (List ℕ)) (k l : ℕ) → SoundTokens u → Matched room dotted u c k l → (is_grammar_name c.0 ≡ true) × (is_optional_name c.1 ≡ true) × (l ≡ k)
unfolding dotted
dotted_read room u c k l s (v, w, split, n, (one, same), inl (a, (d, (x, y, split', n', (two, same'), (three, same'')), is'), is)) =
    let right = sound_right u v w split s in (
      name_read room v c.0 k n (sound_left u v w split s) (one, same),
      ap is_optional_name (is ∙ ap Some is') ∙ name_read room y d.1 n' l (sound_right w x y split' right) (three, same''),
      same'' ∙ same' ∙ same,
    )
dotted_read room u c k l s (v, w, split, n, (one, same), inr (nil, is, same')) =
    (name_read room v c.0 k n (sound_left u v w split s) (one, same), ap is_optional_name is, same' ∙ same)

column_alone : (room : ℕ) (c : List ℕ × Option (List ℕ)) (k l : ℕ) → is_grammar_name c.0 ≡ true → is_optional_name c.1 ≡ true → l ≡ k → Sits room 6 (col_of expr.Column c) k l
column_alone room (a, None) k l first second same =
    alone (expr.Column None a) first (omega (arith, same)) (λ few. omega (arith, same, few)) refl refl
column_alone room (a, Some b) k l first second same =
    alone (expr.Column (Some a) b) (both_yes (is_grammar_name a) (is_grammar_name b) first second) (omega (arith, same)) (λ few. omega (arith, same, few)) refl refl

atom_seated : (room : ℕ) → Seated room 6 atom
unfolding atom
atom_seated room u e k l s (inl (c, (v, w, split, n, (d, (one, step'), is'), (two, same)), is)) =
    subst (λ x. Sits room 6 x k l) (sym is) (negative_alone room c.1 k n l (number_read room w c.1 n l (sound_right u v w split s) (two, same)) step' same)
atom_seated room u e k l s (inr (inl (n, (one, same), is))) =
    subst (λ x. Sits room 6 x k l) (sym is) (number_alone room n k l (number_read room u n k l s (one, same)) same)
atom_seated room u e k l s (inr (inr (inl (t, (one, same), is)))) =
    subst (λ x. Sits room 6 x k l) (sym is) (text_alone room t k l (text_read room u t k l s (one, same)) same)
atom_seated room u e k l s (inr (inr (inr (c, r, is)))) =
    let (first, second, same) = dotted_read room u c k l s r in
    subst (λ x. Sits room 6 x k l) (sym is) (column_alone room c k l first second same)

-- ---- all levels

-- what may stand in parentheses sits where they were opened
pub record Inner (room : ℕ) : Type 0 where
  pub seated : (u : List Placed) (e : Expr) (k l : ℕ) → SoundTokens u → CountedWithin limits room u e k l → Sits room 6 e k l

factor_seated : (room : ℕ) → Inner room → Seated room 6 factor
unfolding factor
factor_seated room inner u e k l s (inl r) = atom_seated room u e k l s r
factor_seated room inner u e k l s (inr (p, v, split, some, (x, y, split', i, c))) =
    inner.seated x e k l (sound_left v x y split' (sound_right u (p ∷ []) v split s)) i

pub sums_seated : (room : ℕ) → Inner room → Seated room 4 sum
sums_seated room inner = sum_seated room (product_seated room (factor_seated room inner))

pub all_seated : (room : ℕ) → Inner room → Seated room 0 expression
all_seated room inner =
    expression_seated room (conj_seated room (test_seated room (compare_seated room (sums_seated room inner))))

pub inner_within : (room : ℕ) → Inner room
inner_within zero = record { seated = λ u e k l s w. absurd w }
inner_within (suc room) =
    record { seated = λ u e k l s w. sits_enclosed e (all_seated room (inner_within room) u e k l s w) }

-- what sits from no operator on can be written within the limits
pub seated_written : (low l : ℕ) (e : Expr) → Sits 64 low e 0 l → is_expression low e ≡ true
seated_written low l e p =
    let end : l ≤ 256 = p.few (omega arith) in
    let count : operators e ≤ 256 = omega (arith, p.counts, end) in
    both_yes (has_words e) (nat_le (operators e) 256 && nat_le (opened (nat_lt (level e) low) (parentheses e)) 64) p.words (both_yes (nat_le (operators e) 256) (nat_le (opened (nat_lt (level e) low) (parentheses e)) 64) (le-leb (operators e) 256 count) (le-leb (opened (nat_lt (level e) low) (parentheses e)) 64 p.deep))
