-- An expression that can be written within the limits has tokens that are matched as it within them.
use Rattle.std.proofs.Common.{◌≡◌, ℕ, zero, suc, ◌+◌, ◌-◌, ◌<◌, ◌≤◌, ◌^◌, Bool, true, false, ◌&&◌, nat_le, nat_lt, max, List, [], ◌∷◌, ◌++◌, Option, Some, None, is_some, ℤ, pos, negsuc, neg_ℤ, ◌⊎◌, inl, inr, refl, sym, ◌∙◌, ap, subst, append_assoc, arith}
use Rattle.std.proofs.Math.Nat.{le-max_left, le-max_right}
use Rattle.std.proofs.lemmas.Bool.{lt-ltb, ltb-false, leb-true}
use Rattle.std.proofs.lemmas.List.{append-nil}
use Rattle.strip_value.proofs.Lists.{all_append}
use Rattle.strip_ast.specs.declared.marks.Mark.{Mark as OneMark}
use Rattle.strip_ast.specs.declared.marks.Mark.TheVariants as m
use Rattle.strip_ast.specs.declared.token_types.Token.TheVariants as token
use Rattle.strip_ast.specs.declared.token_types.Placed.{Placed}
use Rattle.strip_ast.specs.declared.expressions.Expr.{Expr, Number, Text, Column}
use Rattle.strip_ast.specs.declared.expressions.Expr.TheVariants as expr
use Rattle.strip_ast.specs.declared.expressions.Op.{Op}
use Rattle.strip_ast.specs.declared.expressions.Op.TheVariants as op
use Rattle.strip_ast.specs.Grammar.{Grammar, terminal, made, both, either, many, or_enclosed, takes}
use Rattle.strip_ast.specs.Grammar as grammar
use Rattle.strip_ast.specs.Syntax.{◌▸◌, optional, joins, a_name, a_number, joined, chain, col_of, dotted, atom, factor, product, sum, comparing, compared, compare, test, conj, expression}
use Rattle.strip_ast.specs.Tokens.{is_grammar_name, placed_at}
use Rattle.strip_ast.specs.Written.{level, op_level, left_level, right_level}
use Rattle.strip_setup.specs.Trees.{Two, Not, Two-is, Not-is}
use Rattle.strip_acts.specs.Writable.{has_words, has_digits, is_line, is_optional_name, is_expression, operators, opened, parentheses}
use Rattle.strip_parse.proofs.Begins.{both_true}
use Rattle.strip_parse.proofs.Counted.{EachCounted}
use Rattle.strip_ast.proofs.SoundTokens.{sound_placed}
use Rattle.strip_written.proofs.Within.{Matched}
use Rattle.strip_written.proofs.Tests.{natural_digits, negative_digits}
use Rattle.strip_written.proofs.BuildParts.{Has, has_as, has_made, has_both, has_left, has_right, has_empty, same_mark_text, has_operator, has_name, has_number, has_text, has_behind}

-- ---- levels

-- the grammar of a level
abbrev pub grammar_at : ℕ → Grammar Expr
grammar_at zero = expression
grammar_at (suc zero) = conj
grammar_at (suc (suc zero)) = test
grammar_at (suc (suc (suc zero))) = compare
grammar_at (suc (suc (suc (suc zero)))) = sum
grammar_at (suc (suc (suc (suc (suc zero))))) = product
grammar_at (suc (suc (suc (suc (suc (suc n)))))) = factor

has_alone : {room k l : ℕ} (o : Grammar Op) (g : Grammar Expr) (e : Expr) → Has room g e k l → Has room (chain o g) e k l
has_alone {l = l} o g e p =
    has_as g (chain o g) e e (λ u t. ((e, []), (u, [], sym (append-nil u), l, t, (refl, refl)), refl)) p

expression_of : {room k l : ℕ} (e : Expr) → Has room conj e k l → Has room expression e k l
unfolding expression
expression_of e p = has_alone (joins m.Or op.Or) conj e p

conj_of : {room k l : ℕ} (e : Expr) → Has room test e k l → Has room conj e k l
unfolding conj
conj_of e p = has_alone (joins m.And op.And) test e p

test_of : {room k l : ℕ} (e : Expr) → Has room compare e k l → Has room test e k l
unfolding test
test_of e p = has_right (made (both (terminal (grammar.operator m.Not)) compare) (λ c. expr.Not c.1)) compare e p

compare_of : {room k l : ℕ} (e : Expr) → Has room sum e k l → Has room compare e k l
unfolding compare
compare_of {l = l} e p =
    has_as sum compare e e (λ u t. ((e, None), (u, [], sym (append-nil u), l, t, inr (refl, refl, refl)), refl)) p

sum_of : {room k l : ℕ} (e : Expr) → Has room product e k l → Has room sum e k l
unfolding sum
sum_of e p = has_alone (either (joins m.Plus op.Add) (joins m.Minus op.Sub)) product e p

product_of : {room k l : ℕ} (e : Expr) → Has room factor e k l → Has room product e k l
unfolding product
product_of e p = has_alone (joins m.Star op.Mul) factor e p

one_down : {room k l : ℕ} (n : ℕ) (e : Expr) → Has room (grammar_at (suc n)) e k l → Has room (grammar_at n) e k l
one_down zero e p = expression_of e p
one_down (suc zero) e p = conj_of e p
one_down (suc (suc zero)) e p = test_of e p
one_down (suc (suc (suc zero))) e p = compare_of e p
one_down (suc (suc (suc (suc zero)))) e p = sum_of e p
one_down (suc (suc (suc (suc (suc zero))))) e p = product_of e p
one_down (suc (suc (suc (suc (suc (suc n)))))) e p = p

all_down : {room k l : ℕ} (n i : ℕ) (e : Expr) → Has room (grammar_at (i + n)) e k l → Has room (grammar_at i) e k l
all_down {room} {k} {l} zero i e p =
    let same : i + 0 ≡ i = omega arith in
    subst (λ x. Has room (grammar_at x) e k l) same p
all_down {room} {k} {l} (suc n) i e p =
    let same : i + suc n ≡ suc (i + n) = omega arith in
    all_down n i e (one_down (i + n) e (subst (λ x. Has room (grammar_at x) e k l) same p))

-- what a level matches is matched by each below it
has_down : {room k l : ℕ} (high low : ℕ) (e : Expr) → low ≤ high → Has room (grammar_at high) e k l → Has room (grammar_at low) e k l
has_down {room} {k} {l} high low e below p =
    let apart : high ≡ low + (high - low) = omega arith in
    all_down (high - low) low e (subst (λ n. Has room (grammar_at n) e k l) apart p)

-- an expression in parentheses
has_enclosed : {room k l : ℕ} (e : Expr) → Has room expression e k l → Has (suc room) factor e k l
unfolding factor
has_enclosed e p =
    let open_ = placed_at 0 (token.Mark m.Open) in
    let close = placed_at 0 (token.Mark m.Close) in
    record {
      tokens = open_ ∷ (p.tokens ++ close ∷ []);
      sound = (tt, all_append sound_placed p.tokens (close ∷ []) p.sound (tt, tt));
      matched = inr (open_, p.tokens ++ close ∷ [], refl, ap is_some (same_mark_text m.Open), (p.tokens, close ∷ [], refl, p.matched, (close, refl, same_mark_text m.Close)));
    }

-- ---- operands

operand_by : {k l : ℕ} (e : Expr) (low room : ℕ) (b : Bool) → low ≤ 6 → nat_lt (level e) low ≡ b → ((r : ℕ) → parentheses e ≤ r → Has r (grammar_at (level e)) e k l) → opened b (parentheses e) ≤ room → Has room (grammar_at low) e k l
operand_by e low room false few is own deep =
    has_down (level e) low e (ltb-false (level e) low is) (own room deep)
operand_by e low zero true few is own deep = absurd (omega (arith, deep))
operand_by e low (suc room) true few is own deep =
    has_down 6 low e few (has_enclosed e (has_down (level e) 0 e (omega arith) (own room (omega (arith, deep)))))

-- an operand of this level, which stands in parentheses where it has to
has_operand : {k l : ℕ} (e : Expr) (low room : ℕ) → low ≤ 6 → ((r : ℕ) → parentheses e ≤ r → Has r (grammar_at (level e)) e k l) → opened (nat_lt (level e) low) (parentheses e) ≤ room → Has room (grammar_at low) e k l
has_operand e low room few own deep = operand_by e low room (nat_lt (level e) low) few refl own deep

-- ---- two expressions joined

has_joins : {room : ℕ} (w : OneMark) (o : Op) (k : ℕ) → nat_lt k 256 ≡ true → Has room (joins w o) o k (k + 1)
has_joins w o k few = has_made (terminal (grammar.operator w)) (λ _. o) tt (has_operator w k few)

joined_last : (e : Expr) (xs : List (Op × Expr)) (o : Op) (b : Expr) → joined e (xs ++ (o, b) ∷ []) ≡ expr.Two o (joined e xs) b
joined_last e [] o b = refl
joined_last e (x ∷ xs) o b = joined_last (expr.Two x.0 e x.1) xs o b

each_last : {A : Type 0} (R : List Placed → A → ℕ → ℕ → Type 0) (u v : List Placed) (as_ : List A) (a : A) (k n l : ℕ) → EachCounted R u as_ k n → R v a n l → EachCounted R (u ++ v) (as_ ++ a ∷ []) k l
each_last R u v [] a k n l (is, same) r =
    (v, [], ap (λ x. x ++ v) is ∙ sym (append-nil v), l, subst (λ i. R v a i l) same r, (refl, refl))
each_last R u v (b ∷ as_) a k n l (x, y, split, i, s, more) r =
    (x, y ++ v, ap (λ z. z ++ v) split ∙ append_assoc x y v, i, s, each_last R y v as_ a i n l more r)

chained : (room : ℕ) (o : Grammar Op) (g : Grammar Expr) (x : Op) (a b : Expr) (u : List Placed) (k l : ℕ) → Matched room (both (chain o g) (both o g)) u (a, (x, b)) k l → Matched room (chain o g) u (expr.Two x a b) k l
chained room o g x a b u k l (v, w, split, n, ((e, xs), (v1, v2, split1, n1, r, each), is), s) =
    ((e, xs ++ (x, b) ∷ []), (v1, v2 ++ w, split ∙ ap (λ z. z ++ w) split1 ∙ append_assoc v1 v2 w, n1, r, each_last (Matched room (both o g)) v2 w xs (x, b) n1 n l each s), ap (λ y. expr.Two x y b) is ∙ sym (joined_last e xs x b))

has_chained : {room k i j l : ℕ} (o : Grammar Op) (g : Grammar Expr) (x : Op) (a b : Expr) → Has room (chain o g) a k i → Has room o x i j → Has room g b j l → Has room (chain o g) (expr.Two x a b) k l
has_chained {room} {k} {i} {j} {l} o g x a b p q r =
    has_as (both (chain o g) (both o g)) (chain o g) (a, (x, b)) (expr.Two x a b) (λ u t. chained room o g x a b u k l t) (has_both (chain o g) (both o g) a (x, b) p (has_both o g x b q r))

joined_or : {room k i l : ℕ} (a b : Expr) → nat_lt i 256 ≡ true → Has room expression a k i → Has room conj b (i + 1) l → Has room expression (expr.Two op.Or a b) k l
unfolding expression
joined_or {i = i} a b few p q = has_chained (joins m.Or op.Or) conj op.Or a b p (has_joins m.Or op.Or i few) q

joined_and : {room k i l : ℕ} (a b : Expr) → nat_lt i 256 ≡ true → Has room conj a k i → Has room test b (i + 1) l → Has room conj (expr.Two op.And a b) k l
unfolding conj
joined_and {i = i} a b few p q = has_chained (joins m.And op.And) test op.And a b p (has_joins m.And op.And i few) q

joined_star : {room k i l : ℕ} (a b : Expr) → nat_lt i 256 ≡ true → Has room product a k i → Has room factor b (i + 1) l → Has room product (expr.Two op.Mul a b) k l
unfolding product
joined_star {i = i} a b few p q = has_chained (joins m.Star op.Mul) factor op.Mul a b p (has_joins m.Star op.Mul i few) q

-- how sums are joined
abbrev summing : Grammar Op
summing = either (joins m.Plus op.Add) (joins m.Minus op.Sub)

joined_plus : {room k i l : ℕ} (a b : Expr) → nat_lt i 256 ≡ true → Has room sum a k i → Has room product b (i + 1) l → Has room sum (expr.Two op.Add a b) k l
unfolding sum
joined_plus {i = i} a b few p q = has_chained summing product op.Add a b p (has_left (joins m.Plus op.Add) (joins m.Minus op.Sub) op.Add (has_joins m.Plus op.Add i few)) q

joined_minus : {room k i l : ℕ} (a b : Expr) → nat_lt i 256 ≡ true → Has room sum a k i → Has room product b (i + 1) l → Has room sum (expr.Two op.Sub a b) k l
unfolding sum
joined_minus {i = i} a b few p q = has_chained summing product op.Sub a b p (has_right (joins m.Plus op.Add) (joins m.Minus op.Sub) op.Sub (has_joins m.Minus op.Sub i few)) q

joined_compared : {room k i l : ℕ} (w : OneMark) (o : Op) (a b : Expr) → ((u : List Placed) → Matched room (joins w o) u o i (i + 1) → Matched room comparing u o i (i + 1)) → nat_lt i 256 ≡ true → Has room sum a k i → Has room sum b (i + 1) l → Has room compare (expr.Two o a b) k l
unfolding compare
joined_compared {i = i} w o a b f few p q =
    let here = has_as (joins w o) comparing o o f (has_joins w o i few) in
    let right = has_left (made (both comparing sum) Some) (grammar.empty None) (Some (o, b)) (has_made (both comparing sum) Some (o, b) (has_both comparing sum o b here q)) in
    has_made (both sum (optional (both comparing sum))) compared (a, Some (o, b)) (has_both sum (optional (both comparing sum)) a (Some (o, b)) p right)

joined_not : {room k l : ℕ} (a : Expr) → nat_lt k 256 ≡ true → Has room compare a (k + 1) l → Has room test (expr.Not a) k l
unfolding test
joined_not {k = k} a few p =
    has_left (made (both (terminal (grammar.operator m.Not)) compare) (λ c. expr.Not c.1)) compare (expr.Not a) (has_made (both (terminal (grammar.operator m.Not)) compare) (λ c. expr.Not c.1) (tt, a) (has_both (terminal (grammar.operator m.Not)) compare tt a (has_operator m.Not k few) p))

-- two operands joined are an expression of the operator's level
has_two : {room k i l : ℕ} (o : Op) (a b : Expr) → nat_lt i 256 ≡ true → Has room (grammar_at (left_level o)) a k i → Has room (grammar_at (right_level o)) b (i + 1) l → Has room (grammar_at (op_level o)) (expr.Two o a b) k l
unfolding comparing
has_two op.Add a b few p q = joined_plus a b few p q
has_two op.Sub a b few p q = joined_minus a b few p q
has_two op.Mul a b few p q = joined_star a b few p q
has_two op.And a b few p q = joined_and a b few p q
has_two op.Or a b few p q = joined_or a b few p q
has_two op.Eq a b few p q = joined_compared m.Equal op.Eq a b (λ u t. inl t) few p q
has_two op.Ne a b few p q = joined_compared m.Unequal op.Ne a b (λ u t. inr (inl t)) few p q
has_two op.Lt a b few p q = joined_compared m.Below op.Lt a b (λ u t. inr (inr (inl t))) few p q
has_two op.Le a b few p q = joined_compared m.AtMost op.Le a b (λ u t. inr (inr (inr (inl t)))) few p q
has_two op.Gt a b few p q = joined_compared m.Above op.Gt a b (λ u t. inr (inr (inr (inr (inl t))))) few p q
has_two op.Ge a b few p q = joined_compared m.AtLeast op.Ge a b (λ u t. inr (inr (inr (inr (inr t))))) few p q

left_few : (o : Op) → left_level o ≤ 6
left_few op.Add = omega arith
left_few op.Sub = omega arith
left_few op.Mul = omega arith
left_few op.And = omega arith
left_few op.Or = omega arith
left_few op.Eq = omega arith
left_few op.Ne = omega arith
left_few op.Lt = omega arith
left_few op.Le = omega arith
left_few op.Gt = omega arith
left_few op.Ge = omega arith

right_few : (o : Op) → right_level o ≤ 6
right_few op.Add = omega arith
right_few op.Sub = omega arith
right_few op.Mul = omega arith
right_few op.And = omega arith
right_few op.Or = omega arith
right_few op.Eq = omega arith
right_few op.Ne = omega arith
right_few op.Lt = omega arith
right_few op.Le = omega arith
right_few op.Gt = omega arith
right_few op.Ge = omega arith

-- ---- numbers, texts and columns

has_atom : {room k l : ℕ} (e : Expr) → Has room atom e k l → Has room factor e k l
unfolding factor
has_atom e p = has_as atom (or_enclosed atom) e e (λ u t. inl t) p

natural_atom : {room : ℕ} (n k : ℕ) → n < 10 ^ 38 → Has room atom (Number (pos n)) k k
unfolding atom
natural_atom n k below =
    has_as a_number atom n (Number (pos n)) (λ u t. inr (inl (n, t, refl))) (has_number n k below)

negative_atom : {room : ℕ} (n k : ℕ) → suc n < 10 ^ 38 → nat_lt k 256 ≡ true → Has room atom (Number (negsuc n)) k (k + 1)
unfolding atom
negative_atom n k below few =
    has_as (both (joins m.Minus op.Sub) a_number) atom (op.Sub, suc n) (Number (negsuc n)) (λ u t. inl ((op.Sub, suc n), t, refl)) (has_both (joins m.Minus op.Sub) a_number op.Sub (suc n) (has_joins m.Minus op.Sub k few) (has_number (suc n) (k + 1) below))

text_atom : {room : ℕ} (t : List ℕ) (k : ℕ) → is_line t ≡ true → Has room atom (Text t) k k
unfolding atom
text_atom t k line =
    has_as (terminal grammar.text) atom t (Text t) (λ u r. inr (inr (inl (t, r, refl)))) (has_text t k line)

pub has_plain_column : {room : ℕ} (a : List ℕ) (k : ℕ) → is_grammar_name a ≡ true → Has room dotted (a, None) k k
unfolding dotted
has_plain_column a k is =
    has_both a_name (optional (m.Dot ▸ a_name)) a None (has_name a k is) (has_right (made (m.Dot ▸ a_name) Some) (grammar.empty None) None (has_empty None k))

pub has_dotted_column : {room : ℕ} (a b : List ℕ) (k : ℕ) → is_grammar_name a ≡ true → is_grammar_name b ≡ true → Has room dotted (a, Some b) k k
unfolding dotted
has_dotted_column a b k is is' =
    has_both a_name (optional (m.Dot ▸ a_name)) a (Some b) (has_name a k is) (has_left (made (m.Dot ▸ a_name) Some) (grammar.empty None) (Some b) (has_made (m.Dot ▸ a_name) Some b (has_behind m.Dot a_name b (has_name b k is'))))

column_atom : {room : ℕ} (of : Option (List ℕ)) (a : List ℕ) (k : ℕ) → is_optional_name of ≡ true → is_grammar_name a ≡ true → Has room atom (Column of a) k k
unfolding atom
column_atom None a k first second =
    has_as dotted atom (a, None) (Column None a) (λ u t. inr (inr (inr ((a, None), t, refl)))) (has_plain_column a k second)
column_atom (Some b) a k first second =
    has_as dotted atom (b, Some a) (Column (Some b) a) (λ u t. inr (inr (inr ((b, Some a), t, refl)))) (has_dotted_column b a k first second)

-- ---- the trees of expressions

-- the expression has tokens that its own level matches
abbrev Own : Expr → Type 0
Own e = (room k : ℕ) → has_words e ≡ true → parentheses e ≤ room → k + operators e ≤ 256 → Has room (grammar_at (level e)) e k (k + operators e)

no_more : {room : ℕ} (e : Expr) (k : ℕ) → operators e ≡ 0 → Has room atom e k k → Has room factor e k (k + operators e)
no_more {room} e k none p =
    let same : k ≡ k + operators e = omega (arith, none) in
    subst (λ n. Has room factor e k n) same (has_atom e p)

number_own : (n : ℤ) → Own (Number n)
number_own (pos n) room k words deep few =
    no_more (Number (pos n)) k refl (natural_atom n k (natural_digits n words))
number_own (negsuc n) room k words deep few =
    has_atom (Number (negsuc n)) (negative_atom n k (negative_digits n words) (lt-ltb k 256 (omega (arith, few))))

two_own : (o : Op) (a b : Expr) → Own a → Own b → Own (Two o a b)
two_own o a b p q room k words deep few =
    let parts = both_true (has_words a) (has_words b) words in
    let i = k + operators a in
    let left_deep = opened (nat_lt (level a) (left_level o)) (parentheses a) in
    let right_deep = opened (nat_lt (level b) (right_level o)) (parentheses b) in
    let left_least : left_deep ≤ max left_deep right_deep = le-max_left left_deep right_deep in
    let right_least : right_deep ≤ max left_deep right_deep = le-max_right left_deep right_deep in
    let left = has_operand a (left_level o) room (left_few o) (λ r d. p r k parts.0 d (omega (arith, few))) (omega (arith, deep, left_least)) in
    let right = has_operand b (right_level o) room (right_few o) (λ r d. q r (i + 1) parts.1 d (omega (arith, few))) (omega (arith, deep, right_least)) in
    let all : Has room (grammar_at (op_level o)) (expr.Two o a b) k ((i + 1) + operators b) = has_two o a b (lt-ltb i 256 (omega (arith, few))) left right in
    let same : (k + operators a + 1) + operators b ≡ k + (operators a + (1 + operators b)) = omega arith in
    subst (λ n. Has room (grammar_at (op_level o)) (Two o a b) k n) same (subst (λ e. Has room (grammar_at (op_level o)) e k ((i + 1) + operators b)) (Two-is o a b) all)

not_own : (a : Expr) → Own a → Own (Not a)
not_own a p room k words deep few =
    let inside = has_operand a 3 room (omega arith) (λ r d. p r (k + 1) words d (omega (arith, few))) deep in
    let all : Has room test (expr.Not a) k ((k + 1) + operators a) = joined_not a (lt-ltb k 256 (omega (arith, few))) inside in
    let same : (k + 1) + operators a ≡ k + (1 + operators a) = omega arith in
    subst (λ n. Has room test (Not a) k n) same (subst (λ e. Has room test e k ((k + 1) + operators a)) (Not-is a) all)

has_own : (e : Expr) → Own e
has_own (Number n) = number_own n
has_own (Text t) = λ room k words deep few. no_more (Text t) k refl (text_atom t k words)
has_own (Column of a) = λ room k words deep few.
    let parts = both_true (is_optional_name of) (is_grammar_name a) words in
    no_more (Column of a) k refl (column_atom of a k parts.0 parts.1)
has_own (Two o a b) = two_own o a b (has_own a) (has_own b)
has_own (Not a) = not_own a (has_own a)

-- an expression that is no part of another
pub has_expression : (low : ℕ) (e : Expr) → low ≤ 6 → is_expression low e ≡ true → Has 64 (grammar_at low) e 0 (0 + operators e)
has_expression low e few is =
    let parts = both_true (has_words e) (nat_le (operators e) 256 && nat_le (opened (nat_lt (level e) low) (parentheses e)) 64) is in
    let sizes = both_true (nat_le (operators e) 256) (nat_le (opened (nat_lt (level e) low) (parentheses e)) 64) parts.1 in
    let count : operators e ≤ 256 = leb-true (operators e) 256 sizes.0 in
    has_operand e low 64 few (λ r d. has_own e r 0 parts.0 d (omega (arith, count))) (leb-true (opened (nat_lt (level e) low) (parentheses e)) 64 sizes.1)
