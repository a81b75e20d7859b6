-- What a checked expression stands for is written as an expression of the same shape, so that it has a text too.
use Rattle.std.proofs.Common.{◌≡◌, ℕ, ◌+◌, Bool, true, false, ◌&&◌, max, List, nat_le, nat_lt, Option, Some, None, refl, ap, ap₂, ◌∙◌, true≢false}
use Rattle.std.specs.List.{AllByRecursion}
use Rattle.strip_value.specs.declared.expressions.Test.{Test}
use Rattle.strip_value.specs.declared.expressions.Test.TheVariants as test
use Rattle.strip_value.specs.Trees as tree
use Rattle.strip_ast.specs.declared.expressions.Expr.{Expr, Number, Text, Column}
use Rattle.strip_ast.specs.declared.expressions.Op.{Op}
use Rattle.strip_ast.specs.declared.expressions.Op.TheVariants as op
use Rattle.strip_ast.specs.Written.{left_level, level, right_level}
use Rattle.strip_ast.specs.Tokens.{is_grammar_name}
use Rattle.strip_setup.specs.declared.scope.Entry.{Entry}
use Rattle.strip_setup.specs.Parts.{filter_wholes}
use Rattle.strip_setup.specs.Queries.{calc_of, filter_of, kinds_of, place_of, test_of}
use Rattle.strip_setup.specs.Trees.{Two, Not}
use Rattle.strip_acts.specs.Suiting.{has_column}
use Rattle.strip_acts.specs.Trees.{column_name, expr_of, filter_tree, truth_of}
use Rattle.strip_acts.specs.Writable.{has_words, is_expression, is_filter, is_optional_name, opened, operators, parentheses}
use Rattle.strip_acts.proofs.Naming.{are_both, both_true}
use Rattle.strip_acts.proofs.Checking.{checked_not, checked_two, IsChecked, IsCheckedWhole, not_matched}
use Rattle.strip_acts.proofs.Reading.{alias_in}
use Rattle.strip_acts.proofs.Understood.{IsUnderstood}

-- the first has words and the shape of the second
pub record IsAlike (new old : Expr) : Type 0 where
  pub words : has_words new ≡ true
  pub joined : operators new ≡ operators old
  pub rank : level new ≡ level old
  pub nested : parentheses new ≡ parentheses old

-- the columns of the first entries have names among the second
pub record IsNamed (read written : List Entry) : Type 0 where
  pub named : (entry column : ℕ) → has_column (kinds_of read) entry column ≡ true → (is_optional_name (alias_in written entry) && is_grammar_name (column_name written entry column)) ≡ true

two_alike : (o : Op) (a b c d : Expr) → IsAlike a c → IsAlike b d → IsAlike (Two o a b) (Two o c d)
two_alike o a b c d left right = record {
  words = are_both (has_words a) (has_words b) left.words right.words;
  joined = ap₂ (λ x y. x + (1 + y)) left.joined right.joined;
  rank = refl;
  nested = ap₂ max
      (ap₂ (λ l p. opened (nat_lt l (left_level o)) p) left.rank left.nested)
      (ap₂ (λ l p. opened (nat_lt l (right_level o)) p) right.rank right.nested);
}

not_alike : (a c : Expr) → IsAlike a c → IsAlike (Not a) (Not c)
not_alike a c inner = record {
  words = inner.words;
  joined = ap (λ x. 1 + x) inner.joined;
  rank = refl;
  nested = ap₂ (λ l p. opened (nat_lt l 3) p) inner.rank inner.nested;
}

-- an expression of the shape of one that can be written can be written
pub expression_alike : (lowest : ℕ) (new old : Expr) → IsAlike new old → is_expression lowest old ≡ true → is_expression lowest new ≡ true
expression_alike lowest new old alike is =
    let rest : ℕ → ℕ → ℕ → Bool = λ n l p. nat_le n 256 && nat_le (opened (nat_lt l lowest) p) 64 in
    are_both (has_words new) (rest (operators new) (level new) (parentheses new)) alike.words
    (ap (λ n. rest n (level new) (parentheses new)) alike.joined
    ∙ ap₂ (λ l p. rest (operators old) l p) alike.rank alike.nested
    ∙ (both_true (has_words old) (rest (operators old) (level old) (parentheses old)) is).1)

module _ (read written : List Entry) (understood : IsUnderstood read) (named : IsNamed read written) where
  column_alike : (of : Option (List ℕ)) (name : List ℕ) → IsChecked read false (Column of name) → IsAlike (expr_of written (calc_of read (Column of name))) (Column of name)
  column_alike of name checked =
      let place = place_of read of name in
      record { words = named.named place.entry place.column (understood.there (record { of = of; name = name }) checked.known.0); joined = refl; rank = refl; nested = refl }

  value_alike : (e : Expr) → IsChecked read false e → has_words e ≡ true → IsAlike (expr_of written (calc_of read e)) e
  value_alike (Number n) checked words = record { words = words; joined = refl; rank = refl; nested = refl }
  value_alike (Text t) checked words = record { words = words; joined = refl; rank = refl; nested = refl }
  value_alike (Column of name) checked words = column_alike of name checked
  value_alike (Two op.Add a b) checked words =
      let two = checked_two read false op.Add a b checked in
      let both = both_true (has_words a) (has_words b) words in
      two_alike op.Add (expr_of written (calc_of read a)) (expr_of written (calc_of read b)) a b (value_alike a two.left both.0) (value_alike b two.right both.1)
  value_alike (Two op.Sub a b) checked words =
      let two = checked_two read false op.Sub a b checked in
      let both = both_true (has_words a) (has_words b) words in
      two_alike op.Sub (expr_of written (calc_of read a)) (expr_of written (calc_of read b)) a b (value_alike a two.left both.0) (value_alike b two.right both.1)
  value_alike (Two op.Mul a b) checked words =
      let two = checked_two read false op.Mul a b checked in
      let both = both_true (has_words a) (has_words b) words in
      two_alike op.Mul (expr_of written (calc_of read a)) (expr_of written (calc_of read b)) a b (value_alike a two.left both.0) (value_alike b two.right both.1)
  value_alike (Two op.Eq a b) checked words = absurd (true≢false (checked_two read false op.Eq a b checked).same)
  value_alike (Two op.Ne a b) checked words = absurd (true≢false (checked_two read false op.Ne a b checked).same)
  value_alike (Two op.Lt a b) checked words = absurd (true≢false (checked_two read false op.Lt a b checked).same)
  value_alike (Two op.Le a b) checked words = absurd (true≢false (checked_two read false op.Le a b checked).same)
  value_alike (Two op.Gt a b) checked words = absurd (true≢false (checked_two read false op.Gt a b checked).same)
  value_alike (Two op.Ge a b) checked words = absurd (true≢false (checked_two read false op.Ge a b checked).same)
  value_alike (Two op.And a b) checked words = absurd (true≢false (checked_two read false op.And a b checked).same)
  value_alike (Two op.Or a b) checked words = absurd (true≢false (checked_two read false op.Or a b checked).same)
  value_alike (Not a) checked words = absurd (true≢false (not_matched read false a checked))

  -- ---- truth values

  compared_alike : (o : Op) (a b : Expr) → IsChecked read false a → IsChecked read false b → (has_words a && has_words b) ≡ true → IsAlike (Two o (expr_of written (calc_of read a)) (expr_of written (calc_of read b))) (Two o a b)
  compared_alike o a b left right words =
      let both = both_true (has_words a) (has_words b) words in
      two_alike o (expr_of written (calc_of read a)) (expr_of written (calc_of read b)) a b (value_alike a left both.0) (value_alike b right both.1)

  truth_alike : (e : Expr) → IsChecked read true e → has_words e ≡ true → IsAlike (truth_of written (test_of read e)) e
  truth_alike (Number n) checked words = absurd (true≢false checked.kinds.0)
  truth_alike (Text t) checked words = absurd (true≢false checked.kinds.0)
  truth_alike (Column of name) checked words = absurd (true≢false checked.kinds.0)
  truth_alike (Two op.Add a b) checked words = absurd (true≢false (checked_two read true op.Add a b checked).same)
  truth_alike (Two op.Sub a b) checked words = absurd (true≢false (checked_two read true op.Sub a b checked).same)
  truth_alike (Two op.Mul a b) checked words = absurd (true≢false (checked_two read true op.Mul a b checked).same)
  truth_alike (Two op.Eq a b) checked words = let two = checked_two read true op.Eq a b checked in compared_alike op.Eq a b two.left two.right words
  truth_alike (Two op.Ne a b) checked words = let two = checked_two read true op.Ne a b checked in compared_alike op.Ne a b two.left two.right words
  truth_alike (Two op.Lt a b) checked words = let two = checked_two read true op.Lt a b checked in compared_alike op.Lt a b two.left two.right words
  truth_alike (Two op.Le a b) checked words = let two = checked_two read true op.Le a b checked in compared_alike op.Le a b two.left two.right words
  truth_alike (Two op.Gt a b) checked words = let two = checked_two read true op.Gt a b checked in compared_alike op.Gt a b two.left two.right words
  truth_alike (Two op.Ge a b) checked words = let two = checked_two read true op.Ge a b checked in compared_alike op.Ge a b two.left two.right words
  truth_alike (Two op.And a b) checked words =
      let two = checked_two read true op.And a b checked in
      let both = both_true (has_words a) (has_words b) words in
      two_alike op.And (truth_of written (test_of read a)) (truth_of written (test_of read b)) a b (truth_alike a two.left both.0) (truth_alike b two.right both.1)
  truth_alike (Two op.Or a b) checked words =
      let two = checked_two read true op.Or a b checked in
      let both = both_true (has_words a) (has_words b) words in
      two_alike op.Or (truth_of written (test_of read a)) (truth_of written (test_of read b)) a b (truth_alike a two.left both.0) (truth_alike b two.right both.1)
  truth_alike (Not a) checked words = not_alike (truth_of written (test_of read a)) a (truth_alike a (checked_not read true a checked) words)

  -- ---- whole expressions

  abbrev has_rest : ℕ → Expr → Bool
  has_rest lowest e = nat_le (operators e) 256 && nat_le (opened (nat_lt (level e) lowest) (parentheses e)) 64

  pub value_written : (lowest : ℕ) (e : Expr) → IsChecked read false e → is_expression lowest e ≡ true → is_expression lowest (expr_of written (calc_of read e)) ≡ true
  value_written lowest e checked is = expression_alike lowest (expr_of written (calc_of read e)) e (value_alike e checked (both_true (has_words e) (has_rest lowest e) is).0) is

  truth_written : (e : Expr) → IsChecked read true e → is_expression 0 e ≡ true → is_expression 0 (truth_of written (test_of read e)) ≡ true
  truth_written e checked is = expression_alike 0 (truth_of written (test_of read e)) e (truth_alike e checked (both_true (has_words e) (has_rest 0 e) is).0) is

  as_filter : (t : Test) → is_expression 0 (truth_of written t) ≡ true → is_filter (filter_tree written t) ≡ true
  as_filter test.True is = refl
  as_filter (test.Compare how a b) is = is
  as_filter (tree.Not t) is = is
  as_filter (tree.And s t) is = is
  as_filter (tree.Or s t) is = is

  pub filter_written : (filter : Option Expr) → AllByRecursion (IsCheckedWhole read) (filter_wholes filter) → is_filter filter ≡ true → is_filter (filter_tree written (filter_of read filter)) ≡ true
  filter_written None checked is = refl
  filter_written (Some e) checked is = as_filter (test_of read e) (truth_written e checked.0.checked is)
