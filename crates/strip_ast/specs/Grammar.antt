-- Grammars over tokens: what is matched, and as which tree.
use Rattle.std.specs.Prelude.{◌≡◌, ℕ, Bool, true, false, List, [], ◌∷◌, ◌++◌, Option, Some, None, is_some, ◌⊎◌}
use Rattle.strip_ast.specs.declared.marks.Mark.{Mark as OneMark}
use Rattle.strip_ast.specs.declared.marks.Mark.TheVariants as m
use Rattle.strip_ast.specs.declared.token_types.Token.{Token}
use Rattle.strip_ast.specs.declared.token_types.Token.TheVariants as token
use Rattle.strip_ast.specs.declared.token_types.Placed.{Placed}
use Rattle.strip_ast.specs.declared.expressions.Expr.{Expr}
use Rattle.strip_ast.specs.Marks.{same_mark}

-- what one token can be: a keyword or a symbol, one that counts as an operator, a name, a number, a number that
-- stands for a caller, a text
pub data Terminal : Type 0 → Type 1 where
  mark : OneMark → Terminal (Unit {0})
  operator : OneMark → Terminal (Unit {0})
  name : Terminal (List ℕ)
  number : Terminal ℕ
  caller : Terminal ℕ
  text : Terminal (List ℕ)

abbrev pub some_if : Bool → Option (Unit {0})
some_if true = Some tt
some_if false = None

-- what a token is taken as
abbrev pub takes : {A : Type 0} → Terminal A → Token → Option A
takes (mark a) (token.Mark b) = some_if (same_mark a b)
takes (operator a) (token.Mark b) = some_if (same_mark a b)
takes name (token.Name a) = Some a
takes number (token.Number n) = Some n
takes caller (token.Number n) = Some n
takes text (token.Text t) = Some t
takes _ _ = None

-- a grammar of lists of tokens with a tree for each: one token, none, another tree for the same list, one list
-- after the other, either of two, any number, `{"," x} ["," y]`, an expression that is no part of another, and
-- what may also be an expression in parentheses
pub data Grammar : Type 0 → Type 1 where
  terminal : {A : Type 0} → Terminal A → Grammar A
  empty : {A : Type 0} → A → Grammar A
  made : {A B : Type 0} → Grammar A → (A → B) → Grammar B
  both : {A B : Type 0} → Grammar A → Grammar B → Grammar (A × B)
  either : {A : Type 0} → Grammar A → Grammar A → Grammar A
  many : {A : Type 0} → Grammar A → Grammar (List A)
  commas : {A B : Type 0} → Grammar A → Grammar B → Grammar (List A × Option B)
  outermost : {A : Type 0} → Grammar A → Grammar A
  or_enclosed : Grammar Expr → Grammar Expr

-- the list is one token, which is taken as this
abbrev pub One : {A : Type 0} → Terminal A → List Placed → A → Type 0
One t u a = (p : Placed) × (u ≡ p ∷ []) × (takes t p.token ≡ Some a)

-- a list of the first and then one of the second
abbrev pub Seq : {A B : Type 0} → (List Placed → A → Type 0) → (List Placed → B → Type 0) → List Placed → A → B → Type 0
Seq R S u a b = (v : List Placed) × (w : List Placed) × (u ≡ v ++ w) × R v a × S w b

-- one token and then a list
abbrev pub Behind : {A B : Type 0} → Terminal A → (List Placed → B → Type 0) → List Placed → B → Type 0
Behind t R u b = (p : Placed) × (v : List Placed) × (u ≡ p ∷ v) × (is_some (takes t p.token) ≡ true) × R v b

-- lists one after the other
abbrev pub Each : {A : Type 0} → (List Placed → A → Type 0) → List Placed → List A → Type 0
Each R u [] = u ≡ []
Each R u (a ∷ as_) = (v : List Placed) × (w : List Placed) × (u ≡ v ++ w) × R v a × Each R w as_

-- a list, or none
abbrev pub Maybe : {A : Type 0} → (List Placed → A → Type 0) → List Placed → Option A → Type 0
Maybe R u None = u ≡ []
Maybe R u (Some a) = R u a

-- an expression and then `)`
abbrev pub Closed : (List Placed → Expr → Type 0) → List Placed → Expr → Type 0
Closed I u e = Seq I (One (mark m.Close)) u e tt

-- the list is matched as the tree; `I` says what stands in parentheses
abbrev pub Matches : {A : Type 0} → (List Placed → Expr → Type 0) → Grammar A → List Placed → A → Type 0
Matches I (terminal t) u a = One t u a
Matches I (empty b) u a = (u ≡ []) × (a ≡ b)
Matches I (made g f) u b = (a : _) × Matches I g u a × (b ≡ f a)
Matches I (both g h) u c = Seq (Matches I g) (Matches I h) u c.0 c.1
Matches I (either g h) u a = Matches I g u a ⊎ Matches I h u a
Matches I (many g) u a = Each (Matches I g) u a
Matches I (commas g h) u c = Seq (Each (Behind (mark m.Comma) (Matches I g))) (Maybe (Behind (mark m.Comma) (Matches I h))) u c.0 c.1
Matches I (outermost g) u a = Matches I g u a
Matches I (or_enclosed g) u e = Matches I g u e ⊎ Behind (mark m.Open) (Closed I) u e
