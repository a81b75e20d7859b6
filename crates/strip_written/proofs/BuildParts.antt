-- Tokens that are matched as a tree, made of those of its parts.
use Rattle.std.proofs.Common.{◌≡◌, ℕ, zero, suc, ◌+◌, ◌<◌, ◌≤◌, ◌^◌, Bool, true, nat_lt, List, [], ◌∷◌, ◌++◌, Option, Some, None, Ok, ◌⊎◌, inl, inr, refl, sym, ◌∙◌, ap, subst}
use Rattle.std.proofs.lemmas.Slice.Eq.{bytes_eq-Decides}
use Rattle.strip_value.proofs.Lists.{all_append}
use Rattle.strip_ast.specs.declared.marks.Mark.{Mark as OneMark}
use Rattle.strip_ast.specs.declared.token_types.Token.{Token}
use Rattle.strip_ast.specs.declared.token_types.Token.TheVariants as token
use Rattle.strip_ast.specs.declared.token_types.Placed.{Placed}
use Rattle.strip_ast.specs.Marks.{mark_text, same_mark}
use Rattle.strip_ast.specs.Grammar.{Terminal, Grammar, terminal, empty, made, both, either, many, takes, some_if}
use Rattle.strip_ast.specs.Grammar as grammar
use Rattle.strip_ast.specs.Syntax.{key, ◌▸◌, ◌◂◌, a_name, a_number}
use Rattle.strip_ast.specs.Tokens.{is_grammar_name, placed_at, text_token}
use Rattle.strip_acts.specs.Writable.{is_line}
use Rattle.strip_parse.proofs.Counted.{limits, Step}
use Rattle.strip_ast.proofs.SoundTokens.{SoundToken, sound_placed, SoundTokens}
use Rattle.strip_written.proofs.Within.{Matched}
use Rattle.strip_written.proofs.Tests.{line_text}

-- some tokens that can be cut from bytes are matched as the tree, from so many operators to so many
pub record Has (room : ℕ) {A : Type 0} (g : Grammar A) (a : A) (k l : ℕ) : Type 0 where
  pub tokens : List Placed
  pub sound : SoundTokens tokens
  pub matched : Matched room g tokens a k l

-- what one grammar matches as a tree, the other matches as a tree of its own
pub has_as : {room : ℕ} {A B : Type 0} {k l : ℕ} (g : Grammar A) (h : Grammar B) (a : A) (b : B) → ((u : List Placed) → Matched room g u a k l → Matched room h u b k l) → Has room g a k l → Has room h b k l
has_as g h a b f p = record { tokens = p.tokens; sound = p.sound; matched = f p.tokens p.matched }

pub has_made : {room : ℕ} {A B : Type 0} {k l : ℕ} (g : Grammar A) (f : A → B) (a : A) → Has room g a k l → Has room (made g f) (f a) k l
has_made g f a p = record { tokens = p.tokens; sound = p.sound; matched = (a, p.matched, refl) }

pub has_both : {room : ℕ} {A B : Type 0} {k n l : ℕ} (g : Grammar A) (h : Grammar B) (a : A) (b : B) → Has room g a k n → Has room h b n l → Has room (both g h) (a, b) k l
has_both {n = n} g h a b p q =
    record {
      tokens = p.tokens ++ q.tokens;
      sound = all_append sound_placed p.tokens q.tokens p.sound q.sound;
      matched = (p.tokens, q.tokens, refl, n, p.matched, q.matched);
    }

pub has_left : {room : ℕ} {A : Type 0} {k l : ℕ} (g h : Grammar A) (a : A) → Has room g a k l → Has room (either g h) a k l
has_left g h a p = has_as g (either g h) a a (λ u t. inl t) p

pub has_right : {room : ℕ} {A : Type 0} {k l : ℕ} (g h : Grammar A) (a : A) → Has room h a k l → Has room (either g h) a k l
has_right g h a p = has_as h (either g h) a a (λ u t. inr t) p

pub has_empty : {room : ℕ} {A : Type 0} (a : A) (k : ℕ) → Has room (empty a) a k k
has_empty a k = record { tokens = []; sound = tt; matched = (refl, refl, refl) }

-- ---- single tokens

has_token : {room : ℕ} {A : Type 0} (t : Terminal A) (x : Token) (a : A) (k l : ℕ) → SoundToken x → takes t x ≡ Some a → Step limits t a k l → Has room (terminal t) a k l
has_token t x a k l s taken step' =
    record { tokens = placed_at 0 x ∷ []; sound = (s, tt); matched = ((placed_at 0 x, refl, taken), step') }

pub same_mark_text : (a : OneMark) → some_if (same_mark a a) ≡ Some tt
same_mark_text a = ap some_if ((bytes_eq-Decides (mark_text a) (mark_text a)).1 refl)

pub has_key : {room : ℕ} (w : OneMark) (k : ℕ) → Has room (key w) tt k k
has_key w k = has_token (grammar.mark w) (token.Mark w) tt k k tt (same_mark_text w) refl

pub has_operator : {room : ℕ} (w : OneMark) (k : ℕ) → nat_lt k 256 ≡ true → Has room (terminal (grammar.operator w)) tt k (k + 1)
has_operator w k few =
    has_token (grammar.operator w) (token.Mark w) tt k (k + 1) tt (same_mark_text w) (few, refl)

pub has_name : {room : ℕ} (a : List ℕ) (k : ℕ) → is_grammar_name a ≡ true → Has room a_name a k k
has_name a k is = has_token grammar.name (token.Name a) a k k is refl refl

pub has_number : {room : ℕ} (n k : ℕ) → n < 10 ^ 38 → Has room a_number n k k
has_number n k below = has_token grammar.number (token.Number n) n k k below refl refl

pub has_text : {room : ℕ} (t : List ℕ) (k : ℕ) → is_line t ≡ true → Has room (terminal grammar.text) t k k
has_text t k line = has_token grammar.text (token.Text t) t k k (line_text t line) refl refl

-- a keyword or a symbol before it or behind it
pub has_behind : {room : ℕ} {A : Type 0} {k l : ℕ} (w : OneMark) (g : Grammar A) (a : A) → Has room g a k l → Has room (w ▸ g) a k l
has_behind {k = k} w g a p = has_made (both (key w) g) (λ c. c.1) (tt, a) (has_both (key w) g tt a (has_key w k) p)

pub has_ahead : {room : ℕ} {A : Type 0} {k l : ℕ} (w : OneMark) (g : Grammar A) (a : A) → Has room g a k l → Has room (g ◂ w) a k l
has_ahead {l = l} w g a p = has_made (both g (key w)) (λ c. c.0) (a, tt) (has_both g (key w) a tt p (has_key w l))
