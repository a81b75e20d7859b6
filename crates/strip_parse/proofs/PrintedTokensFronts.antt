-- A token before what ends it: just that token is cut.
use Rattle.std.proofs.Common.{◌≡◌, ℕ, suc, ◌+◌, ◌-◌, ◌*◌, ◌/◌, ◌%◌, ◌<◌, ◌≤◌, ◌^◌, ◌==◌, ◌||◌, ◌&&◌, nat_le, nat_lt, not, Bool, true, false, List, [], ◌∷◌, ◌++◌, length, Option, Some, None, is_some, Result, Ok, if◌then◌else◌, decimal, lit<, le-leb, ne_eqb, eqb-true, true≢false, append_assoc, length-append, arith, refl, sym, ap, ap₂, ◌∙◌}
use Rattle.std.specs.List.{list_all, list_any, prefix_len}
use Rattle.std.proofs.Math.Seq.{drop-append_seam, take-append_seam}
use Rattle.std.proofs.lemmas.Bool.{or_parts}
use Rattle.std.proofs.lemmas.Fmt.{decimal_by_steps_wide, length-decimal-le_wide}
use Rattle.std.proofs.lemmas.List.Folds.{list_all-append}
use Rattle.strip_value.specs.Name.{is_digit, is_word_byte}
use Rattle.strip_value.specs.Pieces.{is_blank}
use Rattle.strip_value.specs.Print.{doubled, quoted}
use Rattle.strip_ast.specs.declared.faults.Why.{Why}
use Rattle.strip_ast.specs.declared.marks.Mark.{Mark}
use Rattle.strip_ast.specs.declared.marks.Mark.TheVariants as m
use Rattle.strip_ast.specs.declared.token_types.Token.{Token}
use Rattle.strip_ast.specs.declared.token_types.Token.TheVariants as token
use Rattle.strip_ast.specs.Marks.{keyword_of, symbol_of, mark_text}
use Rattle.strip_ast.specs.Pieces.{joins_right}
use Rattle.strip_ast.specs.Tokens.{cut, sized, text_start, run_start, token_at, with_token, tokens_from, begins_word, begins_with, is_word, is_grammar_name, word_token, number_from, number_token, text_token, text_from, text_with, pending_after}
use Rattle.strip_ast.proofs.CutLemmas.{cut_step}
use Rattle.strip_parse.proofs.Begins.{both_true}

-- ---- what may follow a word, a number, a text and a symbol

-- a blank, `(`, `)`, `,` and `.`
abbrev pub closings : List ℕ
closings = 32 ∷ 40 ∷ 41 ∷ 44 ∷ 46 ∷ []

-- the bytes end here, or go on with a byte that ends a token
abbrev pub is_ended : List ℕ → Bool
is_ended [] = true
is_ended (c ∷ cs) = list_any (λ s. c == s) closings

-- a byte that a test tells from others is none of them
other_byte : (p : ℕ → Bool) (c : ℕ) (others : List ℕ) → p c ≡ true → list_any p others ≡ false → list_any (λ s. c == s) others ≡ false
other_byte p c [] is isnt = refl
other_byte p c (s ∷ others) is isnt =
    let parts = or_parts (p s) (list_any p others) isnt in
    let apart : (c == s) ≡ false = ne_eqb c s (λ same. true≢false (sym is ∙ ap p same ∙ parts.0)) in
    rw apart (other_byte p c others is parts.1)

ended_stops : (p : ℕ → Bool) (rest : List ℕ) → list_any p closings ≡ false → is_ended rest ≡ true → begins_with p rest ≡ false
ended_stops p [] none ended = refl
ended_stops p (c ∷ cs) none ended = by (p c) refl
  where
    by : (b : Bool) → p c ≡ b → b ≡ false
    by false is = refl
    by true is = absurd (true≢false (sym ended ∙ other_byte p c closings is none))

-- a byte that a test tells from blanks is none
solid_byte : (p : ℕ → Bool) (c : ℕ) → p c ≡ true → list_any p (32 ∷ 9 ∷ 13 ∷ 10 ∷ []) ≡ false → is_blank c ≡ false
solid_byte p c is isnt =
    let none : list_any (λ s. c == s) (32 ∷ 9 ∷ 13 ∷ 10 ∷ []) ≡ false = other_byte p c (32 ∷ 9 ∷ 13 ∷ 10 ∷ []) is isnt in
    let first : ((c == 32) ≡ false) × (list_any (λ s. c == s) (9 ∷ 13 ∷ 10 ∷ []) ≡ false) = or_parts _ _ none in
    let second : ((c == 9) ≡ false) × (list_any (λ s. c == s) (13 ∷ 10 ∷ []) ≡ false) = or_parts _ _ first.1 in
    let third : ((c == 13) ≡ false) × (list_any (λ s. c == s) (10 ∷ []) ≡ false) = or_parts _ _ second.1 in
    let fourth : ((c == 10) ≡ false) × (list_any (λ s. c == s) [] ≡ false) = or_parts _ _ third.1 in
    rw (first.0, second.0, third.0, fourth.0) refl

-- ---- a token before what follows

-- the bytes, with what follows them, begin with just this token
abbrev pub IsFront : List ℕ → Token → List ℕ → Type 0
IsFront word a rest = (0 < length word) × (begins_with is_blank (word ++ rest) ≡ false) × (token_at (word ++ rest) ≡ cut a (length word))

pub front_cut : (at : ℕ) (word rest : List ℕ) (a : Token) → IsFront word a rest → tokens_from 0 at (word ++ rest) ≡ with_token at a (tokens_from 0 (at + length word) rest)
front_cut at word rest a is =
    let within : length word ≤ length (word ++ rest) = omega (arith, length-append word rest) in
    cut_step at (word ++ rest) a (length word) is.0 within is.1 is.2 ∙ ap (λ bytes. with_token at a (tokens_from 0 (at + length word) bytes)) (drop-append_seam word rest)

run_length : (p : ℕ → Bool) (word rest : List ℕ) → list_all p word ≡ true → begins_with p rest ≡ false → prefix_len p (word ++ rest) ≡ length word
run_length p [] [] all stop = refl
run_length p [] (c ∷ cs) all stop = rw stop refl
run_length p (c ∷ word) rest all stop =
    let parts = both_true (p c) (list_all p word) all in
    let one_more : 1 + prefix_len p (word ++ rest) ≡ suc (prefix_len p (word ++ rest)) = omega arith in
    rw parts.0 (one_more ∙ ap suc (run_length p word rest parts.1 stop))

run_front : (p : ℕ → Bool) (word rest : List ℕ) (token_of : List ℕ → Result Token Why) (a : Token) → list_all p word ≡ true → begins_with p rest ≡ false → token_of word ≡ Ok a → run_start (prefix_len p (word ++ rest)) (word ++ rest) token_of ≡ cut a (length word)
run_front p word rest token_of a all stop is = rw (run_length p word rest all stop, take-append_seam word rest, is) refl

word_at : (c : ℕ) (cs : List ℕ) → begins_word c ≡ true → token_at (c ∷ cs) ≡ run_start (prefix_len is_word_byte (c ∷ cs)) (c ∷ cs) word_token
unfolding token_at
word_at c cs is = rw is refl

digits_at : (c : ℕ) (cs : List ℕ) → begins_word c ≡ false → is_digit c ≡ true → token_at (c ∷ cs) ≡ run_start (prefix_len is_digit (c ∷ cs)) (c ∷ cs) number_token
unfolding token_at
digits_at c cs isnt is = rw (isnt, is) refl

word_front : (word rest : List ℕ) (a : Token) → is_word word ≡ true → word_token word ≡ Ok a → is_ended rest ≡ true → IsFront word a rest
word_front [] rest a is made ended = cc
word_front (c ∷ cs) rest a is made ended =
    let parts = both_true (nat_lt 0 (length (c ∷ cs)) && list_all is_word_byte (c ∷ cs)) (not (is_digit c)) is in
    let bytes : list_all is_word_byte (c ∷ cs) ≡ true = (both_true (nat_lt 0 (length (c ∷ cs))) (list_all is_word_byte (c ∷ cs)) parts.0).1 in
    let byte : is_word_byte c ≡ true = (both_true (is_word_byte c) (list_all is_word_byte cs) bytes).0 in
    let begins : begins_word c ≡ true = rw byte parts.1 in
    let stop : begins_with is_word_byte rest ≡ false = ended_stops is_word_byte rest refl ended in
    (omega arith, solid_byte is_word_byte c byte refl, word_at c (cs ++ rest) begins ∙ run_front is_word_byte (c ∷ cs) rest word_token a bytes stop made)

-- a digit begins no word
digit_alone : (a b : Bool) → b ≡ true → (a && not b) ≡ false
digit_alone true b is = rw is refl
digit_alone false b is = refl

digits_front : (digits rest : List ℕ) (a : Token) → 0 < length digits → list_all is_digit digits ≡ true → number_token digits ≡ Ok a → is_ended rest ≡ true → IsFront digits a rest
digits_front [] rest a some all made ended = absurd (omega arith)
digits_front (c ∷ cs) rest a some all made ended =
    let digit : is_digit c ≡ true = (both_true (is_digit c) (list_all is_digit cs) all).0 in
    let stop : begins_with is_digit rest ≡ false = ended_stops is_digit rest refl ended in
    (omega arith, solid_byte is_digit c digit refl, digits_at c (cs ++ rest) (digit_alone (is_word_byte c) (is_digit c) digit) digit ∙ run_front is_digit (c ∷ cs) rest number_token a all stop made)

-- ---- names

name_made : (word : List ℕ) (keyword : Option Mark) → keyword_of word ≡ keyword → nat_le (length word) 32 ≡ true → not (is_some keyword) ≡ true → word_token word ≡ Ok (token.Name word)
name_made word None found short none = rw (found, short) refl
name_made word (Some a) found short none = cc

pub name_front : (word rest : List ℕ) → is_grammar_name word ≡ true → is_ended rest ≡ true → IsFront word (token.Name word) rest
name_front word rest is ended =
    let parts = both_true (is_word word && nat_le (length word) 32) (not (is_some (keyword_of word))) is in
    let others = both_true (is_word word) (nat_le (length word) 32) parts.0 in
    word_front word rest (token.Name word) others.0 (name_made word (keyword_of word) refl others.1 parts.1) ended

-- ---- numbers

number_append : (n d : ℕ) (ds : List ℕ) → number_from n (ds ++ d ∷ []) ≡ number_from n ds * 10 + (d - 48)
number_append n d [] = refl
number_append n d (c ∷ ds) = number_append (n * 10 + (c - 48)) d ds

-- digits, of which there are some, of a number
abbrev AreDigitsOf : ℕ → List ℕ → Type 0
AreDigitsOf n ds = (list_all is_digit ds ≡ true) × (0 < length ds) × (number_from 0 ds ≡ n)

is_digit_of : (n : ℕ) → n < 10 → is_digit (48 + n) ≡ true
is_digit_of n small =
    let low : nat_le 48 (48 + n) ≡ true = le-leb 48 (48 + n) (omega arith) in
    let high : nat_le (48 + n) 57 ≡ true = le-leb (48 + n) 57 (omega arith) in
    rw (low, high) refl

one_digit : (n : ℕ) → n < 10 → AreDigitsOf n ((48 + n) ∷ [])
one_digit n small = (rw (is_digit_of n small) refl, lit< tt, omega arith)

digit_more : (n : ℕ) (ds : List ℕ) → 10 ≤ n → AreDigitsOf (n / 10) ds → AreDigitsOf n (ds ++ ((48 + n % 10) ∷ []))
digit_more n ds large are =
    let last : is_digit (48 + n % 10) ≡ true = is_digit_of (n % 10) (omega arith) in
    let all : list_all is_digit (ds ++ ((48 + n % 10) ∷ [])) ≡ true = list_all-append is_digit ds ((48 + n % 10) ∷ []) ∙ rw (are.0, last) refl in
    let value : number_from 0 (ds ++ ((48 + n % 10) ∷ [])) ≡ n = number_append 0 (48 + n % 10) ds ∙ omega (arith, are.2) in
    (all, omega (arith, length-append ds ((48 + n % 10) ∷ [])), value)

decimal_digits : (n : ℕ) → n < 10 ^ 38 → AreDigitsOf n (decimal n)
decimal_digits n small = decimal_by_steps_wide AreDigitsOf one_digit digit_more n (omega arith)

pub decimal_front : (n : ℕ) (rest : List ℕ) → n < 10 ^ 38 → is_ended rest ≡ true → IsFront (decimal n) (token.Number n) rest
decimal_front n rest small ended =
    let digits = decimal_digits n small in
    let short : nat_le (length (decimal n)) 38 ≡ true = le-leb _ _ (length-decimal-le_wide 38 n (omega arith) small (omega arith)) in
    let made : number_token (decimal n) ≡ Ok (token.Number n) = rw short (ap (λ k. Ok (token.Number k)) digits.2) in
    digits_front (decimal n) rest (token.Number n) digits.1 digits.0 made ended

-- ---- texts

-- a text is closed by a quote that no other follows
text_closed : (rest : List ℕ) → begins_with (λ c. c == 39) rest ≡ false → text_from true rest ≡ Some ([], 0)
text_closed [] stop = refl
text_closed (c ∷ cs) stop = rw stop refl

text_more : (c : ℕ) (value tail more : List ℕ) (quote : Bool) → (c == 39) ≡ quote → text_from false (tail ++ more) ≡ Some (value, length tail + 1) → text_from false (((if quote then 39 ∷ 39 ∷ [] else c ∷ []) ++ tail) ++ more) ≡ Some (c ∷ value, length ((if quote then 39 ∷ 39 ∷ [] else c ∷ []) ++ tail) + 1)
text_more c value tail more true is read =
    let same : 39 ≡ c = sym (eqb-true c 39 is) in
    let place : length tail + 1 + 1 + 1 ≡ suc (suc (length tail)) + 1 = omega arith in
    ap (λ found. text_with false true 39 (text_with true true 39 found)) read ∙ ap₂ (λ b n. Some (b ∷ value, n)) same place
text_more c value tail more false is read =
    let place : length tail + 1 + 1 ≡ suc (length tail) + 1 = omega arith in
    ap (λ quote. text_with false quote c (text_from (pending_after false quote) (tail ++ more))) is ∙ ap (λ found. text_with false false c found) read ∙ ap (λ n. Some (c ∷ value, n)) place

text_read : (value rest : List ℕ) → begins_with (λ c. c == 39) rest ≡ false → text_from false (doubled value ++ 39 ∷ rest) ≡ Some (value, length (doubled value) + 1)
text_read [] rest stop = ap (λ found. text_with false true 39 found) (text_closed rest stop)
text_read (c ∷ value) rest stop = text_more c value (doubled value) (39 ∷ rest) (c == 39) refl (text_read value rest stop)

text_at : (cs : List ℕ) → token_at (39 ∷ cs) ≡ text_start (text_from false cs)
unfolding token_at
text_at cs = refl

pub text_front : (value rest : List ℕ) → text_token value ≡ Ok (token.Text value) → is_ended rest ≡ true → IsFront (quoted value) (token.Text value) rest
text_front value rest made ended =
    let apart : begins_with (λ c. c == 39) rest ≡ false = ended_stops (λ c. c == 39) rest refl ended in
    let joined : (doubled value ++ 39 ∷ []) ++ rest ≡ doubled value ++ 39 ∷ rest = append_assoc (doubled value) (39 ∷ []) rest in
    let size : length (doubled value) + 1 + 1 ≡ suc (length (doubled value ++ 39 ∷ [])) = omega (arith, length-append (doubled value) (39 ∷ [])) in
    let start : text_start (text_from false ((doubled value ++ 39 ∷ []) ++ rest)) ≡ sized (length (doubled value) + 1 + 1) (text_token value) = ap (λ bytes. text_start (text_from false bytes)) joined ∙ ap text_start (text_read value rest apart) in
    (omega arith, refl, text_at ((doubled value ++ 39 ∷ []) ++ rest) ∙ start ∙ ap (sized (length (doubled value) + 1 + 1)) made ∙ ap (cut (token.Text value)) size)

-- ---- keywords and symbols

-- a byte that ends no token doesn't follow
next_byte : (k c : ℕ) (cs : List ℕ) → list_any (λ s. k == s) closings ≡ false → is_ended (c ∷ cs) ≡ true → (k == c) ≡ false
next_byte k c cs none ended = ne_eqb k c (λ same. true≢false (sym ended ∙ ap (λ b. list_any (λ s. b == s) closings) (sym same) ∙ none))

less_front : (rest : List ℕ) → is_ended rest ≡ true → IsFront (60 ∷ []) (token.Mark m.Below) rest
unfolding token_at symbol_of
less_front [] ended = (lit< tt, refl, refl)
less_front (c ∷ cs) ended = (lit< tt, refl, rw (next_byte 62 c cs refl ended, next_byte 61 c cs refl ended) refl)

greater_front : (rest : List ℕ) → is_ended rest ≡ true → IsFront (62 ∷ []) (token.Mark m.Above) rest
unfolding token_at symbol_of
greater_front [] ended = (lit< tt, refl, refl)
greater_front (c ∷ cs) ended = (lit< tt, refl, rw (next_byte 61 c cs refl ended) refl)

-- a symbol of one byte that no blank follows, or a word before what ends it
pub mark_front : (a : Mark) (rest : List ℕ) → (joins_right a || is_ended rest) ≡ true → IsFront (mark_text a) (token.Mark a) rest
unfolding token_at keyword_of symbol_of
mark_front m.Add rest ended = word_front (mark_text m.Add) rest (token.Mark m.Add) refl refl ended
mark_front m.After rest ended = word_front (mark_text m.After) rest (token.Mark m.After) refl refl ended
mark_front m.And rest ended = word_front (mark_text m.And) rest (token.Mark m.And) refl refl ended
mark_front m.As rest ended = word_front (mark_text m.As) rest (token.Mark m.As) refl refl ended
mark_front m.At rest ended = word_front (mark_text m.At) rest (token.Mark m.At) refl refl ended
mark_front m.Before rest ended = word_front (mark_text m.Before) rest (token.Mark m.Before) refl refl ended
mark_front m.Begin rest ended = word_front (mark_text m.Begin) rest (token.Mark m.Begin) refl refl ended
mark_front m.Bind rest ended = word_front (mark_text m.Bind) rest (token.Mark m.Bind) refl refl ended
mark_front m.By rest ended = word_front (mark_text m.By) rest (token.Mark m.By) refl refl ended
mark_front m.Commit rest ended = word_front (mark_text m.Commit) rest (token.Mark m.Commit) refl refl ended
mark_front m.Count rest ended = word_front (mark_text m.Count) rest (token.Mark m.Count) refl refl ended
mark_front m.Delete rest ended = word_front (mark_text m.Delete) rest (token.Mark m.Delete) refl refl ended
mark_front m.Deleted rest ended = word_front (mark_text m.Deleted) rest (token.Mark m.Deleted) refl refl ended
mark_front m.Derive rest ended = word_front (mark_text m.Derive) rest (token.Mark m.Derive) refl refl ended
mark_front m.Evaluate rest ended = word_front (mark_text m.Evaluate) rest (token.Mark m.Evaluate) refl refl ended
mark_front m.Execute rest ended = word_front (mark_text m.Execute) rest (token.Mark m.Execute) refl refl ended
mark_front m.Finish rest ended = word_front (mark_text m.Finish) rest (token.Mark m.Finish) refl refl ended
mark_front m.From rest ended = word_front (mark_text m.From) rest (token.Mark m.From) refl refl ended
mark_front m.Function rest ended = word_front (mark_text m.Function) rest (token.Mark m.Function) refl refl ended
mark_front m.Group rest ended = word_front (mark_text m.Group) rest (token.Mark m.Group) refl refl ended
mark_front m.If rest ended = word_front (mark_text m.If) rest (token.Mark m.If) refl refl ended
mark_front m.Insert rest ended = word_front (mark_text m.Insert) rest (token.Mark m.Insert) refl refl ended
mark_front m.Inserted rest ended = word_front (mark_text m.Inserted) rest (token.Mark m.Inserted) refl refl ended
mark_front m.Int rest ended = word_front (mark_text m.Int) rest (token.Mark m.Int) refl refl ended
mark_front m.Into rest ended = word_front (mark_text m.Into) rest (token.Mark m.Into) refl refl ended
mark_front m.Key rest ended = word_front (mark_text m.Key) rest (token.Mark m.Key) refl refl ended
mark_front m.Limit rest ended = word_front (mark_text m.Limit) rest (token.Mark m.Limit) refl refl ended
mark_front m.Maintain rest ended = word_front (mark_text m.Maintain) rest (token.Mark m.Maintain) refl refl ended
mark_front m.Marked rest ended = word_front (mark_text m.Marked) rest (token.Mark m.Marked) refl refl ended
mark_front m.New rest ended = word_front (mark_text m.New) rest (token.Mark m.New) refl refl ended
mark_front m.Not rest ended = word_front (mark_text m.Not) rest (token.Mark m.Not) refl refl ended
mark_front m.Old rest ended = word_front (mark_text m.Old) rest (token.Mark m.Old) refl refl ended
mark_front m.On rest ended = word_front (mark_text m.On) rest (token.Mark m.On) refl refl ended
mark_front m.Or rest ended = word_front (mark_text m.Or) rest (token.Mark m.Or) refl refl ended
mark_front m.Pending rest ended = word_front (mark_text m.Pending) rest (token.Mark m.Pending) refl refl ended
mark_front m.Put rest ended = word_front (mark_text m.Put) rest (token.Mark m.Put) refl refl ended
mark_front m.Read rest ended = word_front (mark_text m.Read) rest (token.Mark m.Read) refl refl ended
mark_front m.Ready rest ended = word_front (mark_text m.Ready) rest (token.Mark m.Ready) refl refl ended
mark_front m.Redo rest ended = word_front (mark_text m.Redo) rest (token.Mark m.Redo) refl refl ended
mark_front m.Return rest ended = word_front (mark_text m.Return) rest (token.Mark m.Return) refl refl ended
mark_front m.Rule rest ended = word_front (mark_text m.Rule) rest (token.Mark m.Rule) refl refl ended
mark_front m.Run rest ended = word_front (mark_text m.Run) rest (token.Mark m.Run) refl refl ended
mark_front m.Select rest ended = word_front (mark_text m.Select) rest (token.Mark m.Select) refl refl ended
mark_front m.Set rest ended = word_front (mark_text m.Set) rest (token.Mark m.Set) refl refl ended
mark_front m.Show rest ended = word_front (mark_text m.Show) rest (token.Mark m.Show) refl refl ended
mark_front m.Start rest ended = word_front (mark_text m.Start) rest (token.Mark m.Start) refl refl ended
mark_front m.Stream rest ended = word_front (mark_text m.Stream) rest (token.Mark m.Stream) refl refl ended
mark_front m.Sum rest ended = word_front (mark_text m.Sum) rest (token.Mark m.Sum) refl refl ended
mark_front m.Table rest ended = word_front (mark_text m.Table) rest (token.Mark m.Table) refl refl ended
mark_front m.Text rest ended = word_front (mark_text m.Text) rest (token.Mark m.Text) refl refl ended
mark_front m.Then rest ended = word_front (mark_text m.Then) rest (token.Mark m.Then) refl refl ended
mark_front m.Undo rest ended = word_front (mark_text m.Undo) rest (token.Mark m.Undo) refl refl ended
mark_front m.Unique rest ended = word_front (mark_text m.Unique) rest (token.Mark m.Unique) refl refl ended
mark_front m.Update rest ended = word_front (mark_text m.Update) rest (token.Mark m.Update) refl refl ended
mark_front m.Updated rest ended = word_front (mark_text m.Updated) rest (token.Mark m.Updated) refl refl ended
mark_front m.When rest ended = word_front (mark_text m.When) rest (token.Mark m.When) refl refl ended
mark_front m.Where rest ended = word_front (mark_text m.Where) rest (token.Mark m.Where) refl refl ended
mark_front m.Write rest ended = word_front (mark_text m.Write) rest (token.Mark m.Write) refl refl ended
mark_front m.Unequal rest ended = (lit< tt, refl, refl)
mark_front m.AtMost rest ended = (lit< tt, refl, refl)
mark_front m.AtLeast rest ended = (lit< tt, refl, refl)
mark_front m.Open rest ended = (lit< tt, refl, refl)
mark_front m.Close rest ended = (lit< tt, refl, refl)
mark_front m.Comma rest ended = (lit< tt, refl, refl)
mark_front m.Dot rest ended = (lit< tt, refl, refl)
mark_front m.Star rest ended = (lit< tt, refl, refl)
mark_front m.Plus rest ended = (lit< tt, refl, refl)
mark_front m.Minus rest ended = (lit< tt, refl, refl)
mark_front m.Equal rest ended = (lit< tt, refl, refl)
mark_front m.Below rest ended = less_front rest ended
mark_front m.Above rest ended = greater_front rest ended

pub minus_front : (rest : List ℕ) → IsFront (45 ∷ []) (token.Mark m.Minus) rest
unfolding token_at symbol_of
minus_front rest = (lit< tt, refl, refl)
