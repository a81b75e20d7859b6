-- What is read within the limits is what is matched within them, counted from no operator on.
use Rattle.std.proofs.Common.{◌≡◌, ℕ, ◌≤◌, List, [], ◌∷◌, ◌++◌, length, Result, Ok, Err, refl, sym, ◌∙◌, ap, subst, arith}
use Rattle.std.proofs.lemmas.List.{append-nil}
use Rattle.strip_ast.specs.declared.token_types.Placed.{Placed}
use Rattle.strip_ast.specs.declared.statements.Statement.{Statement}
use Rattle.strip_ast.specs.Grammar.{Grammar}
use Rattle.strip_ast.specs.Syntax.{statement}
use Rattle.strip_ast.specs.Tokens.{tokens_of}
use Rattle.strip_ast.specs.Written.{statement_text, statement_pieces}
use Rattle.strip_parse.specs.Reading.{State, Out, take, take_inside, ended, at_end}
use Rattle.strip_parse.specs.Parsed.{beginning, reading, answer_of, parsed_tokens, parsed}
use Rattle.strip_parse.proofs.Exact.{statement_decided}
use Rattle.strip_parse.proofs.InGrammar.{parsed_read}
use Rattle.strip_parse.proofs.Counted.{limits, limits_fall, Counted, CountedWithin}
use Rattle.strip_parse.proofs.CountedSound.{taken, inside_taken}
use Rattle.strip_parse.proofs.CountedTaking.{state_of, takes_all, inside_all}
use Rattle.strip_ast.proofs.SoundTokens.{SoundTokens, tokens_sound}
use Rattle.strip_parse.proofs.PrintedTokens.{cut_again}
use Rattle.strip_parse.proofs.PrintedGrammar.{printed_again}

-- the list is matched as the tree within the limits, where so many parentheses at most are open, from so many operators
-- before it to so many behind it
abbrev pub Matched : {A : Type 0} → ℕ → Grammar A → List Placed → A → ℕ → ℕ → Type 0
Matched room g u a k l = Counted limits (CountedWithin limits room) g u a k l

ended_ok : (a s : Statement) (ts : List Placed) → ended a ts ≡ Ok s → (ts ≡ []) × (a ≡ s)
ended_ok a s [] is = (refl, cc)
ended_ok a s (p ∷ ps) is = cc

at_end_ok : (o : Out Statement) (s : Statement) → at_end o ≡ Ok s → (x : State) × (o ≡ Ok (s, x)) × (x.left ≡ [])
at_end_ok (Ok (a, x)) s is =
    let e = ended_ok a s x.left is in
    (x, ap (λ b. Ok (b, x)) e.1, e.0)
at_end_ok (Err halt) s is = cc

-- what is read to its end is matched
read_matched : (room : ℕ) (ts : List Placed) (s : Statement) → at_end (take (take_inside room) statement (beginning ts)) ≡ Ok s → (l : ℕ) × Matched room statement ts s 0 l
read_matched room ts s is =
    let (x, out, ends) = at_end_ok (take (take_inside room) statement (beginning ts)) s is in
    let t = taken (CountedWithin limits room) (take_inside room) (inside_taken room) statement (beginning ts) x s out in
    let all : ts ≡ t.0 = t.1 ∙ ap (λ y. t.0 ++ y) ends ∙ append-nil t.0 in
    (x.operators, subst (λ y. Matched room statement y s 0 x.operators) (sym all) t.2)

reading_matched : (ts : List Placed) (s : Statement) → reading ts ≡ Ok s → (l : ℕ) × Matched 64 statement ts s 0 l
unfolding reading
reading_matched ts s is = read_matched 64 ts s is

-- the tokens of bytes that are parsed can be cut from bytes, and are matched
pub parsed_matched : (bytes : List ℕ) (s : Statement) → parsed bytes ≡ Ok s → (ts : List Placed) × SoundTokens ts × ((l : ℕ) × Matched 64 statement ts s 0 l)
parsed_matched bytes s is =
    let (ts, cut, read) = parsed_read bytes s is in
    (ts, tokens_sound bytes ts cut, reading_matched ts s read)

-- what is matched is read to its end
matched_read : (room : ℕ) (ts : List Placed) (s : Statement) (l : ℕ) → Matched room statement ts s 0 l → at_end (take (take_inside room) statement (beginning ts)) ≡ Ok s
matched_read room ts s l r =
    let fit : length (ts ++ []) ≤ length ts = rw (append-nil ts) (omega arith) in
    let is : take (take_inside room) statement (state_of (ts ++ []) 0 (length ts)) ≡ Ok (s, state_of [] l (length ts)) = takes_all (length ts) (CountedWithin limits room) (take_inside room) (inside_all (length ts) room) statement statement_decided ts [] s 0 l fit r refl in
    ap at_end (ap (λ us. take (take_inside room) statement (state_of us 0 (length ts))) (sym (append-nil ts)) ∙ is)

matched_reading : (ts : List Placed) (s : Statement) (l : ℕ) → Matched 64 statement ts s 0 l → reading ts ≡ Ok s
unfolding reading
matched_reading ts s l r = matched_read 64 ts s l r

-- a statement as which any tokens that can be cut from bytes are matched is printed as bytes that are parsed as it
pub matched_parsed : (u : List Placed) (s : Statement) (l : ℕ) → SoundTokens u → Matched 64 statement u s 0 l → parsed (statement_text s) ≡ Ok s
unfolding statement_text parsed
matched_parsed u s l sound r =
    let again = printed_again limits limits_fall 64 u s l sound r in
    let (ts, cut_of_text, bare_tokens) = cut_again (statement_pieces s) again.0 in
    let t = again.1 ts bare_tokens in
    let read_again = matched_reading ts s t.0 t.1 in
    ap (parsed_tokens _) cut_of_text ∙ ap (answer_of _) read_again
