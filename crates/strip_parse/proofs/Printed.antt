-- What is printed of a statement is a statement with the same tree, and within the limits where its text was.
use Rattle.std.proofs.Common.{◌≡◌, ℕ, ◌≤◌, List, [], ◌∷◌, ◌++◌, length, Ok, Err, refl, sym, ◌∙◌, ap, subst, arith}
use Rattle.std.proofs.lemmas.List.{append-nil}
use Rattle.strip_ast.specs.declared.token_types.Placed.{Placed}
use Rattle.strip_ast.specs.declared.statements.Statement.{Statement}
use Rattle.strip_ast.specs.Syntax.{statement, Within}
use Rattle.strip_ast.specs.Written.{statement_text, statement_pieces}
use Rattle.strip_parse.specs.Reading.{State, Out, take, take_inside, ended, at_end}
use Rattle.strip_parse.specs.Parsed.{beginning, reading, answer_of, parsed_tokens, parsed}
use Rattle.strip_parse.specs.Printing.{PrintsItself, PrintsWithin}
use Rattle.strip_parse.proofs.Exact.{statement_decided}
use Rattle.strip_parse.proofs.InGrammar.{parsed_read}
use Rattle.strip_parse.proofs.Counted.{unbounded, limits, Counted, CountedWithin, uncounted, within_uncounted, counted, within_counted, unbounded_falls, limits_fall}
use Rattle.strip_parse.proofs.CountedSound.{taken, inside_taken}
use Rattle.strip_parse.proofs.CountedTaking.{state_of, takes_all, inside_all}
use Rattle.strip_ast.proofs.SoundTokens.{tokens_sound}
use Rattle.strip_parse.proofs.PrintedTokens.{cut_again}
use Rattle.strip_parse.proofs.PrintedGrammar.{printed_again}

pub printed : PrintsItself
unfolding statement_text
printed bytes s (u, cut, (room, r)) =
    let c = counted (Within room) (CountedWithin unbounded room) (within_counted room) statement u s 0 r in
    let again = printed_again unbounded unbounded_falls room u s c.0 (tokens_sound bytes u cut) c.1 in
    let (ts, cut_of_text, bare_tokens) = cut_again (statement_pieces s) again.0 in
    let t = again.1 ts bare_tokens in
    (ts, cut_of_text, (room, uncounted unbounded (CountedWithin unbounded room) (Within room) (within_uncounted unbounded room) statement ts s 0 t.0 t.1))

-- ---- within the limits

ended_ok : (a s : Statement) (ts : List Placed) → ended a ts ≡ Ok s → (ts ≡ []) × (a ≡ s)
ended_ok a s [] is = (refl, cc)
ended_ok a s (p ∷ ps) is = cc

at_end_ok : (o : Out Statement) (s : Statement) → at_end o ≡ Ok s → (x : State) × (o ≡ Ok (s, x)) × (x.left ≡ [])
at_end_ok (Ok (a, x)) s is =
    let e = ended_ok a s x.left is in
    (x, ap (λ b. Ok (b, x)) e.1, e.0)
at_end_ok (Err halt) s is = cc

-- what is read to its end is matched within the limits
read_counted : (room : ℕ) (ts : List Placed) (s : Statement) → at_end (take (take_inside room) statement (beginning ts)) ≡ Ok s → (l : ℕ) × Counted limits (CountedWithin limits room) statement ts s 0 l
read_counted room ts s is =
    let (x, out, ends) = at_end_ok (take (take_inside room) statement (beginning ts)) s is in
    let t = taken (CountedWithin limits room) (take_inside room) (inside_taken room) statement (beginning ts) x s out in
    let all : ts ≡ t.0 = t.1 ∙ ap (λ y. t.0 ++ y) ends ∙ append-nil t.0 in
    (x.operators, subst (λ y. Counted limits (CountedWithin limits room) statement y s 0 x.operators) (sym all) t.2)

-- what is matched within the limits is read to its end
counted_read : (room : ℕ) (ts : List Placed) (s : Statement) (l : ℕ) → Counted limits (CountedWithin limits room) statement ts s 0 l → at_end (take (take_inside room) statement (beginning ts)) ≡ Ok s
counted_read room ts s l r =
    let fit : length (ts ++ []) ≤ length ts = rw (append-nil ts) (omega arith) in
    let is : take (take_inside room) statement (state_of (ts ++ []) 0 (length ts)) ≡ Ok (s, state_of [] l (length ts)) = takes_all (length ts) (CountedWithin limits room) (take_inside room) (inside_all (length ts) room) statement statement_decided ts [] s 0 l fit r refl in
    ap at_end (ap (λ us. take (take_inside room) statement (state_of us 0 (length ts))) (sym (append-nil ts)) ∙ is)

reading_counted : (ts : List Placed) (s : Statement) → reading ts ≡ Ok s → (l : ℕ) × Counted limits (CountedWithin limits 64) statement ts s 0 l
unfolding reading
reading_counted ts s is = read_counted 64 ts s is

counted_reading : (ts : List Placed) (s : Statement) (l : ℕ) → Counted limits (CountedWithin limits 64) statement ts s 0 l → reading ts ≡ Ok s
unfolding reading
counted_reading ts s l r = counted_read 64 ts s l r

pub printed_within : PrintsWithin
unfolding statement_text parsed
printed_within bytes s is =
    let (u, cut, read) = parsed_read bytes s is in
    let c = reading_counted u s read in
    let again = printed_again limits limits_fall 64 u s c.0 (tokens_sound bytes u cut) c.1 in
    let (ts, cut_of_text, bare_tokens) = cut_again (statement_pieces s) again.0 in
    let t = again.1 ts bare_tokens in
    let read_again = counted_reading ts s t.0 t.1 in
    ap (parsed_tokens _) cut_of_text ∙ ap (answer_of _) read_again
