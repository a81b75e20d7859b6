-- Bytes that are parsed are a statement of the grammar.
use Rattle.std.proofs.Common.{◌≡◌, ℕ, List, Result, Ok, Err, IfOk, refl, subst}
use Rattle.strip_ast.specs.declared.faults.ParseError.{ParseError}
use Rattle.strip_ast.specs.declared.faults.ParseFail.{ParseFail}
use Rattle.strip_ast.specs.declared.token_types.Placed.{Placed}
use Rattle.strip_ast.specs.declared.statements.Statement.{Statement}
use Rattle.strip_ast.specs.Tokens.{tokens_of}
use Rattle.strip_parse.specs.Reading.{Halt}
use Rattle.strip_parse.specs.Parsed.{reading, answer_of, parsed_tokens, parsed, IsParsed}
use Rattle.strip_parse.specs.Exactness.{IsRight}
use Rattle.strip_parse.specs.Printing.{IsTextOf}
use Rattle.strip_parse.proofs.Exact.{right}

answer_read : (len : ℕ) (o : Result Statement Halt) (s : Statement) → answer_of len o ≡ Ok s → o ≡ Ok s
answer_read len (Ok t) s is = cc
answer_read len (Err halt) s is = cc

tokens_read : (len : ℕ) (o : Result (List Placed) ParseError) (s : Statement) → parsed_tokens len o ≡ Ok s → (ts : List Placed) × (o ≡ Ok ts) × (reading ts ≡ Ok s)
tokens_read len (Ok ts) s is = (ts, refl, answer_read len (reading ts) s is)
tokens_read len (Err fault) s is = cc

-- the tokens of bytes that are parsed
pub parsed_read : (bytes : List ℕ) (s : Statement) → parsed bytes ≡ Ok s → (ts : List Placed) × (tokens_of bytes ≡ Ok ts) × (reading ts ≡ Ok s)
unfolding parsed
parsed_read bytes s is = tokens_read _ (tokens_of bytes) s is

-- bytes that are parsed are a statement of the grammar with the tree that they are parsed as
pub in_grammar : (bytes : List ℕ) (s : Statement) → parsed bytes ≡ Ok s → IsTextOf bytes s
in_grammar bytes s is =
    let (ts, cut, read) = parsed_read bytes s is in
    (ts, cut, subst (λ o. IsRight ts o) read (right ts))

-- what is answered for them
pub if_parsed : (bytes : List ℕ) (result : Result Statement ParseFail) → IsParsed (parsed bytes) result → IfOk result (λ s. IsTextOf bytes s)
if_parsed bytes (Ok s) is = in_grammar bytes s is
if_parsed bytes (Err fail) is = tt
