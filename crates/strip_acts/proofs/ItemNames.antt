-- The names of items are names of the grammar, those that are made of a number too.
use Rattle.std.proofs.Common.{◌≡◌, ℕ, ◌+◌, ◌<◌, ◌≤◌, ◌^◌, Bool, true, false, not, ◌&&◌, List, ◌++◌, length, codes, Option, Some, None, is_some, nat_le, nat_lt, slice_index, refl, ap, arith, length-append}
use Rattle.std.specs.Fmt.{decimal}
use Rattle.std.specs.List.{list_all}
use Rattle.std.proofs.lemmas.Bool.Decides.{nat_tests}
use Rattle.std.proofs.lemmas.Fmt.{length-decimal-le}
use Rattle.strip_value.specs.Name.{is_digit, is_word_byte}
use Rattle.strip_ast.specs.declared.expressions.Expr.{Expr, Number, Text, Column}
use Rattle.strip_ast.specs.declared.queries.ItemTree.{ItemTree}
use Rattle.strip_ast.specs.declared.queries.Total.{Total}
use Rattle.strip_ast.specs.declared.queries.Total.TheVariants as total
use Rattle.strip_ast.specs.Marks.{keyword_of}
use Rattle.strip_ast.specs.Tokens.{is_grammar_name, is_word}
use Rattle.strip_ast.specs.Written.{level}
use Rattle.strip_setup.specs.Queries.{item_name, own_name}
use Rattle.strip_setup.specs.Trees.{Two, Not}
use Rattle.strip_setup.proofs.Numbered.{numbered_is_name}
use Rattle.strip_acts.specs.Writable.{has_words, is_item, is_optional_name, is_total, opened, operators, parentheses}
use Rattle.strip_acts.proofs.Naming.{both_true}

-- ---- `item_` and a number

-- no keyword begins so
no_keyword : (ds : List ℕ) → keyword_of (codes "item_" ++ ds) ≡ None
unfolding keyword_of
no_keyword ds = refl

three_of_four : (a b c d : Bool) → (a && b && c && d) ≡ true → (a && c && d) ≡ true
three_of_four false b c d e = cc
three_of_four true false c d e = cc
three_of_four true true c d e = e

all_three : (a b c : Bool) → a ≡ true → b ≡ true → c ≡ true → (a && b && c) ≡ true
all_three a b c ea eb ec = cc

numbered_is_word : (n : ℕ) → n < 2 ^ 64 → is_word (codes "item_" ++ decimal n) ≡ true
numbered_is_word n small =
    let name = codes "item_" ++ decimal n in
    three_of_four (nat_lt 0 (length name)) (nat_le (length name) 40) (list_all is_word_byte name) (not (is_digit (slice_index name 0))) (numbered_is_name n small)

numbered_is_short : (n : ℕ) → n < 2 ^ 64 → nat_le (length (codes "item_" ++ decimal n)) 32 ≡ true
numbered_is_short n small = short (decimal n) (length-decimal-le 20 n (omega arith) (omega arith) small)
  where
    short : (ds : List ℕ) → length ds ≤ 20 → nat_le (length (codes "item_" ++ ds)) 32 ≡ true
    short ds few =
        let len : length (codes "item_" ++ ds) ≡ 5 + length ds = length-append (codes "item_") ds in
        grind (arith, nat_tests)

pub numbered_in_grammar : (n : ℕ) → n < 2 ^ 64 → is_grammar_name (codes "item_" ++ decimal n) ≡ true
numbered_in_grammar n small =
    let name = codes "item_" ++ decimal n in
    all_three (is_word name) (nat_le (length name) 32) (not (is_some (keyword_of name))) (numbered_is_word n small) (numbered_is_short n small) (ap (λ k. not (is_some k)) (no_keyword (decimal n)))

-- ---- items

-- the rest of what makes an expression one that can be written
abbrev IsRest : Expr → Bool
IsRest e = nat_le (operators e) 256 && nat_le (opened (nat_lt (level e) 0) (parentheses e)) 64

plain_named : (n : ℕ) (e : Expr) → n < 2 ^ 64 → has_words e ≡ true → is_grammar_name (own_name n (total.Plain e)) ≡ true
plain_named n (Number m) small words = numbered_in_grammar n small
plain_named n (Text t) small words = numbered_in_grammar n small
plain_named n (Column of name) small words = (both_true (is_optional_name of) (is_grammar_name name) words).1
plain_named n (Two o a b) small words = numbered_in_grammar n small
plain_named n (Not a) small words = numbered_in_grammar n small

own_named : (n : ℕ) (t : Total) → n < 2 ^ 64 → is_total t ≡ true → is_grammar_name (own_name n t) ≡ true
own_named n (total.Plain e) small is = plain_named n e small (both_true (has_words e) (IsRest e) is).0
own_named n (total.Sum e) small is = numbered_in_grammar n small
own_named n total.Count small is = numbered_in_grammar n small

named_or : (n : ℕ) (t : Total) (name : Option (List ℕ)) → n < 2 ^ 64 → is_total t ≡ true → is_optional_name name ≡ true → is_grammar_name (item_name (n, record { what = t; name = name })) ≡ true
named_or n t None small is optional = own_named n t small is
named_or n t (Some name) small is optional = optional

-- the name of an item that can be written can be written
pub item_named : (n : ℕ) (item : ItemTree) → n < 2 ^ 64 → is_item item ≡ true → is_grammar_name (item_name (n, item)) ≡ true
item_named n item small is =
    let both = both_true (is_total item.what) (is_optional_name item.name) is in
    named_or n item.what item.name small both.0 both.1
