-- Each keyword and each symbol has a byte, and a symbol that is found is no longer than the bytes.
use Rattle.std.proofs.Common.{◌≡◌, ℕ, ◌<◌, suc, Bool, true, false, ◌&&◌, List, [], ◌∷◌, length, Some, find, refl, lit<, ap, arith, take}
use Rattle.std.proofs.lemmas.List.{length-take}
use Rattle.std.specs.Cmp.Lexicographic.{pointwise}
use Rattle.std.specs.List.{starts_with}
use Rattle.strip_ast.specs.declared.marks.Mark.{Mark}
use Rattle.strip_ast.specs.declared.marks.Mark.TheVariants.{Add, After, And, As, At, Before, Begin, Bind, By, Commit, Count, Delete, Deleted, Derive, Evaluate, Execute, Finish, From, Function, Group, If, Insert, Inserted, Int, Into, Key, Limit, Maintain, Marked, New, Not, Old, On, Or, Pending, Put, Read, Ready, Redo, Return, Rule, Run, Select, Set, Show, Start, Stream, Sum, Table, Text, Then, Undo, Unique, Update, Updated, When, Where, Write, Unequal, AtMost, AtLeast, Open, Close, Comma, Dot, Star, Plus, Minus, Equal, Below, Above}
use Rattle.strip_ast.specs.Marks.{mark_text, symbol_of, symbols, nat_eq}
use Rattle.strip_ast.specs.Tokens.{HasSize}

pub mark_text_some : (mark : Mark) → 0 < length (mark_text mark)
mark_text_some Add = lit< tt
mark_text_some After = lit< tt
mark_text_some And = lit< tt
mark_text_some As = lit< tt
mark_text_some At = lit< tt
mark_text_some Before = lit< tt
mark_text_some Begin = lit< tt
mark_text_some Bind = lit< tt
mark_text_some By = lit< tt
mark_text_some Commit = lit< tt
mark_text_some Count = lit< tt
mark_text_some Delete = lit< tt
mark_text_some Deleted = lit< tt
mark_text_some Derive = lit< tt
mark_text_some Evaluate = lit< tt
mark_text_some Execute = lit< tt
mark_text_some Finish = lit< tt
mark_text_some From = lit< tt
mark_text_some Function = lit< tt
mark_text_some Group = lit< tt
mark_text_some If = lit< tt
mark_text_some Insert = lit< tt
mark_text_some Inserted = lit< tt
mark_text_some Int = lit< tt
mark_text_some Into = lit< tt
mark_text_some Key = lit< tt
mark_text_some Limit = lit< tt
mark_text_some Maintain = lit< tt
mark_text_some Marked = lit< tt
mark_text_some New = lit< tt
mark_text_some Not = lit< tt
mark_text_some Old = lit< tt
mark_text_some On = lit< tt
mark_text_some Or = lit< tt
mark_text_some Pending = lit< tt
mark_text_some Put = lit< tt
mark_text_some Read = lit< tt
mark_text_some Ready = lit< tt
mark_text_some Redo = lit< tt
mark_text_some Return = lit< tt
mark_text_some Rule = lit< tt
mark_text_some Run = lit< tt
mark_text_some Select = lit< tt
mark_text_some Set = lit< tt
mark_text_some Show = lit< tt
mark_text_some Start = lit< tt
mark_text_some Stream = lit< tt
mark_text_some Sum = lit< tt
mark_text_some Table = lit< tt
mark_text_some Text = lit< tt
mark_text_some Then = lit< tt
mark_text_some Undo = lit< tt
mark_text_some Unique = lit< tt
mark_text_some Update = lit< tt
mark_text_some Updated = lit< tt
mark_text_some When = lit< tt
mark_text_some Where = lit< tt
mark_text_some Write = lit< tt
mark_text_some Unequal = lit< tt
mark_text_some AtMost = lit< tt
mark_text_some AtLeast = lit< tt
mark_text_some Open = lit< tt
mark_text_some Close = lit< tt
mark_text_some Comma = lit< tt
mark_text_some Dot = lit< tt
mark_text_some Star = lit< tt
mark_text_some Plus = lit< tt
mark_text_some Minus = lit< tt
mark_text_some Equal = lit< tt
mark_text_some Below = lit< tt
mark_text_some Above = lit< tt

found_next : {X : Type 0} (p : X → Bool) (y x : X) (ys : List X) (b : Bool) → p y ≡ b → find p (y ∷ ys) ≡ Some x → (find p ys ≡ Some x → p x ≡ true) → p x ≡ true
found_next p y x ys true passes is later =
    let same : y ≡ x = cc (rw passes at is) in
    rw (← same) passes
found_next p y x ys false passes is later = later (rw passes at is)

find_passes : {X : Type 0} (p : X → Bool) (xs : List X) (x : X) → find p xs ≡ Some x → p x ≡ true
find_passes p [] x is = cc
find_passes p (y ∷ ys) x is = found_next p y x ys (p y) refl is (find_passes p ys x)

both_true : (a b : Bool) → (a && b) ≡ true → (a ≡ true) × (b ≡ true)
both_true true true is = (refl, refl)
both_true true false is = (refl, is)
both_true false b is = cc

pointwise_length : (xs ys : List ℕ) → pointwise nat_eq xs ys ≡ true → length xs ≡ length ys
pointwise_length [] [] is = refl
pointwise_length [] (y ∷ ys) is = cc
pointwise_length (x ∷ xs) [] is = cc
pointwise_length (x ∷ xs) (y ∷ ys) is = ap suc (pointwise_length xs ys (both_true _ _ is).1)

pub symbol_fits : (bytes : List ℕ) (mark : Mark) → symbol_of bytes ≡ Some mark → HasSize bytes (length (mark_text mark))
unfolding symbol_of
symbol_fits bytes mark is =
    let front = take (length (mark_text mark)) bytes in
    let same : length (mark_text mark) ≡ length front = pointwise_length (mark_text mark) front (find_passes (λ m. starts_with nat_eq bytes (mark_text m)) symbols mark is) in
    (mark_text_some mark, omega (arith, same, length-take (length (mark_text mark)) bytes))
