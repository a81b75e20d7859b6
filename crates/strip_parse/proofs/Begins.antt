-- What the first token of a list decides.
use Rattle.std.proofs.Common.{◌≡◌, Bool, true, false, not, ◌&&◌, ◌||◌, List, [], ◌∷◌, ◌++◌, Some, ◌⊎◌, inl, inr, refl, sym, ◌∙◌, ap}
use Rattle.std.proofs.lemmas.Slice.Eq.{bytes_eq-Decides}
use Rattle.strip_ast.specs.declared.token_types.Token.{Token}
use Rattle.strip_ast.specs.declared.token_types.Token.TheVariants as token
use Rattle.strip_ast.specs.declared.token_types.Placed.{Placed}
use Rattle.strip_ast.specs.Marks.{mark_text, same_mark}
use Rattle.strip_ast.specs.Grammar.{Terminal, mark, operator, name, number, caller, text, takes, some_if}
use Rattle.strip_parse.specs.Deciding.{Class, marks, names, numbers, texts, same_class, token_class, terminal_class, has_class, begins_in, disjoint}
use Rattle.strip_parse.specs.Reading.{behind}

pub both_true : (a b : Bool) → (a && b) ≡ true → (a ≡ true) × (b ≡ true)
both_true true true is = (refl, refl)
both_true true false is = (refl, is)
both_true false b is = cc

pub not_true : (a : Bool) → not a ≡ true → a ≡ false
not_true true is = sym is
not_true false is = refl

or_left : (a b : Bool) → a ≡ true → (a || b) ≡ true
or_left true b is = refl
or_left false b is = cc

or_right : (a b : Bool) → b ≡ true → (a || b) ≡ true
or_right true b is = refl
or_right false b is = is

or_none : (a b : Bool) → (a || b) ≡ false → (a ≡ false) × (b ≡ false)
or_none true b is = cc
or_none false b is = (refl, is)

or_assoc : (a b c : Bool) → ((a || b) || c) ≡ (a || (b || c))
or_assoc true b c = refl
or_assoc false b c = refl

or_true : (a b : Bool) → (a || b) ≡ true → (a ≡ true) ⊎ (b ≡ true)
or_true true b is = inl refl
or_true false b is = inr is

has_append : (c : Class) (cs ds : List Class) → has_class c (cs ++ ds) ≡ (has_class c cs || has_class c ds)
has_append c [] ds = refl
has_append c (d ∷ cs) ds = rw (has_append c cs ds) (sym (or_assoc (same_class d c) (has_class c cs) (has_class c ds)))

through_names : (a b : Class) → same_class a names ≡ true → same_class b names ≡ true → same_class b a ≡ true
through_names names names ac bc = refl
through_names names (marks b) ac bc = cc
through_names names numbers ac bc = cc
through_names names texts ac bc = cc
through_names (marks a) b ac bc = cc
through_names numbers b ac bc = cc
through_names texts b ac bc = cc

through_numbers : (a b : Class) → same_class a numbers ≡ true → same_class b numbers ≡ true → same_class b a ≡ true
through_numbers numbers numbers ac bc = refl
through_numbers numbers (marks b) ac bc = cc
through_numbers numbers names ac bc = cc
through_numbers numbers texts ac bc = cc
through_numbers (marks a) b ac bc = cc
through_numbers names b ac bc = cc
through_numbers texts b ac bc = cc

through_texts : (a b : Class) → same_class a texts ≡ true → same_class b texts ≡ true → same_class b a ≡ true
through_texts texts texts ac bc = refl
through_texts texts (marks b) ac bc = cc
through_texts texts names ac bc = cc
through_texts texts numbers ac bc = cc
through_texts (marks a) b ac bc = cc
through_texts names b ac bc = cc
through_texts numbers b ac bc = cc

-- a class that is the same as one that is the same as another
same_through : (a b c : Class) → same_class a c ≡ true → same_class b c ≡ true → same_class b a ≡ true
same_through (marks a) (marks b) (marks c) ac bc =
    let one = (bytes_eq-Decides (mark_text a) (mark_text c)).0 ac in
    let two = (bytes_eq-Decides (mark_text b) (mark_text c)).0 bc in
    (bytes_eq-Decides (mark_text b) (mark_text a)).1 (two ∙ sym one)
same_through a b names ac bc = through_names a b ac bc
same_through a b numbers ac bc = through_numbers a b ac bc
same_through a b texts ac bc = through_texts a b ac bc
same_through names b (marks c) ac bc = cc
same_through numbers b (marks c) ac bc = cc
same_through texts b (marks c) ac bc = cc
same_through (marks a) names (marks c) ac bc = cc
same_through (marks a) numbers (marks c) ac bc = cc
same_through (marks a) texts (marks c) ac bc = cc

has_same : (a c : Class) (ds : List Class) → same_class a c ≡ true → has_class c ds ≡ true → has_class a ds ≡ true
has_same a c [] same is = is
has_same a c (d ∷ ds) same is =
    elim (or_true (same_class d c) (has_class c ds) is) [
      | inl here ↦ or_left _ _ (same_through a d c same here)
      | inr there ↦ or_right _ _ (has_same a c ds same there)
    ]

apart_one : (c a : Class) (cs ds : List Class) (b : Bool) → same_class a c ≡ b → has_class a ds ≡ false → has_class c ds ≡ true → has_class c cs ≡ false → (same_class a c || has_class c cs) ≡ false
apart_one c a cs ds false e out is rest = rw e rest
apart_one c a cs ds true e out is rest = cc (has_same a c ds e is)

apart_classes : (c : Class) (cs ds : List Class) → disjoint cs ds ≡ true → has_class c ds ≡ true → has_class c cs ≡ false
apart_classes c [] ds apart is = refl
apart_classes c (a ∷ cs) ds apart is =
    apart_one c a cs ds (same_class a c) refl (not_true _ (both_true _ _ apart).0) is (apart_classes c cs ds (both_true _ _ apart).1 is)

-- tokens of one set of classes don't begin in another
pub apart_begins : (cs ds : List Class) (ts : List Placed) → disjoint cs ds ≡ true → begins_in ds ts ≡ true → begins_in cs ts ≡ false
apart_begins cs ds [] apart is = refl
apart_begins cs ds (p ∷ ps) apart is = apart_classes (token_class p.token) cs ds apart is

pub begins_append : (cs ds : List Class) (ts : List Placed) → begins_in (cs ++ ds) ts ≡ (begins_in cs ts || begins_in ds ts)
begins_append cs ds [] = refl
begins_append cs ds (p ∷ ps) = has_append (token_class p.token) cs ds

pub begins_none : (cs ds : List Class) (ts : List Placed) → begins_in (cs ++ ds) ts ≡ false → (begins_in cs ts ≡ false) × (begins_in ds ts ≡ false)
begins_none cs ds ts is = or_none _ _ (sym (begins_append cs ds ts) ∙ is)

pub begins_left : (cs ds : List Class) (ts : List Placed) → begins_in cs ts ≡ true → begins_in (cs ++ ds) ts ≡ true
begins_left cs ds ts is = begins_append cs ds ts ∙ or_left _ _ is

pub begins_right : (cs ds : List Class) (ts : List Placed) → begins_in ds ts ≡ true → begins_in (cs ++ ds) ts ≡ true
begins_right cs ds ts is = begins_append cs ds ts ∙ or_right _ _ is

-- the first token alone decides
pub begins_alike : (cs : List Class) (u w z : List Placed) (x : Placed) → begins_in cs (u ++ x ∷ w) ≡ begins_in cs (u ++ x ∷ z)
begins_alike cs [] w z x = refl
begins_alike cs (p ∷ u) w z x = refl

some_if_true : (b : Bool) (a : Unit {0}) → some_if b ≡ Some a → b ≡ true
some_if_true true a is = refl
some_if_true false a is = cc

-- a token that is taken is of the terminal's class
pub taken_class : {A : Type 0} (t : Terminal A) (x : Token) (a : A) → takes t x ≡ Some a → has_class (token_class x) (terminal_class t ∷ []) ≡ true
taken_class (mark b) (token.Mark c) a is = or_left _ _ (some_if_true (same_mark b c) a is)
taken_class (mark b) (token.Name c) a is = cc
taken_class (mark b) (token.Number c) a is = cc
taken_class (mark b) (token.Text c) a is = cc
taken_class (operator b) (token.Mark c) a is = or_left _ _ (some_if_true (same_mark b c) a is)
taken_class (operator b) (token.Name c) a is = cc
taken_class (operator b) (token.Number c) a is = cc
taken_class (operator b) (token.Text c) a is = cc
taken_class name (token.Mark c) a is = cc
taken_class name (token.Name c) a is = refl
taken_class name (token.Number c) a is = cc
taken_class name (token.Text c) a is = cc
taken_class number (token.Mark c) a is = cc
taken_class number (token.Name c) a is = cc
taken_class number (token.Number c) a is = refl
taken_class number (token.Text c) a is = cc
taken_class caller (token.Mark c) a is = cc
taken_class caller (token.Name c) a is = cc
taken_class caller (token.Number c) a is = refl
taken_class caller (token.Text c) a is = cc
taken_class text (token.Mark c) a is = cc
taken_class text (token.Name c) a is = cc
taken_class text (token.Number c) a is = cc
taken_class text (token.Text c) a is = refl

-- a list of a grammar is empty, or begins with one of its first tokens
pub data Starts (n : Bool) (cs : List Class) (u : List Placed) : Type 0 where
  none : u ≡ [] → n ≡ true → Starts n cs u
  first : ((w : List Placed) → begins_in cs (u ++ w) ≡ true) → Starts n cs u

mark_split_at : (b : _) (x : Token) → has_class (token_class x) (marks b ∷ []) ≡ true → takes (mark b) x ≡ Some tt
mark_split_at b (token.Mark c) is = by_test (same_mark b c) is
  where
    by_test : (e : Bool) → (e || false) ≡ true → some_if e ≡ Some tt
    by_test true is = refl
    by_test false is = cc
mark_split_at b (token.Name c) is = cc
mark_split_at b (token.Number c) is = cc
mark_split_at b (token.Text c) is = cc

-- a list that begins with a mark
pub mark_split : (b : _) (ts : List Placed) → begins_in (marks b ∷ []) ts ≡ true → (p : Placed) × (ts ≡ p ∷ behind ts) × (takes (mark b) p.token ≡ Some tt)
mark_split b [] is = cc
mark_split b (p ∷ ps) is = (p, refl, mark_split_at b p.token is)

or_false : (b : Bool) → b ≡ (b || false)
or_false true = refl
or_false false = refl

-- the classes one by one
pub begins_cons : (c d : Class) (ds : List Class) (ts : List Placed) → begins_in (c ∷ d ∷ ds) ts ≡ (begins_in (c ∷ []) ts || begins_in (d ∷ ds) ts)
begins_cons c d ds [] = refl
begins_cons c d ds (p ∷ ps) = ap (λ b. b || has_class (token_class p.token) (d ∷ ds)) (or_false (same_class c (token_class p.token)))
