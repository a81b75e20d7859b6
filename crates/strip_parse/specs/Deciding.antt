-- With which tokens a grammar's lists begin and go on, so that the next token decides what is read.
use Rattle.std.specs.Prelude.{Bool, true, false, not, ◌&&◌, ◌||◌, List, [], ◌∷◌, ◌++◌}
use Rattle.std.specs.List.{list_all}
use Rattle.strip_ast.specs.declared.marks.Mark.{Mark as OneMark}
use Rattle.strip_ast.specs.declared.marks.Mark.TheVariants as m
use Rattle.strip_ast.specs.declared.token_types.Token.{Token}
use Rattle.strip_ast.specs.declared.token_types.Token.TheVariants as token
use Rattle.strip_ast.specs.declared.token_types.Placed.{Placed}
use Rattle.strip_ast.specs.Marks.{same_mark}
use Rattle.strip_ast.specs.Grammar.{Terminal, Grammar, mark, operator, name, number, caller, text, terminal, empty, made, both, either, many, commas, outermost, or_enclosed}

-- what decides: which keyword or symbol, or that it is a name, a number or a text
pub data Class : Type 0 where
  marks : OneMark → Class
  names : Class
  numbers : Class
  texts : Class

abbrev pub same_class : Class → Class → Bool
same_class (marks a) (marks b) = same_mark a b
same_class names names = true
same_class numbers numbers = true
same_class texts texts = true
same_class _ _ = false

abbrev pub token_class : Token → Class
token_class (token.Mark a) = marks a
token_class (token.Name a) = names
token_class (token.Number n) = numbers
token_class (token.Text t) = texts

abbrev pub terminal_class : {A : Type 0} → Terminal A → Class
terminal_class (mark a) = marks a
terminal_class (operator a) = marks a
terminal_class name = names
terminal_class number = numbers
terminal_class caller = numbers
terminal_class text = texts

abbrev pub has_class : Class → List Class → Bool
has_class c [] = false
has_class c (d ∷ ds) = same_class d c || has_class c ds

-- the first token is of one of these classes
abbrev pub begins_in : List Class → List Placed → Bool
begins_in cs [] = false
begins_in cs (p ∷ ps) = has_class (token_class p.token) cs

-- no class is in both
abbrev pub disjoint : List Class → List Class → Bool
disjoint cs ds = list_all (λ c. not (has_class c ds)) cs

abbrev pub classes_if : Bool → List Class → List Class
classes_if true cs = cs
classes_if false cs = []

-- the list of no tokens is in the grammar
abbrev pub nullable : {A : Type 0} → Grammar A → Bool
nullable (terminal t) = false
nullable (empty a) = true
nullable (made g f) = nullable g
nullable (both g h) = nullable g && nullable h
nullable (either g h) = nullable g || nullable h
nullable (many g) = true
nullable (commas g h) = true
nullable (outermost g) = nullable g
nullable (or_enclosed g) = nullable g

-- with which tokens the lists of the grammar begin
abbrev pub firsts : {A : Type 0} → Grammar A → List Class
firsts (terminal t) = terminal_class t ∷ []
firsts (empty a) = []
firsts (made g f) = firsts g
firsts (both g h) = firsts g ++ classes_if (nullable g) (firsts h)
firsts (either g h) = firsts g ++ firsts h
firsts (many g) = firsts g
firsts (commas g h) = marks m.Comma ∷ []
firsts (outermost g) = firsts g
firsts (or_enclosed g) = marks m.Open ∷ firsts g

-- which tokens, right behind a list of the grammar, are read as more of it
abbrev pub goes : {A : Type 0} → Grammar A → List Class
goes (terminal t) = []
goes (empty a) = []
goes (made g f) = goes g
goes (both g h) = goes h ++ classes_if (nullable h) (goes g)
goes (either g h) = goes g ++ (goes h ++ classes_if (nullable h) (firsts g))
goes (many g) = goes g ++ firsts g
goes (commas g h) = marks m.Comma ∷ (goes g ++ goes h)
goes (outermost g) = goes g
goes (or_enclosed g) = goes g

-- the next token decides
abbrev pub is_decided : {A : Type 0} → Grammar A → Bool
is_decided (terminal t) = true
is_decided (empty a) = true
is_decided (made g f) = is_decided g
is_decided (both g h) = is_decided g && (is_decided h && disjoint (goes g) (firsts h))
is_decided (either g h) = is_decided g && (is_decided h && (not (nullable g) && disjoint (firsts g) (firsts h)))
is_decided (many g) = is_decided g && (not (nullable g) && disjoint (goes g) (firsts g))
is_decided (commas g h) =
    is_decided g && (is_decided h && (not (nullable g) && (not (nullable h) && (disjoint (firsts h) (firsts g) && disjoint (goes g) (marks m.Comma ∷ [])))))
is_decided (outermost g) = is_decided g
is_decided (or_enclosed g) = is_decided g && (not (nullable g) && disjoint (marks m.Open ∷ []) (firsts g))
