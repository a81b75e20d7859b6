-- Tables by their names and by their numbers, and what is made of a derived one.
use Rattle.std.proofs.Common.{◌≡◌, ℕ, zero, suc, ◌<◌, ◌≤◌, Bool, true, false, cond, List, [], ◌∷◌, length, get_or, Option, Some, None, find, position, is_some, slice_get, unwrap_or, bytes_eq, nat_lt, refl, sym, ap, ◌∙◌, arith}
use Rattle.std.specs.List.{position_or_len}
use Rattle.std.proofs.lemmas.Bool.Decides.{nat_tests}
use Rattle.std.proofs.lemmas.List.Folds.{find_at}
use Rattle.std.proofs.lemmas.List.Quantifiers.{position-Some}
use Rattle.std.proofs.lemmas.Option.{slice_get-get_or, slice_get_past}
use Rattle.std.proofs.lemmas.Slice.Eq.{bytes_eq-Decides}
use Rattle.strip_value.specs.declared.queries.Query.{Query}
use Rattle.strip_value.specs.declared.tables.By.{By}
use Rattle.strip_value.specs.declared.tables.By.TheVariants as by
use Rattle.strip_value.specs.declared.tables.TableDef.{TableDef}
use Rattle.strip_meaning.specs.Contents.{def_at}
use Rattle.strip_meaning.specs.Effect.{no_table}
use Rattle.strip_meaning.specs.Maintained.{Manner}
use Rattle.strip_setup.specs.Catalog.{is_derived, table_id, table_named, table_number}
use Rattle.strip_setup.specs.Maintain.{function_name, made_function, made_rule, rule_name}

-- ---- numbers

module _ {A : Type 0} (test : A → Bool) (xs : List A) where
  -- what is found stands at the number that is found
  at_number : (id : ℕ) → position test xs ≡ Some id → find test xs ≡ slice_get xs id
  at_number id e = by_test (nat_lt (position_or_len test xs) (length xs)) e
    where
      by_test : (b : Bool) → cond b (Some (position_or_len test xs)) None ≡ Some id → find test xs ≡ slice_get xs id
      by_test true is = find_at test xs ∙ ap (slice_get xs) (some_is is)
        where
          some_is : Some (position_or_len test xs) ≡ Some id → position_or_len test xs ≡ id
          some_is same = cc
      by_test false is = cc

  -- nothing is found, or a number is
  none_or_number : (find test xs ≡ None → ⊥) → (id : ℕ) × (position test xs ≡ Some id)
  none_or_number there = by_test (nat_lt (position_or_len test xs) (length xs)) refl
    where
      by_test : (b : Bool) → nat_lt (position_or_len test xs) (length xs) ≡ b → (id : ℕ) × (cond b (Some (position_or_len test xs)) None ≡ Some id)
      by_test true is = (position_or_len test xs, refl)
      by_test false is =
          let past : length xs ≤ position_or_len test xs = grind (arith, nat_tests) in
          absurd (there (find_at test xs ∙ slice_get_past xs (position_or_len test xs) past))

-- the table that has a number
pub there : (tables : List TableDef) (id : ℕ) → is_derived (slice_get tables id) ≡ true → id < length tables
there [] id e = cc
there (table ∷ tables) zero e = omega arith
there (table ∷ tables) (suc id) e = let rest = there tables id e in omega (arith, rest)

pub at_id : (tables : List TableDef) (id : ℕ) → id < length tables → slice_get tables id ≡ Some (def_at tables id)
at_id tables id lt = slice_get-get_or tables id no_table.def lt

-- one with a query is derived
pub derived_at : (tables : List TableDef) (id : ℕ) (table : TableDef) (query : Query) → id < length tables → table ≡ get_or tables id table → table.query ≡ Some query → is_derived (slice_get tables id) ≡ true
derived_at tables id table query lt is has = ap is_derived (slice_get-get_or tables id table lt ∙ ap Some (sym is)) ∙ ap is_some has

-- its name stands for it
pub id_named : (tables : List TableDef) (id : ℕ) → table_number tables (def_at tables id).name ≡ Some id → table_id tables (def_at tables id).name ≡ id
id_named tables id e = ap (λ number. unwrap_or number 0) e

pub def_named : (tables : List TableDef) (id : ℕ) → id < length tables → table_number tables (def_at tables id).name ≡ Some id → table_named tables (def_at tables id).name ≡ Some (def_at tables id)
def_named tables id lt e = at_number (λ (table : TableDef). bytes_eq table.name (def_at tables id).name) tables id e ∙ at_id tables id lt

-- a derived table has the name by which it is looked for
pub own_name : (tables : List TableDef) (name : List ℕ) → is_derived (table_named tables name) ≡ true → (def_at tables (table_id tables name)).name ≡ name
own_name tables name derived =
    let test : TableDef → Bool = λ table. bytes_eq table.name name in
    let number = none_or_number test tables (λ none. not_none (table_named tables name) derived none) in
    let id : table_id tables name ≡ number.0 = ap (λ (o : Option ℕ). unwrap_or o 0) number.1 in
    let found = position-Some test tables number.0 no_table.def number.1 in
    ap (λ k. (def_at tables k).name) id ∙ (bytes_eq-Decides (def_at tables number.0).name name).0 found.1
  where
    not_none : (o : Option TableDef) → is_derived o ≡ true → o ≡ None → ⊥
    not_none None is e = cc
    not_none (Some table) is e = cc

-- ---- the names of what is made

pub made_function_name : (how : By) (table : TableDef) (id : ℕ) → (made_function how table id).name ≡ function_name table.name
made_function_name by.Sum table id = refl
made_function_name by.Key table id = refl

pub made_rule_name : (how : By) (table : TableDef) (function : ℕ) (manner : Manner) → (made_rule how table function manner).name ≡ rule_name table.name
made_rule_name by.Sum table function manner = refl
made_rule_name by.Key table function manner = refl

-- the function has one bound table
pub made_bound : (how : By) (table : TableDef) (id : ℕ) → length (made_function how table id).bound ≡ 1
made_bound by.Sum table id = refl
made_bound by.Key table id = refl
