-- The name of each number stands for that number.
use Rattle.std.proofs.Common.{◌≡◌, ℕ, zero, suc, ◌+◌, ◌<◌, true, false, cond, List, [], ◌∷◌, length, map, get_or, Some, position, bytes_eq, refl, ap, ◌∙◌, arith}
use Rattle.std.specs.List.{position_from}
use Rattle.std.proofs.lemmas.Iterator.Adapters.{position_from-zero}
use Rattle.std.proofs.lemmas.Slice.Eq.{bytes_eq-Decides}
use Rattle.strip_value.specs.declared.rules.Function.{Function}
use Rattle.strip_value.specs.declared.tables.TableDef.{TableDef}
use Rattle.strip_setup.specs.Catalog.{has_name}
use Rattle.strip_setup.specs.Resolve.{no_function}
use Rattle.strip_meaning.specs.Contents.{def_at}
use Rattle.strip_acts.specs.Laws.{AreApart}
use Rattle.strip_catalog.specs.Laws.{NamesStandForNumbers}
use Rattle.strip_catalog.proofs.OwnNames.{eq_turned, neither, own_names}

eq_itself : (name : List ℕ) → bytes_eq name name ≡ true
eq_itself name = (bytes_eq-Decides name name).1 refl

module _ {A : Type 0} (name_of : A → List ℕ) (default : A) where
  -- an item has another name than one that none has
  another : (xs : List A) (name : List ℕ) (k : ℕ) → has_name (map name_of xs) name ≡ false → k < length xs → bytes_eq (name_of (get_or xs k default)) name ≡ false
  another [] name k none lt = absurd (omega (arith, lt))
  another (x ∷ xs) name zero none lt = (neither (bytes_eq (name_of x) name) (has_name (map name_of xs) name) none).0
  another (x ∷ xs) name (suc k) none lt = another xs name k (neither (bytes_eq (name_of x) name) (has_name (map name_of xs) name) none).1 (omega (arith, lt))

  -- the search ends at the item whose name it looks for, not before
  found_from : (xs : List A) (i k : ℕ) → AreApart (map name_of xs) → k < length xs → position_from (λ x. bytes_eq (name_of x) (name_of (get_or xs k default))) i xs ≡ Some (i + k)
  found_from [] i k apart lt = absurd (omega (arith, lt))
  found_from (x ∷ xs) i zero apart lt =
      ap (λ b. cond b (Some i) (position_from (λ y. bytes_eq (name_of y) (name_of x)) (i + 1) xs)) (eq_itself (name_of x)) ∙ ap Some here
    where
      here : i ≡ i + 0
      here = omega arith
  found_from (x ∷ xs) i (suc k) apart lt =
      ap (λ b. cond b (Some i) (position_from (λ y. bytes_eq (name_of y) (name_of (get_or xs k default))) (i + 1) xs)) not_here ∙ found_from xs (i + 1) k apart.1 within ∙ ap Some moved
    where
      within : k < length xs
      within = omega (arith, lt)

      not_here : bytes_eq (name_of x) (name_of (get_or xs k default)) ≡ false
      not_here = eq_turned (name_of (get_or xs k default)) (name_of x) (another xs (name_of x) k apart.0 within)

      moved : (i + 1) + k ≡ i + suc k
      moved = omega arith

  found : (xs : List A) (id : ℕ) → AreApart (map name_of xs) → id < length xs → position (λ x. bytes_eq (name_of x) (name_of (get_or xs id default))) xs ≡ Some id
  found xs id apart lt = position_from-zero (λ x. bytes_eq (name_of x) (name_of (get_or xs id default))) xs ∙ found_from xs 0 id apart lt ∙ ap Some from_none
    where
      from_none : 0 + id ≡ id
      from_none = omega arith

pub own_numbers : NamesStandForNumbers
own_numbers catalog is =
    let own = own_names catalog is in
    record {
      tables = λ id lt. found (λ (table : TableDef). table.name) (def_at [] 0) catalog.tables id own.tables lt;
      functions = λ id lt. found (λ (function : Function). function.name) no_function catalog.functions id own.functions lt;
    }
