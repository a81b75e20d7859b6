-- What a search by key finds.
use Rattle.std.specs.Prelude.{◌≡◌, ℕ, List, ◌∷◌, ◌++◌, length}
use Rattle.std.specs.List.{AllByRecursion}
use Rattle.std.specs.declared.cmp.Ordering.TheVariants.{Less, Equal, Greater}
use Rattle.strip_value.specs.declared.values.Value.{Value}
use Rattle.strip_value.specs.Order.{row_cmp}
use Rattle.strip_value.specs.Table.{key_of}

-- the row of the key stands at this place
pub record IsFoundAt (columns : List ℕ) (rows : List (List Value)) (key : List Value) (at : ℕ) : Type 0 where
  pub front : List (List Value)
  pub row : List Value
  pub back : List (List Value)
  pub split : rows ≡ front ++ row ∷ back
  pub place : length front ≡ at
  pub has_key : key_of columns row ≡ key

-- no row has the key, and those before this place are below it, the others above
pub record IsGapAt (columns : List ℕ) (rows : List (List Value)) (key : List Value) (at : ℕ) : Type 0 where
  pub front : List (List Value)
  pub back : List (List Value)
  pub split : rows ≡ front ++ back
  pub place : length front ≡ at
  pub below : AllByRecursion (λ row. row_cmp (key_of columns row) key ≡ Less) front
  pub above : AllByRecursion (λ row. row_cmp (key_of columns row) key ≡ Greater) back
