-- The stored entries of a bag, and what a search among them finds.
use Rattle.std.specs.Prelude.{◌≡◌, ℕ, List, ◌∷◌, ◌++◌, length, map}
use Rattle.std.specs.List.{AllByRecursion}
use Rattle.std.specs.declared.cmp.Ordering.TheVariants.{Less, Greater}
use Rattle.strip_value.specs.declared.values.Value.{Value}
use Rattle.strip_value.specs.Order.{row_cmp}
use Rattle.strip_value.specs.Bag.{Counted}
use Rattle.strip_bag.specs.declared.bag.Entry.{Entry}

abbrev pub as_counted : Entry → Counted
as_counted e = record { row = e.row; count = e.count }

-- the entries as rows with counts
abbrev pub counted : List Entry → List Counted
counted = map as_counted

-- the entry of the row stands at this place
pub record IsEntryAt (entries : List Entry) (row : List Value) (at : ℕ) : Type 0 where
  pub front : List Entry
  pub entry : Entry
  pub back : List Entry
  pub split : entries ≡ front ++ entry ∷ back
  pub place : length front ≡ at
  pub has_row : entry.row ≡ row

-- no entry has the row, and those before this place are below it, the others above
pub record IsEntryGap (entries : List Entry) (row : List Value) (at : ℕ) : Type 0 where
  pub front : List Entry
  pub back : List Entry
  pub split : entries ≡ front ++ back
  pub place : length front ≡ at
  pub below : AllByRecursion (λ e. row_cmp e.row row ≡ Less) front
  pub above : AllByRecursion (λ e. row_cmp e.row row ≡ Greater) back
