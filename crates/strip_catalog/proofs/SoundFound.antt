-- What a name and a column of a derived table's query stand for, where they are there.
use Rattle.std.proofs.Common.{◌≡◌, ℕ, suc, ◌+◌, ◌<◌, Bool, true, false, ◌&&◌, ◌==◌, cond, List, [], ◌∷◌, ◌++◌, length, get_or, Option, Some, None, find, is_some, bytes_eq, unwrap_or, refl, sym, ap, ap₂, ◌∙◌, subst, arith, inl, inr}
use Rattle.std.specs.List.{AllByRecursion, position_from}
use Rattle.std.specs.Option.{option_map, option_to_list}
use Rattle.std.proofs.Math.ListN.{get_or-map}
use Rattle.std.proofs.lemmas.Bool.{eqb-true}
use Rattle.std.proofs.lemmas.Iterator.Adapters.{position_from-zero}
use Rattle.strip_value.specs.declared.expressions.Calc.{Calc}
use Rattle.strip_value.specs.declared.expressions.Calc.TheVariants as calc
use Rattle.strip_value.specs.declared.kinds.Kind.{Kind}
use Rattle.strip_value.specs.declared.kinds.Kind.TheVariants as kind
use Rattle.strip_value.specs.declared.queries.Place.{Place}
use Rattle.strip_value.specs.declared.tables.ColumnDef.{ColumnDef}
use Rattle.strip_value.specs.declared.tables.TableDef.{TableDef}
use Rattle.strip_value.specs.Bounds.{column_kind}
use Rattle.strip_value.specs.Query.{is_column}
use Rattle.strip_value.specs.Trees as tree
use Rattle.strip_value.proofs.Lists.{all_at}
use Rattle.strip_ast.specs.declared.queries.ColTree.{ColTree}
use Rattle.strip_meaning.specs.Contents.{def_at}
use Rattle.strip_meaning.specs.Effect.{no_table}
use Rattle.strip_setup.specs.declared.scope.Entry.{Entry}
use Rattle.strip_setup.specs.Catalog.{column_number, first, table_id, table_named}
use Rattle.strip_setup.specs.Places.{is_clear}
use Rattle.strip_setup.specs.Queries.{is_meant, kinds_of, place_of}
use Rattle.strip_meaning.specs.First.{IsBase, is_stored}
use Rattle.strip_setup.proofs.Numbers.{column_below}
use Rattle.strip_kinds.specs.Mismatch.{is_text_kind}
use Rattle.strip_meaning.specs.First.{no_column}
use Rattle.strip_catalog.specs.Laws.{IsTableOf}

pub both_true : (a b : Bool) → (a && b) ≡ true → (a ≡ true) × (b ≡ true)
both_true true b e = (refl, e)
both_true false b e = cc

-- ---- tables

module _ {A : Type 0} (p : A → Bool) (d : A) where
  -- what a search finds stands at its number
  found_from : (xs : List A) (i : ℕ) (x : A) → find p xs ≡ Some x → (n : ℕ) × (position_from p i xs ≡ Some (i + n)) × (n < length xs) × (get_or xs n d ≡ x)
  found_from [] i x e = cc
  found_from (y ∷ ys) i x e = by_test (p y) refl e (found_from ys (i + 1) x)
    where
      by_test : (b : Bool) → p y ≡ b → cond b (Some y) (find p ys) ≡ Some x → (find p ys ≡ Some x → (n : ℕ) × (position_from p (i + 1) ys ≡ Some (i + 1 + n)) × (n < length ys) × (get_or ys n d ≡ x))
          → (n : ℕ) × (cond b (Some i) (position_from p (i + 1) ys) ≡ Some (i + n)) × (n < suc (length ys)) × (get_or (y ∷ ys) n d ≡ x)
      by_test true is here rest = let none : i ≡ i + 0 = omega arith in let some : 0 < suc (length ys) = omega arith in let same : y ≡ x = cc in (0, ap Some none, some, same)
      by_test false is here rest =
          let at = rest here in
          let moved : i + 1 + at.0 ≡ i + suc at.0 = omega arith in
          let within : suc at.0 < suc (length ys) = omega (arith, at.2) in
          (suc at.0, at.1 ∙ ap Some moved, within, at.3)

-- a table that is there
pub record IsAt (tables : List TableDef) (name : List ℕ) (table : TableDef) : Type 0 where
  pub there : table_id tables name < length tables
  pub is : def_at tables (table_id tables name) ≡ table

pub named_at : (tables : List TableDef) (name : List ℕ) (table : TableDef) → table_named tables name ≡ Some table → IsAt tables name table
named_at tables name table e =
    let by_name : TableDef → Bool = λ t. bytes_eq t.name name in
    let at = found_from by_name no_table.def tables 0 table e in
    let from_none : 0 + at.0 ≡ at.0 = omega arith in
    let number : table_id tables name ≡ at.0 = ap (λ o. unwrap_or o 0) (position_from-zero by_name tables ∙ at.1 ∙ ap Some from_none) in
    record { there = subst (λ n. n < length tables) (sym number) at.2; is = ap (def_at tables) number ∙ at.3 }

-- a table that isn't derived is a base table
pub base_named : (tables : List TableDef) (name : List ℕ) (table : TableDef) → AllByRecursion (IsTableOf tables) tables → table_named tables name ≡ Some table → is_some table.query ≡ false → IsBase table
base_named tables name table sound e stored = of_both (subst (IsTableOf tables) at.is (all_at (IsTableOf tables) tables (table_id tables name) no_table.def sound at.there))
  where
    at : IsAt tables name table
    at = named_at tables name table e

    of_both : IsTableOf tables table → IsBase table
    of_both (inl base) = base
    of_both (inr derived) = let query = derived.derived in cc

-- ---- columns

-- a column that is clear over one entry is a column of that one
pub record IsColumnOf (entry : Entry) (place : Place) : Type 0 where
  pub is : place ≡ record { entry = 0; column = place.column }
  pub there : place.column < length entry.columns

pub clear_column : (entry : Entry) (column : ColTree) → is_clear (entry ∷ []) column ≡ true → IsColumnOf entry (place_of (entry ∷ []) column.of column.name)
clear_column entry column clear = by_alias (is_meant column.of entry.alias) (column_number entry.columns column.name) refl clear
  where
    places : Bool → Option ℕ → List Place
    places meant number = cond meant (option_to_list (option_map (λ (c : ℕ). record { entry = 0; column = c }) number)) [] ++ []

    by_alias : (meant : Bool) (number : Option ℕ) → column_number entry.columns column.name ≡ number → length (places meant number) == 1 ≡ true → IsColumnOf entry (unwrap_or (first (places meant number)) (record { entry = 0; column = 0 }))
    by_alias false number is e = cc
    by_alias true None is e = cc
    by_alias true (Some n) is e = record { is = refl; there = column_below entry.columns column.name n is }

-- the place that an expression is
pub column_is : (place : Place) (e : Calc) → is_column place e ≡ true → e ≡ calc.Column place.entry place.column
column_is place (calc.Column entry column) e =
    let entry_is = eqb-true place.entry entry (both_true (place.entry == entry) (place.column == column) e).0 in
    let column_is = eqb-true place.column column (both_true (place.entry == entry) (place.column == column) e).1 in
    ap₂ calc.Column (sym entry_is) (sym column_is)
column_is place (calc.Number n) e = cc
column_is place (calc.Text t) e = cc
column_is place (tree.Add a b) e = cc
column_is place (tree.Sub a b) e = cc
column_is place (tree.Mul a b) e = cc

-- ---- kinds

-- the kind of a column of one entry
pub kind_at : (entry : Entry) (c : ℕ) → column_kind (kinds_of (entry ∷ [])) 0 c ≡ (get_or entry.columns c no_column).kind
kind_at entry c = get_or-map (λ (column : ColumnDef). column.kind) entry.columns c no_column

-- a stored kind that is no text is `int`
stored_int : (k : Kind) → is_stored k ≡ true → is_text_kind k ≡ false → k ≡ kind.Int
stored_int kind.Int stored number = refl
stored_int kind.Big stored number = cc
stored_int kind.Text stored number = cc

pub base_int : (table : TableDef) (c : ℕ) → IsBase table → c < length table.columns → is_text_kind (get_or table.columns c no_column).kind ≡ false → (get_or table.columns c no_column).kind ≡ kind.Int
base_int table c base there number =
    stored_int (get_or table.columns c no_column).kind (all_at (λ (column : ColumnDef). is_stored column.kind ≡ true) table.columns c no_column base.plain there) number
