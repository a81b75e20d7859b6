-- A row that no cause keeps out of a table has its columns' kinds.
use Rattle.std.proofs.Common.{◌≡◌, ℕ, ◌+◌, ◌^◌, ◌<◌, ◌≤◌, Bool, true, false, not, ◌&&◌, cond, List, [], ◌∷◌, length, get_or, Option, Some, None, is_some, ℤ, pos, neg_ℤ, ◌≤ℤ◌, ◌<ℤ◌, inl, inr, refl, ap, sym, ◌∙◌, subst, arith, rules, tests}
use Rattle.std.specs.Prelude.{int_le, int_lt}
use Rattle.std.specs.List.{AllByRecursion}
use Rattle.std.proofs.Math.ListN.{get_or-map}
use Rattle.std.proofs.lemmas.List.{get_or_default, length-map}
use Rattle.strip_value.specs.declared.acts.ActError.{ActError}
use Rattle.strip_value.specs.declared.acts.ActError.TheVariants.{Derived, KindMismatch, OutOfRange}
use Rattle.strip_value.specs.declared.kinds.Kind.{Kind}
use Rattle.strip_value.specs.declared.kinds.Kind.TheVariants as kind
use Rattle.strip_value.specs.declared.tables.ColumnDef.{ColumnDef}
use Rattle.strip_value.specs.declared.tables.TableDef.{TableDef}
use Rattle.strip_value.specs.declared.values.Value.{Value}
use Rattle.strip_value.specs.declared.values.Value.TheVariants.{Int, Text}
use Rattle.strip_value.specs.Kinds.{Fits, FitsColumns}
use Rattle.strip_value.specs.Table.{Keyed}
use Rattle.strip_value.proofs.Lists.{all_at}
use Rattle.strip_meaning.specs.Effect.{is_alike, outside_at, kind_mismatch, out_of_range, misfit, derived, or_cause, table_at, no_table}
use Rattle.strip_value.specs.declared.queries.Query.{Query}
use Rattle.strip_meaning.specs.Contents.{def_at}
use Rattle.strip_meaning.specs.First.{IsBase, first_def, is_stored}
use Rattle.strip_engine.specs.Built.{IsTableOf}
use Rattle.strip_engine.specs.Steps.{AreTables, defs_of}

-- of two causes that aren't there neither is
pub neither : (a b : Option ActError) → or_cause a b ≡ None → (a ≡ None) × (b ≡ None)
neither None b e = (refl, e)
neither (Some x) b e = cc

within : (n : ℤ) → (le lt : Bool) → int_le (neg_ℤ (pos (2 ^ 31))) n ≡ le → int_lt n (pos (2 ^ 31)) ≡ lt → (c : ℕ) → cond (not (le && lt)) (Some (OutOfRange c n)) None ≡ None → (neg_ℤ (pos (2 ^ 31)) ≤ℤ n) × (n <ℤ pos (2 ^ 31))
within n true true a b c e = (search (tests, rules), search (tests, rules))
within n true false a b c e = cc
within n false lt a b c e = cc

fits_value : (k : Kind) (v : Value) (c : ℕ) → is_stored k ≡ true → is_alike k v ≡ true → outside_at c k v ≡ None → Fits k v
fits_value kind.Int (Int n) c p a o = within n (int_le (neg_ℤ (pos (2 ^ 31))) n) (int_lt n (pos (2 ^ 31))) refl refl c o
fits_value kind.Int (Text t) c p a o = cc
fits_value kind.Big v c p a o = cc
fits_value kind.Text (Int n) c p a o = cc
fits_value kind.Text (Text t) c p a o = tt

alike_from : (b : Bool) (c : ℕ) → cond b None (Some (KindMismatch c)) ≡ None → b ≡ true
alike_from true c e = refl
alike_from false c e = cc

-- values of the right kinds and in range fit plain columns
pub fits_columns : (c : ℕ) (columns : List ColumnDef) (row : List Value) → AllByRecursion (λ column. is_stored column.kind ≡ true) columns → kind_mismatch c columns row ≡ None → out_of_range c columns row ≡ None → FitsColumns columns row
fits_columns c [] [] plain k o = tt
fits_columns c [] (v ∷ vs) plain k o = cc
fits_columns c (d ∷ ds) [] plain k o = cc
fits_columns c (d ∷ ds) (v ∷ vs) plain k o =
    let kinds = neither (cond (is_alike d.kind v) None (Some (KindMismatch c))) (kind_mismatch (c + 1) ds vs) k in
    let ranges = neither (outside_at c d.kind v) (out_of_range (c + 1) ds vs) o in
    (fits_value d.kind v c plain.0 (alike_from (is_alike d.kind v) c kinds.0) ranges.0, fits_columns (c + 1) ds vs plain.1 kinds.1 ranges.1)

-- a row with no misfit has the kinds of a base table
pub fits_base : (def : TableDef) (row : List Value) → IsBase def → misfit def.columns row ≡ None → FitsColumns def.columns row
fits_base def row base none =
    let both = neither (kind_mismatch 1 def.columns row) (out_of_range 1 def.columns row) none in
    fits_columns 1 def.columns row base.plain both.0 both.1

-- the definition of a table among its tables'
pub def_of_table : (tables : List Keyed) (id : ℕ) → def_at (defs_of tables) id ≡ (table_at tables id).def
def_of_table tables id = get_or-map (λ table. table.def) tables id no_table

-- a table among the tables is a base table or a derived one
pub one_of : (tables : List Keyed) (id : ℕ) → AreTables (defs_of tables) → id < length tables → IsTableOf (defs_of tables) (table_at tables id).def
one_of tables id are lt =
    subst (IsTableOf (defs_of tables)) (def_of_table tables id) (all_at (IsTableOf (defs_of tables)) (defs_of tables) id no_table.def are (omega (arith, length-map tables (λ (table : Keyed). table.def))))

-- one without a query has few columns
pub narrow : (defs : List TableDef) (def : TableDef) → IsTableOf defs def → def.query ≡ None → length def.columns ≤ 16
narrow defs def (inl base) none = base.narrow
narrow defs def (inr (inl first)) none = subst (λ (d : TableDef). length d.columns ≤ 16) (sym first.is) (omega arith)
narrow defs def (inr (inr unkept)) none =
    let bare : is_some def.query ≡ false = ap is_some none in
    let derived_here = unkept.derived in
    cc

no_query : (q : Option Query) (id : ℕ) → cond (is_some q) (Some (Derived id)) None ≡ None → q ≡ None
no_query None id e = refl
no_query (Some q) id e = cc

-- a table that isn't derived is a base table
pub is_base : (defs : List TableDef) (def : TableDef) (id : ℕ) → IsTableOf defs def → derived def id ≡ None → IsBase def
is_base defs def id (inl base) none = base
is_base defs def id (inr (inl first)) none =
    let bare : (first_def def.name first.form first.kind def.kept def.declared).query ≡ None = sym (ap (λ (d : TableDef). d.query) first.is) ∙ no_query def.query id none in
    cc
is_base defs def id (inr (inr unkept)) none =
    let bare : is_some def.query ≡ false = ap is_some (no_query def.query id none) in
    let derived_here = unkept.derived in
    cc

-- what indexing the tables gives
pub table_read : (tables : List Keyed) (id at : ℕ) (table : Keyed) → id < length tables → at ≡ id → table ≡ get_or tables at table → table ≡ table_at tables id
table_read tables id at table lt same read =
    let within : at < length tables = omega arith in
    read ∙ get_or_default tables at table no_table within ∙ ap (table_at tables) same
