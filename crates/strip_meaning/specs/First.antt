-- Base tables, and derived tables of the first form over them: a group column, a sum and a count.
use Rattle.std.specs.Prelude.{◌≡◌, ℕ, ◌<◌, ◌≤◌, Bool, true, false, List, [], ◌∷◌, get_or, length, Option, Some, None}
use Rattle.std.specs.List.{AllByRecursion}
use Rattle.std.specs.Str.{bytes_eq}
use Rattle.strip_value.specs.declared.expressions.Calc.TheVariants.{Column}
use Rattle.strip_value.specs.declared.expressions.Test.TheVariants.{True}
use Rattle.strip_value.specs.declared.kinds.Kind.{Kind}
use Rattle.strip_value.specs.declared.kinds.Kind.TheVariants as kind
use Rattle.strip_value.specs.declared.queries.Input.TheVariants as input
use Rattle.strip_value.specs.declared.queries.Query.{Query}
use Rattle.strip_value.specs.declared.queries.What.TheVariants.{Plain, Sum, Count}
use Rattle.strip_value.specs.declared.tables.By.{By}
use Rattle.strip_value.specs.declared.tables.ColumnDef.{ColumnDef}
use Rattle.strip_value.specs.declared.tables.TableDef.{TableDef}
use Rattle.strip_meaning.specs.Contents.{def_at}

-- ---- base tables

-- a kind of a base table's columns
abbrev pub is_stored : Kind → Bool
is_stored kind.Int = true
is_stored kind.Big = false
is_stored kind.Text = true

-- a limit of a base table
abbrev pub IsLimit : Option ℕ → Type 0
IsLimit None = ⊥
IsLimit (Some limit) = (0 < limit) × (limit ≤ 1048576)

-- a base table: at most 16 columns, which are `int` or `text`, its key columns among them, and a limit
pub record IsBase (def : TableDef) : Type 0 where
  pub narrow : length def.columns ≤ 16
  pub plain : AllByRecursion (λ column. is_stored column.kind ≡ true) def.columns
  pub key : AllByRecursion (λ column. column < length def.columns) def.key
  pub limit : IsLimit def.limit
  pub stored : def.query ≡ None
  pub unkept : def.declared ≡ false

-- ---- the first form

-- what a derived table of it is made of: the number of its base table, the columns of that one that it groups by and sums, and
-- the names of its own columns
pub record Form : Type 0 where
  pub source : ℕ
  pub group : ℕ
  pub value : ℕ
  pub group_name : List ℕ
  pub sum_name : List ℕ
  pub count_name : List ℕ

-- select G, sum(V) as S, count(*) as N from T group by G
abbrev pub first_query : Form → Query
first_query form = record {
  items = record { name = form.group_name; what = Plain (Column 0 form.group) } ∷ record { name = form.sum_name; what = Sum (Column 0 form.value) } ∷ record { name = form.count_name; what = Count } ∷ [];
  entries = input.Table form.source ∷ [];
  filter = True;
  group = Some (record { entry = 0; column = form.group } ∷ []);
}

-- its definition: the group column has the kind of the base table's
abbrev pub first_def : List ℕ → Form → Kind → Option By → Bool → TableDef
first_def name form k kept declared = record {
  name = name;
  columns = record { name = form.group_name; kind = k } ∷ record { name = form.sum_name; kind = kind.Big } ∷ record { name = form.count_name; kind = kind.Big } ∷ [];
  key = 0 ∷ [];
  limit = None;
  query = Some (first_query form);
  kept = kept;
  declared = declared;
}

abbrev pub no_column : ColumnDef
no_column = record { name = []; kind = kind.Text }

-- the columns are those of the base table, and what is summed is an `int`
pub record Suits (columns : List ColumnDef) (form : Form) (k : Kind) : Type 0 where
  pub group_there : form.group < length columns
  pub value_there : form.value < length columns
  pub group_kind : (get_or columns form.group no_column).kind ≡ k
  pub value_kind : (get_or columns form.value no_column).kind ≡ kind.Int

-- its columns have three names
pub record NamesDiffer (form : Form) : Type 0 where
  pub sum : bytes_eq form.group_name form.sum_name ≡ false
  pub count : bytes_eq form.group_name form.count_name ≡ false
  pub totals : bytes_eq form.sum_name form.count_name ≡ false

-- a derived table of the first form over a base table among these
pub record IsFirst (defs : List TableDef) (def : TableDef) : Type 0 where
  pub form : Form
  pub kind : Kind
  pub there : form.source < length defs
  pub base : IsBase (def_at defs form.source)
  pub suits : Suits (def_at defs form.source).columns form kind
  pub differ : NamesDiffer form
  pub is : def ≡ first_def def.name form kind def.kept def.declared
