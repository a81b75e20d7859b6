-- The trees that acts are written as: names in place of numbers. The entries of a query are called e1, e2, e3, each of its
-- columns stands behind the name of its entry, and each item has a name. The columns of an update or a delete stand alone.
use Rattle.std.specs.Prelude.{ℕ, ◌+◌, pos, Bool, true, false, if◌then◌else◌, List, [], ◌∷◌, ◌++◌, codes, map, get_or, Option, Some, None, option_map}
use Rattle.std.specs.Fmt.{decimal}
use Rattle.std.specs.List.{enumerate_from}
use Rattle.strip_value.specs.declared.acts.Act.{Act}
use Rattle.strip_value.specs.declared.acts.Act.TheVariants as act
use Rattle.strip_value.specs.declared.expressions.Calc.{Calc}
use Rattle.strip_value.specs.declared.expressions.Calc.TheVariants as calc
use Rattle.strip_value.specs.declared.expressions.Cmp.{Cmp}
use Rattle.strip_value.specs.declared.expressions.Cmp.TheVariants as cmp
use Rattle.strip_value.specs.declared.expressions.Test.{Test}
use Rattle.strip_value.specs.declared.expressions.Test.TheVariants as test
use Rattle.strip_value.specs.declared.kinds.Kind.TheVariants as kind
use Rattle.strip_value.specs.declared.queries.Input.{Input}
use Rattle.strip_value.specs.declared.queries.Input.TheVariants as input
use Rattle.strip_value.specs.declared.queries.Item.{Item}
use Rattle.strip_value.specs.declared.queries.Place.{Place}
use Rattle.strip_value.specs.declared.queries.Query.{Query}
use Rattle.strip_value.specs.declared.queries.Set.{Set}
use Rattle.strip_value.specs.declared.queries.What.{What}
use Rattle.strip_value.specs.declared.queries.What.TheVariants as what
use Rattle.strip_value.specs.declared.tables.ColumnDef.{ColumnDef}
use Rattle.strip_value.specs.declared.tables.TableDef.{TableDef}
use Rattle.strip_value.specs.Trees as tree
use Rattle.strip_ast.specs.declared.deeds.Deed.{Deed}
use Rattle.strip_ast.specs.declared.deeds.Deed.TheVariants as deed
use Rattle.strip_ast.specs.declared.deeds.SetTree.{SetTree}
use Rattle.strip_ast.specs.declared.expressions.Expr.{Expr, Number, Text, Column}
use Rattle.strip_ast.specs.declared.expressions.Op.{Op}
use Rattle.strip_ast.specs.declared.expressions.Op.TheVariants as op
use Rattle.strip_ast.specs.declared.queries.ColTree.{ColTree}
use Rattle.strip_ast.specs.declared.queries.EntryTree.{EntryTree}
use Rattle.strip_ast.specs.declared.queries.ItemTree.{ItemTree}
use Rattle.strip_ast.specs.declared.queries.Origin.{Origin}
use Rattle.strip_ast.specs.declared.queries.Origin.TheVariants as origin
use Rattle.strip_ast.specs.declared.queries.QueryTree.{QueryTree}
use Rattle.strip_ast.specs.declared.queries.Total.{Total}
use Rattle.strip_ast.specs.declared.queries.Total.TheVariants as total
use Rattle.strip_meaning.specs.Contents.{def_at}
use Rattle.strip_setup.specs.declared.scope.Entry.{Entry}
use Rattle.strip_setup.specs.Trees.{Two, Not}

-- ---- entries

-- the name of an entry, counted from 0: e1, e2, e3
abbrev pub alias_at : ℕ → List ℕ
alias_at n = codes "e" ++ decimal (n + 1)

-- the columns that an entry has: those of a table; nothing else stands in an act
abbrev pub input_columns : List TableDef → Input → List ColumnDef
input_columns tables (input.Table id) = (def_at tables id).columns
input_columns tables _ = []

-- entries of these columns, under their names or without any
abbrev pub entries_of : Bool → List (List ColumnDef) → List Entry
entries_of named columns =
    map (λ (numbered : ℕ × List ColumnDef). record { alias = if named then Some (alias_at numbered.0) else None; columns = numbered.1 }) (enumerate_from 0 columns)

-- the entries of a query
abbrev pub named_entries : List TableDef → List Input → List Entry
named_entries tables inputs = entries_of true (map (input_columns tables) inputs)

-- the table of an update or a delete, whose columns stand alone
abbrev pub bare_entry : TableDef → List Entry
bare_entry table = entries_of false (table.columns ∷ [])

-- ---- expressions

abbrev pub no_entry : Entry
no_entry = record { alias = None; columns = [] }

abbrev pub no_column : ColumnDef
no_column = record { name = []; kind = kind.Text }

-- the name of a column of an entry
abbrev pub column_name : List Entry → ℕ → ℕ → List ℕ
column_name entries entry column = (get_or (get_or entries entry no_entry).columns column no_column).name

abbrev pub expr_of : List Entry → Calc → Expr
expr_of entries (calc.Number n) = Number n
expr_of entries (calc.Text t) = Text t
expr_of entries (calc.Column entry column) = Column (get_or entries entry no_entry).alias (column_name entries entry column)
expr_of entries (tree.Add a b) = Two op.Add (expr_of entries a) (expr_of entries b)
expr_of entries (tree.Sub a b) = Two op.Sub (expr_of entries a) (expr_of entries b)
expr_of entries (tree.Mul a b) = Two op.Mul (expr_of entries a) (expr_of entries b)

abbrev pub op_of : Cmp → Op
op_of cmp.Eq = op.Eq
op_of cmp.Ne = op.Ne
op_of cmp.Lt = op.Lt
op_of cmp.Le = op.Le
op_of cmp.Gt = op.Gt
op_of cmp.Ge = op.Ge

-- a truth value; that all is taken has no text but as a filter that is left out
abbrev pub truth_of : List Entry → Test → Expr
truth_of entries test.True = Number (pos 0)
truth_of entries (test.Compare how a b) = Two (op_of how) (expr_of entries a) (expr_of entries b)
truth_of entries (tree.Not t) = Not (truth_of entries t)
truth_of entries (tree.And s t) = Two op.And (truth_of entries s) (truth_of entries t)
truth_of entries (tree.Or s t) = Two op.Or (truth_of entries s) (truth_of entries t)

abbrev pub filter_tree : List Entry → Test → Option Expr
filter_tree entries test.True = None
filter_tree entries t = Some (truth_of entries t)

-- ---- queries

abbrev pub total_of : List Entry → What → Total
total_of entries (what.Plain e) = total.Plain (expr_of entries e)
total_of entries (what.Sum e) = total.Sum (expr_of entries e)
total_of entries what.Count = total.Count

abbrev pub item_tree : List Entry → Item → ItemTree
item_tree entries item = record { what = total_of entries item.what; name = Some item.name }

abbrev pub origin_of : List TableDef → Input → Origin
origin_of tables (input.Table id) = origin.Table (def_at tables id).name
origin_of tables (input.Before id) = origin.Before (def_at tables id).name
origin_of tables input.Inserted = origin.Inserted
origin_of tables input.Deleted = origin.Deleted
origin_of tables input.Old = origin.Old
origin_of tables input.New = origin.New

abbrev pub entry_trees : List TableDef → List Input → List EntryTree
entry_trees tables inputs =
    map (λ (numbered : ℕ × Input). record { origin = origin_of tables numbered.1; alias = Some (alias_at numbered.0) }) (enumerate_from 0 inputs)

abbrev pub col_tree : List Entry → Place → ColTree
col_tree entries place =
    record { of = (get_or entries place.entry no_entry).alias; name = column_name entries place.entry place.column }

abbrev pub query_tree : List TableDef → Query → QueryTree
query_tree tables query =
    let entries = named_entries tables query.entries in
    record {
      items = map (item_tree entries) query.items;
      entries = entry_trees tables query.entries;
      filter = filter_tree entries query.filter;
      group = option_map (map (col_tree entries)) query.group;
    }

-- ---- acts

abbrev pub set_tree : List Entry → Set → SetTree
set_tree entries s = record { column = column_name entries 0 s.column; value = expr_of entries s.value }

-- the deed that an act is written as
abbrev pub tree_of : List TableDef → Act → Deed
tree_of tables (act.Insert id rows) = deed.Insert (def_at tables id).name rows
tree_of tables (act.Put id row) = deed.Put (def_at tables id).name row
tree_of tables (act.Update id sets filter) =
    let entries = bare_entry (def_at tables id) in
    deed.Update (def_at tables id).name (map (set_tree entries) sets) (filter_tree entries filter)
tree_of tables (act.Delete id filter) = deed.Delete (def_at tables id).name (filter_tree (bare_entry (def_at tables id)) filter)
tree_of tables (act.Select query) = deed.Select (query_tree tables query)
tree_of tables (act.Show id) = deed.Show (def_at tables id).name
