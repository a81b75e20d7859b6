-- What acts are read over: one entry, whose columns are few, and a query outside rules.
use Rattle.std.proofs.Common.{◌≡◌, ℕ, ◌≤◌, List, length, sym, ap, ◌∙◌, subst}
use Rattle.strip_value.specs.declared.acts.Act.TheVariants as act
use Rattle.strip_value.specs.declared.queries.Query.{Query}
use Rattle.strip_value.specs.declared.tables.ColumnDef.{ColumnDef}
use Rattle.strip_value.specs.declared.tables.TableDef.{TableDef}
use Rattle.strip_ast.specs.declared.deeds.Deed.{Deed}
use Rattle.strip_ast.specs.declared.deeds.Deed.TheVariants as deed
use Rattle.strip_ast.specs.declared.queries.QueryTree.{QueryTree}
use Rattle.strip_setup.specs.declared.scope.Entry.{Entry}
use Rattle.strip_setup.specs.Catalog.{columns_of, table_named}
use Rattle.strip_setup.specs.Queries.{Scope, own_entry, query_of}
use Rattle.strip_setup.specs.Resolve.{act_of, outside_rules}
use Rattle.strip_setup.specs.Small.{AreFew, IsSmallScope}
use Rattle.strip_setup.proofs.Meant.{named_narrow, own_few}

-- the one entry of an update or a removal is few
pub own_entries_few : (tables : List TableDef) (name : List ℕ) (entries : List Entry) → IsSmallScope (outside_rules tables) → entries ≡ own_entry tables name → AreFew entries
own_entries_few tables name entries small is = subst AreFew (sym is) (own_few tables name small.narrow)

-- so are the columns of its table
pub own_columns_few : (tables : List TableDef) (name : List ℕ) (columns : List ColumnDef) → IsSmallScope (outside_rules tables) → columns ≡ columns_of (table_named tables name) → length columns ≤ 16
own_columns_few tables name columns small is = subst (λ (cs : List ColumnDef). length cs ≤ 16) (sym is) (named_narrow tables name small.narrow)

-- a query asked by an act stands for the query over the tables
pub select_is : (tables : List TableDef) (d : Deed) (tree : QueryTree) (scope : Scope) (query : Query) → d ≡ deed.Select tree → scope ≡ outside_rules tables → query ≡ query_of scope tree → act.Select query ≡ act_of tables d
select_is tables d tree scope query is scope_is query_is =
    ap act.Select (query_is ∙ ap (λ of. query_of of tree) scope_is) ∙ sym (ap (act_of tables) is)
