-- Statements as trees, for the examples: short words for what the text has.
use Rattle.std.specs.Prelude.{ℕ, pos, codes, List, [], map, Some, None}
use Prim.Native.String.{String}
use Rattle.strip_value.specs.declared.kinds.Kind.TheVariants as kind
use Rattle.strip_value.specs.declared.tables.ColumnDef.{ColumnDef}
use Rattle.strip_ast.specs.declared.expressions.Expr.{Expr, Number, Text, Column}
use Rattle.strip_ast.specs.declared.queries.ColTree.{ColTree}
use Rattle.strip_ast.specs.declared.queries.EntryTree.{EntryTree}
use Rattle.strip_ast.specs.declared.queries.ItemTree.{ItemTree}
use Rattle.strip_ast.specs.declared.queries.Origin.{Origin}
use Rattle.strip_ast.specs.declared.queries.Origin.TheVariants as origin
use Rattle.strip_ast.specs.declared.queries.QueryTree.{QueryTree}
use Rattle.strip_ast.specs.declared.queries.Total.TheVariants as total
use Rattle.strip_ast.specs.declared.rules.BoundTree.{BoundTree}
use Rattle.strip_ast.specs.declared.rules.EventTree.{EventTree}
use Rattle.strip_ast.specs.declared.rules.EventTree.TheVariants as event
use Rattle.strip_ast.specs.declared.rules.Manner.{Manner}
use Rattle.strip_ast.specs.declared.rules.StepTree.{StepTree}
use Rattle.strip_ast.specs.declared.rules.StepTree.TheVariants as step
use Rattle.strip_ast.specs.declared.statements.Statement.{Statement}
use Rattle.strip_ast.specs.declared.statements.Statement.TheVariants as st

-- ---- expressions

-- a column, and a column of an alias
abbrev pub bare : String → Expr
bare name = Column None (codes name)

abbrev pub dotted : String → String → Expr
dotted alias name = Column (Some (codes alias)) (codes name)

abbrev pub number : ℕ → Expr
number n = Number (pos n)

abbrev pub text : String → Expr
text t = Text (codes t)

-- ---- queries

-- `e`, `e as name`, `sum(e) as name`, `count(*) as name`
abbrev pub item : Expr → ItemTree
item e = record { what = total.Plain e; name = None }

abbrev pub item_as : Expr → String → ItemTree
item_as e name = record { what = total.Plain e; name = Some (codes name) }

abbrev pub sum_as : Expr → String → ItemTree
sum_as e name = record { what = total.Sum e; name = Some (codes name) }

abbrev pub count_as : String → ItemTree
count_as name = record { what = total.Count; name = Some (codes name) }

-- `name`, `name alias`, `before name`, and a transition table without and with an alias
abbrev pub table : String → EntryTree
table name = record { origin = origin.Table (codes name); alias = None }

abbrev pub table_as : String → String → EntryTree
table_as name alias = record { origin = origin.Table (codes name); alias = Some (codes alias) }

abbrev pub before : String → EntryTree
before name = record { origin = origin.Before (codes name); alias = None }

abbrev pub moved : Origin → EntryTree
moved from = record { origin = from; alias = None }

abbrev pub moved_as : Origin → String → EntryTree
moved_as from alias = record { origin = from; alias = Some (codes alias) }

-- a query without a filter and groups, one with a filter, one with groups, one with both
abbrev pub select : List ItemTree → List EntryTree → QueryTree
select items entries = record { items = items; entries = entries; filter = None; group = None }

abbrev pub select_where : List ItemTree → List EntryTree → Expr → QueryTree
select_where items entries e = record { items = items; entries = entries; filter = Some e; group = None }

abbrev pub column : String → ColTree
column name = record { of = None; name = codes name }

abbrev pub column_of : String → String → ColTree
column_of alias name = record { of = Some (codes alias); name = codes name }

abbrev pub grouped : List ItemTree → List EntryTree → List ColTree → QueryTree
grouped items entries columns = record { items = items; entries = entries; filter = None; group = Some columns }

abbrev pub grouped_where : List ItemTree → List EntryTree → Expr → List ColTree → QueryTree
grouped_where items entries e columns = record { items = items; entries = entries; filter = Some e; group = Some columns }

-- ---- statements

-- columns of a table
abbrev pub int : String → ColumnDef
int name = record { name = codes name; kind = kind.Int }

abbrev pub big : String → ColumnDef
big name = record { name = codes name; kind = kind.Big }

abbrev pub txt : String → ColumnDef
txt name = record { name = codes name; kind = kind.Text }

abbrev pub names : List String → List (List ℕ)
names texts = map (λ t. codes t) texts

abbrev pub make_table : String → List ColumnDef → List String → Statement
make_table name columns key = st.Table (codes name) columns (names key) None

abbrev pub derive : String → QueryTree → Statement
derive name query = st.Derive (codes name) query

abbrev pub add : String → String → StepTree
add bound into = step.Add (codes bound) (codes into)

abbrev pub redo : String → String → StepTree
redo name bound = step.Redo (codes name) (codes bound)

abbrev pub function : String → List StepTree → Statement
function name steps = st.Function (codes name) steps

-- a query of a rule, without and with `bind as`
abbrev pub asks : QueryTree → BoundTree
asks query = record { query = query; name = None }

abbrev pub binds : QueryTree → String → BoundTree
binds query name = record { query = query; name = Some (codes name) }

-- no `unique` and no `after`, `unique`, `unique on`, `after`
abbrev pub plainly : Manner
plainly = record { unique = None; after = 0 }

abbrev pub unique : Manner
unique = record { unique = Some []; after = 0 }

abbrev pub unique_on : List String → Manner
unique_on columns = record { unique = Some (names columns); after = 0 }

abbrev pub after : ℕ → Manner
after n = record { unique = None; after = n }

abbrev pub updated : List String → EventTree
updated columns = event.Updated (names columns)

-- a rule without conditions
abbrev pub rule : String → String → List EventTree → List BoundTree → String → Manner → Statement
rule name on events evaluate run manner = st.Rule (codes name) (codes on) events [] evaluate (codes run) manner
