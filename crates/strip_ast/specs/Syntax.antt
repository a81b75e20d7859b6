-- The grammar of statements: the productions, each with its line above it.
use Rattle.std.specs.Prelude.{ℕ, zero, suc, Bool, true, false, List, [], ◌∷◌, Option, Some, None, pos, neg_ℤ}
use Rattle.strip_value.specs.declared.kinds.Kind.TheVariants as kind
use Rattle.strip_value.specs.declared.tables.By.TheVariants as by
use Rattle.strip_value.specs.declared.tables.ColumnDef.{ColumnDef}
use Rattle.strip_value.specs.declared.values.Value.{Value}
use Rattle.strip_value.specs.declared.values.Value.TheVariants as value
use Rattle.strip_ast.specs.declared.marks.Mark.{Mark as OneMark}
use Rattle.strip_ast.specs.declared.marks.Mark.TheVariants as m
use Rattle.strip_ast.specs.declared.token_types.Placed.{Placed}
use Rattle.strip_ast.specs.declared.expressions.Expr.{Expr}
use Rattle.strip_ast.specs.declared.expressions.Expr.TheVariants as expr
use Rattle.strip_ast.specs.declared.expressions.Op.{Op}
use Rattle.strip_ast.specs.declared.expressions.Op.TheVariants as op
use Rattle.strip_ast.specs.declared.queries.Total.{Total}
use Rattle.strip_ast.specs.declared.queries.Total.TheVariants as total_
use Rattle.strip_ast.specs.declared.queries.ItemTree.{ItemTree}
use Rattle.strip_ast.specs.declared.queries.Origin.{Origin}
use Rattle.strip_ast.specs.declared.queries.Origin.TheVariants as origin
use Rattle.strip_ast.specs.declared.queries.EntryTree.{EntryTree}
use Rattle.strip_ast.specs.declared.queries.ColTree.{ColTree}
use Rattle.strip_ast.specs.declared.queries.QueryTree.{QueryTree}
use Rattle.strip_ast.specs.declared.rules.StepTree.{StepTree}
use Rattle.strip_ast.specs.declared.rules.StepTree.TheVariants as step_
use Rattle.strip_ast.specs.declared.rules.EventTree.{EventTree}
use Rattle.strip_ast.specs.declared.rules.EventTree.TheVariants as event_
use Rattle.strip_ast.specs.declared.rules.BoundTree.{BoundTree}
use Rattle.strip_ast.specs.declared.rules.Manner.{Manner}
use Rattle.strip_ast.specs.declared.deeds.SetTree.{SetTree}
use Rattle.strip_ast.specs.declared.deeds.Deed.{Deed}
use Rattle.strip_ast.specs.declared.deeds.Deed.TheVariants as deed_
use Rattle.strip_ast.specs.declared.statements.Statement.{Statement}
use Rattle.strip_ast.specs.declared.statements.Statement.TheVariants as st
use Rattle.strip_ast.specs.Grammar.{Grammar, terminal, empty, made, both, either, many, commas, outermost, or_enclosed, mark, operator, name, number, caller, text, Matches}

-- ---- words

-- a keyword or a symbol
abbrev pub key : OneMark → Grammar (Unit {0})
key a = terminal (mark a)

-- a keyword or a symbol, and then
infixr 5 ◌▸◌
abbrev pub ◌▸◌ : {A : Type 0} → OneMark → Grammar A → Grammar A
a ▸ g = made (both (key a) g) (λ p. p.1)

-- and then a keyword or a symbol
infixr 5 ◌◂◌
abbrev pub ◌◂◌ : {A : Type 0} → Grammar A → OneMark → Grammar A
g ◂ a = made (both g (key a)) (λ p. p.0)

-- `[x]`
abbrev pub optional : {A : Type 0} → Grammar A → Grammar (Option A)
optional g = either (made g Some) (empty None)

-- whether `[x]` is there
abbrev pub given : OneMark → Grammar Bool
given a = either (made (key a) (λ _. true)) (empty false)

-- `x {"," x}`
abbrev pub listed : {A : Type 0} → Grammar A → Grammar (List A)
listed g = made (both g (many (m.Comma ▸ g))) (λ p. p.0 ∷ p.1)

-- a keyword or a symbol that stands for this
abbrev pub stands : {A : Type 0} → OneMark → A → Grammar A
stands a x = made (key a) (λ _. x)

-- an operator
abbrev pub joins : OneMark → Op → Grammar Op
joins a o = made (terminal (operator a)) (λ _. o)

abbrev pub a_name : Grammar (List ℕ)
a_name = terminal name

abbrev pub a_number : Grammar ℕ
a_number = terminal number

-- operators of one level join from the left
abbrev pub joined : Expr → List (Op × Expr) → Expr
joined e [] = e
joined e (next ∷ rest) = joined (expr.Two next.0 e next.1) rest

-- `x {op x}`
abbrev pub chain : Grammar Op → Grammar Expr → Grammar Expr
chain o g = made (both g (many (both o g))) (λ p. joined p.0 p.1)

-- `or_none` where a list isn't there
abbrev pub or_none : {A : Type 0} → Option (List A) → List A
or_none None = []
or_none (Some xs) = xs

-- ---- names, tables, streams, functions

-- names = name {"," name}
unfoldable pub names : Grammar (List (List ℕ))
names = listed a_name

-- column = name ("int" | "text")
unfoldable pub column : Grammar ColumnDef
column = made (both a_name (either (stands m.Int kind.Int) (stands m.Text kind.Text))) (λ p. record { name = p.0; kind = p.1 })

-- column {"," column} ["," "key" names]
unfoldable pub columns : Grammar (List ColumnDef × List (List ℕ))
columns = made (both column (commas column (m.Key ▸ names))) (λ p. (p.0 ∷ p.1.0, or_none p.1.1))

-- table = "table" name "(" column {"," column} ["," "key" names] ")" ["limit" number]
unfoldable pub table : Grammar Statement
table =
    made (both (m.Table ▸ a_name) (both (m.Open ▸ (columns ◂ m.Close)) (optional (m.Limit ▸ a_number)))) (λ p. st.Table p.0 p.1.0.0 p.1.0.1 p.1.1)

-- stream = "stream" name "into" name ["marked"]
unfoldable pub stream : Grammar Statement
stream = made (both (m.Stream ▸ a_name) (both (m.Into ▸ a_name) (given m.Marked))) (λ p. st.Stream p.0 p.1.0 p.1.1)

-- step = "add" name "into" name | "redo" name "by" name
unfoldable pub step : Grammar StepTree
step =
    either (made (both (m.Add ▸ a_name) (m.Into ▸ a_name)) (λ p. step_.Add p.0 p.1)) (made (both (m.Redo ▸ a_name) (m.By ▸ a_name)) (λ p. step_.Redo p.0 p.1))

-- function = "function" name step {"," step}
unfoldable pub function : Grammar Statement
function = made (both (m.Function ▸ a_name) (listed step)) (λ p. st.Function p.0 p.1)

-- ---- expressions

-- col = name ["." name]
abbrev pub col_of : {A : Type 0} → (Option (List ℕ) → List ℕ → A) → List ℕ × Option (List ℕ) → A
col_of f (first, None) = f None first
col_of f (first, Some second) = f (Some first) second

unfoldable pub dotted : Grammar (List ℕ × Option (List ℕ))
dotted = both a_name (optional (m.Dot ▸ a_name))

unfoldable pub col : Grammar ColTree
col = made dotted (col_of (λ of a. record { of = of; name = a }))

-- ["-"] number | literal | col
unfoldable pub atom : Grammar Expr
atom =
    either (made (both (joins m.Minus op.Sub) a_number) (λ p. expr.Number (neg_ℤ (pos p.1)))) (either (made a_number (λ n. expr.Number (pos n))) (either (made (terminal text) expr.Text) (made dotted (col_of expr.Column))))

-- factor = ["-"] number | literal | col | "(" expr ")"
unfoldable pub factor : Grammar Expr
factor = or_enclosed atom

-- product = factor {"*" factor}
unfoldable pub product : Grammar Expr
product = chain (joins m.Star op.Mul) factor

-- sum = product {("+" | "-") product}
unfoldable pub sum : Grammar Expr
sum = chain (either (joins m.Plus op.Add) (joins m.Minus op.Sub)) product

-- "=" | "<>" | "<" | "<=" | ">" | ">="
unfoldable pub comparing : Grammar Op
comparing =
    either (joins m.Equal op.Eq) (either (joins m.Unequal op.Ne) (either (joins m.Below op.Lt) (either (joins m.AtMost op.Le) (either (joins m.Above op.Gt) (joins m.AtLeast op.Ge)))))

abbrev pub compared : Expr × Option (Op × Expr) → Expr
compared (e, None) = e
compared (e, Some (o, f)) = expr.Two o e f

-- compare = sum [("=" | "<>" | "<" | "<=" | ">" | ">=") sum]
unfoldable pub compare : Grammar Expr
compare = made (both sum (optional (both comparing sum))) compared

-- test = ["not"] compare
unfoldable pub test : Grammar Expr
test = either (made (both (terminal (operator m.Not)) compare) (λ p. expr.Not p.1)) compare

-- conj = test {"and" test}
unfoldable pub conj : Grammar Expr
conj = chain (joins m.And op.And) test

-- expr = conj {"or" conj}
unfoldable pub expression : Grammar Expr
expression = chain (joins m.Or op.Or) conj

-- an expression that is no part of another
unfoldable pub whole : Grammar Expr
whole = outermost expression

-- ---- queries

-- item = expr ["as" name]
unfoldable pub item : Grammar ItemTree
item = made (both whole (optional (m.As ▸ a_name))) (λ p. record { what = total_.Plain p.0; name = p.1 })

-- "sum" "(" expr ")" | "count" "(" "*" ")"
unfoldable pub totalled : Grammar Total
totalled =
    either (made (m.Sum ▸ (m.Open ▸ (whole ◂ m.Close))) total_.Sum) (made (m.Count ▸ (m.Open ▸ (m.Star ▸ key m.Close))) (λ _. total_.Count))

-- total = item | ("sum" "(" expr ")" | "count" "(" "*" ")") ["as" name]
unfoldable pub total : Grammar ItemTree
total = either (made (both totalled (optional (m.As ▸ a_name))) (λ p. record { what = p.0; name = p.1 })) item

-- ["before"] name | "inserted" | "deleted" | "old" | "new"
unfoldable pub source : Grammar Origin
source =
    either (made (m.Before ▸ a_name) origin.Before) (either (stands m.Inserted origin.Inserted) (either (stands m.Deleted origin.Deleted) (either (stands m.Old origin.Old) (either (stands m.New origin.New) (made a_name origin.Table)))))

-- entry = (["before"] name | "inserted" | "deleted" | "old" | "new") [name]
unfoldable pub entry : Grammar EntryTree
entry = made (both source (optional a_name)) (λ p. record { origin = p.0; alias = p.1 })

-- ["where" expr]
unfoldable pub filter : Grammar (Option Expr)
filter = optional (m.Where ▸ whole)

-- rest = "from" entry {"," entry} ["where" expr]
unfoldable pub rest : Grammar (List EntryTree × Option Expr)
rest = both (m.From ▸ listed entry) filter

-- query = "select" total {"," total} rest ["group" "by" col {"," col}]
unfoldable pub query : Grammar QueryTree
query =
    made (both (m.Select ▸ listed total) (both rest (optional (m.Group ▸ (m.By ▸ listed col))))) (λ p. record { items = p.0; entries = p.1.0.0; filter = p.1.0.1; group = p.1.1 })

-- plain = "select" item {"," item} rest
unfoldable pub plain : Grammar QueryTree
plain = made (both (m.Select ▸ listed item) rest) (λ p. record { items = p.0; entries = p.1.0; filter = p.1.1; group = None })

-- derive = "derive" name "as" query
unfoldable pub derive : Grammar Statement
derive = made (both (m.Derive ▸ a_name) (m.As ▸ query)) (λ p. st.Derive p.0 p.1)

-- ---- rules

-- "(" names ")"
unfoldable pub enclosed_names : Grammar (List (List ℕ))
enclosed_names = m.Open ▸ (names ◂ m.Close)

-- event = "inserted" | "deleted" | "updated" ["(" names ")"]
unfoldable pub event : Grammar EventTree
event =
    either (stands m.Inserted event_.Inserted) (either (stands m.Deleted event_.Deleted) (made (m.Updated ▸ optional enclosed_names) (λ p. event_.Updated (or_none p))))

-- bound = "(" plain ")" ["bind" "as" name]
unfoldable pub bound : Grammar BoundTree
bound = made (both (m.Open ▸ (plain ◂ m.Close)) (optional (m.Bind ▸ (m.As ▸ a_name)))) (λ p. record { query = p.0; name = p.1 })

abbrev pub after_of : Option ℕ → ℕ
after_of None = 0
after_of (Some n) = n

-- "unique" ["on" "(" names ")"]
unfoldable pub unique : Grammar (List (List ℕ))
unique = made (m.Unique ▸ optional (m.On ▸ enclosed_names)) or_none

-- manner = ["unique" ["on" "(" names ")"]] ["after" number]
unfoldable pub manner : Grammar Manner
manner = made (both (optional unique) (optional (m.After ▸ a_number))) (λ p. record { unique = p.0; after = after_of p.1 })

-- "on" name "when" event {"," event} ["if" bound {"," bound}]
unfoldable pub trigger : Grammar (List ℕ × (List EventTree × List BoundTree))
trigger =
    both (m.On ▸ a_name) (both (m.When ▸ listed event) (made (optional (m.If ▸ listed bound)) or_none))

-- "then" ["evaluate" bound {"," bound}] "execute" name manner
unfoldable pub effect : Grammar (List BoundTree × (List ℕ × Manner))
effect =
    both (m.Then ▸ made (optional (m.Evaluate ▸ listed bound)) or_none) (both (m.Execute ▸ a_name) manner)

-- rule = "rule" name "on" name "when" event {"," event} ["if" bound {"," bound}]
--        "then" ["evaluate" bound {"," bound}] "execute" name manner
unfoldable pub rule : Grammar Statement
rule =
    made (both (m.Rule ▸ a_name) (both trigger effect)) (λ p. st.Rule p.0 p.1.0.0 p.1.0.1.0 p.1.0.1.1 p.1.1.0 p.1.1.1.0 p.1.1.1.1)

-- maintain = "maintain" name "by" ("sum" | "key") manner
unfoldable pub maintain : Grammar Statement
maintain =
    made (both (m.Maintain ▸ a_name) (both (m.By ▸ either (stands m.Sum by.Sum) (stands m.Key by.Key)) manner)) (λ p. st.Maintain p.0 p.1.0 p.1.1)

-- ---- deeds

-- value = ["-"] number | text
unfoldable pub a_value : Grammar Value
a_value =
    either (made (m.Minus ▸ a_number) (λ n. value.Int (neg_ℤ (pos n)))) (either (made a_number (λ n. value.Int (pos n))) (made (terminal text) value.Text))

-- row = "(" value {"," value} ")"
unfoldable pub row : Grammar (List Value)
row = m.Open ▸ (listed a_value ◂ m.Close)

-- name "=" sum
unfoldable pub set : Grammar SetTree
set = made (both a_name (m.Equal ▸ outermost sum)) (λ p. record { column = p.0; value = p.1 })

-- "insert" name row {"," row}
unfoldable pub insert : Grammar Deed
insert = made (both (m.Insert ▸ a_name) (listed row)) (λ p. deed_.Insert p.0 p.1)

-- "put" name row
unfoldable pub put : Grammar Deed
put = made (both (m.Put ▸ a_name) row) (λ p. deed_.Put p.0 p.1)

-- "update" name "set" name "=" sum {"," name "=" sum} ["where" expr]
unfoldable pub update : Grammar Deed
update = made (both (m.Update ▸ a_name) (both (m.Set ▸ listed set) filter)) (λ p. deed_.Update p.0 p.1.0 p.1.1)

-- "delete" name ["where" expr]
unfoldable pub delete : Grammar Deed
delete = made (both (m.Delete ▸ a_name) filter) (λ p. deed_.Delete p.0 p.1)

-- act = "insert" name row {"," row} | "put" name row
--     | "update" name "set" name "=" sum {"," name "=" sum} ["where" expr]
--     | "delete" name ["where" expr] | query | "show" name    (the last stands in `show`)
unfoldable pub act : Grammar Deed
act = either insert (either put (either update (either delete (made query deed_.Select))))

-- "begin" ["write" names] ["read" names]
unfoldable pub begin : Grammar Deed
begin =
    made (m.Begin ▸ both (made (optional (m.Write ▸ names)) or_none) (made (optional (m.Read ▸ names)) or_none)) (λ p. deed_.Begin p.0 p.1)

-- "show" "pending" | "show" name
unfoldable pub show : Grammar Deed
show = m.Show ▸ either (stands m.Pending deed_.ShowPending) (made a_name deed_.Show)

-- deed = "begin" ["write" names] ["read" names] | "commit" | "undo" | act
--      | "start" | "finish" number | "return" number | "run" | "show" "pending"
unfoldable pub deed : Grammar Deed
deed =
    either begin (either (stands m.Commit deed_.Commit) (either (stands m.Undo deed_.Undo) (either (stands m.Start deed_.Start) (either (made (m.Finish ▸ a_number) deed_.Finish) (either (made (m.Return ▸ a_number) deed_.Return) (either (stands m.Run deed_.Run) (either show act)))))))

-- ["as" number] deed
unfoldable pub called : Grammar Statement
called = made (both (optional (m.As ▸ terminal caller)) deed) (λ p. st.Deed p.0 p.1)

-- setup = table | stream | derive | function | rule | maintain
-- statement = setup | "ready" | "at" number | ["as" number] deed
unfoldable pub statement : Grammar Statement
statement =
    either table (either stream (either derive (either function (either rule (either maintain (either (stands m.Ready st.Ready) (either (made (m.At ▸ a_number) st.At) called)))))))

-- ---- what is in the grammar

-- an expression in which so many parentheses at most are open
abbrev pub Within : ℕ → List Placed → Expr → Type 0
Within zero u e = ⊥
Within (suc room) u e = Matches (Within room) expression u e

-- the tokens are a statement with this tree, in which so many parentheses at most are open at one place
abbrev pub IsStatementWithin : ℕ → List Placed → Statement → Type 0
IsStatementWithin room u s = Matches (Within room) statement u s

-- the tokens are a statement with this tree
abbrev pub IsStatement : List Placed → Statement → Type 0
IsStatement u s = (room : ℕ) × IsStatementWithin room u s
