-- The pieces that the trees are printed as.
use Rattle.std.specs.Prelude.{ℕ, zero, suc, Bool, List, [], ◌∷◌, ◌++◌, Option, Some, None, nat_lt, true, false}
use Rattle.strip_value.specs.declared.kinds.Kind.{Kind}
use Rattle.strip_value.specs.declared.kinds.Kind.TheVariants as kind
use Rattle.strip_value.specs.declared.tables.By.{By}
use Rattle.strip_value.specs.declared.tables.By.TheVariants as by
use Rattle.strip_value.specs.declared.tables.ColumnDef.{ColumnDef}
use Rattle.strip_value.specs.declared.values.Value.{Value}
use Rattle.strip_value.specs.declared.values.Value.TheVariants as value
use Rattle.strip_ast.specs.declared.marks.Mark.{Mark as OneMark}
use Rattle.strip_ast.specs.declared.marks.Mark.TheVariants as m
use Rattle.strip_ast.specs.declared.expressions.Expr.{Expr, Number, Text, Column, Two', Not', Row_of-Expr, end_of-Expr, more_of-Expr}
use Rattle.strip_ast.specs.declared.expressions.Op.{Op}
use Rattle.strip_ast.specs.declared.expressions.Op.TheVariants as op
use Rattle.strip_ast.specs.declared.queries.Total.{Total}
use Rattle.strip_ast.specs.declared.queries.Total.TheVariants as total
use Rattle.strip_ast.specs.declared.queries.ItemTree.{ItemTree}
use Rattle.strip_ast.specs.declared.queries.Origin.{Origin}
use Rattle.strip_ast.specs.declared.queries.Origin.TheVariants as origin
use Rattle.strip_ast.specs.declared.queries.EntryTree.{EntryTree}
use Rattle.strip_ast.specs.declared.queries.ColTree.{ColTree}
use Rattle.strip_ast.specs.declared.queries.QueryTree.{QueryTree}
use Rattle.strip_ast.specs.declared.rules.StepTree.{StepTree}
use Rattle.strip_ast.specs.declared.rules.StepTree.TheVariants as step
use Rattle.strip_ast.specs.declared.rules.EventTree.{EventTree}
use Rattle.strip_ast.specs.declared.rules.EventTree.TheVariants as event
use Rattle.strip_ast.specs.declared.rules.BoundTree.{BoundTree}
use Rattle.strip_ast.specs.declared.rules.Manner.{Manner}
use Rattle.strip_ast.specs.declared.deeds.SetTree.{SetTree}
use Rattle.strip_ast.specs.declared.deeds.Deed.{Deed}
use Rattle.strip_ast.specs.declared.deeds.Deed.TheVariants as deed
use Rattle.strip_ast.specs.declared.statements.Statement.{Statement}
use Rattle.strip_ast.specs.declared.statements.Statement.TheVariants as st
use Rattle.strip_ast.specs.Pieces.{Piece, mark, name, number, whole, text, listed, enclosed_by, text_of_pieces}

-- how an operator is written
abbrev pub op_mark : Op → OneMark
op_mark op.Add = m.Plus
op_mark op.Sub = m.Minus
op_mark op.Mul = m.Star
op_mark op.Eq = m.Equal
op_mark op.Ne = m.Unequal
op_mark op.Lt = m.Below
op_mark op.Le = m.AtMost
op_mark op.Gt = m.Above
op_mark op.Ge = m.AtLeast
op_mark op.And = m.And
op_mark op.Or = m.Or

-- the level of what an operator makes: 0 `or`, 1 `and`, 2 `not`, 3 a comparison, 4 a sum, 5 a product, 6 the rest
abbrev pub op_level : Op → ℕ
op_level op.Add = 4
op_level op.Sub = 4
op_level op.Mul = 5
op_level op.And = 1
op_level op.Or = 0
op_level _ = 3

-- the lowest level of its left operand without parentheses
abbrev pub left_level : Op → ℕ
left_level op.Add = 4
left_level op.Sub = 4
left_level op.Mul = 5
left_level op.And = 1
left_level op.Or = 0
left_level _ = 4

-- the lowest level of its right operand without parentheses
abbrev pub right_level : Op → ℕ
right_level op.Add = 5
right_level op.Sub = 5
right_level op.Mul = 6
right_level op.And = 2
right_level op.Or = 1
right_level _ = 4

abbrev pub level : Expr → ℕ
level (Two' o _ left _ right) = op_level o
level (Not' _ inner) = 2
level _ = 6

abbrev pub enclosed : Bool → List Piece → List Piece
enclosed true ps = enclosed_by ps
enclosed false ps = ps

abbrev pub col_pieces : Option (List ℕ) → List ℕ → List Piece
col_pieces None column = name column ∷ []
col_pieces (Some table) column = name table ∷ mark m.Dot ∷ name column ∷ []

-- an expression, with parentheses only where its tree needs them; `operand` goes on with an operand of an
-- expression, which stands in parentheses where its level is below the lowest that needs none
abbrev mutual
  pub expr_pieces : Expr → List Piece
  expr_pieces (Number n) = number n ∷ []
  expr_pieces (Text t) = text t ∷ []
  expr_pieces (Column of column) = col_pieces of column
  expr_pieces (Two' o _ left _ right) = operand (left_level o) left ++ (mark (op_mark o) ∷ operand (right_level o) right)
  expr_pieces (Not' _ inner) = mark m.Not ∷ operand 3 inner

  pub operand : {n : _} → ℕ → Row_of-Expr n → List Piece
  operand lowest end_of-Expr = []
  operand lowest (more_of-Expr e _) = enclosed (nat_lt (level e) lowest) (expr_pieces e)

-- an expression, in parentheses where its level is below the lowest that needs none
abbrev pub enclosed_below : ℕ → Expr → List Piece
enclosed_below lowest e = enclosed (nat_lt (level e) lowest) (expr_pieces e)

-- a name behind a word, where there is one
abbrev pub named_pieces : Option (List ℕ) → List Piece
named_pieces None = []
named_pieces (Some a) = mark m.As ∷ name a ∷ []

abbrev pub total_pieces : Total → List Piece
total_pieces (total.Plain e) = expr_pieces e
total_pieces (total.Sum e) = mark m.Sum ∷ enclosed_by (expr_pieces e)
total_pieces total.Count = mark m.Count ∷ mark m.Open ∷ mark m.Star ∷ mark m.Close ∷ []

abbrev pub item_pieces : ItemTree → List Piece
item_pieces item = total_pieces item.what ++ named_pieces item.name

abbrev pub origin_pieces : Origin → List Piece
origin_pieces (origin.Table a) = name a ∷ []
origin_pieces (origin.Before a) = mark m.Before ∷ name a ∷ []
origin_pieces origin.Inserted = mark m.Inserted ∷ []
origin_pieces origin.Deleted = mark m.Deleted ∷ []
origin_pieces origin.Old = mark m.Old ∷ []
origin_pieces origin.New = mark m.New ∷ []

abbrev pub alias_pieces : Option (List ℕ) → List Piece
alias_pieces None = []
alias_pieces (Some a) = name a ∷ []

abbrev pub entry_pieces : EntryTree → List Piece
entry_pieces entry = origin_pieces entry.origin ++ alias_pieces entry.alias

abbrev pub column_pieces : ColTree → List Piece
column_pieces column = col_pieces column.of column.name

abbrev pub filter_pieces : Option Expr → List Piece
filter_pieces None = []
filter_pieces (Some e) = mark m.Where ∷ expr_pieces e

abbrev pub group_pieces : Option (List ColTree) → List Piece
group_pieces None = []
group_pieces (Some columns) = mark m.Group ∷ mark m.By ∷ listed column_pieces columns

abbrev pub query_pieces : QueryTree → List Piece
query_pieces q =
    mark m.Select ∷ (listed item_pieces q.items ++ (mark m.From ∷ (listed entry_pieces q.entries ++ (filter_pieces q.filter ++ group_pieces q.group))))

abbrev pub name_pieces : List ℕ → List Piece
name_pieces a = name a ∷ []

abbrev pub kind_mark : Kind → OneMark
kind_mark kind.Text = m.Text
kind_mark _ = m.Int

abbrev pub def_pieces : ColumnDef → List Piece
def_pieces c = name c.name ∷ mark (kind_mark c.kind) ∷ []

abbrev pub key_pieces : List (List ℕ) → List Piece
key_pieces [] = []
key_pieces (a ∷ as_) = mark m.Comma ∷ mark m.Key ∷ listed name_pieces (a ∷ as_)

abbrev pub limit_pieces : Option ℕ → List Piece
limit_pieces None = []
limit_pieces (Some n) = mark m.Limit ∷ whole n ∷ []

abbrev pub step_pieces : StepTree → List Piece
step_pieces (step.Add bound into) = mark m.Add ∷ name bound ∷ mark m.Into ∷ name into ∷ []
step_pieces (step.Redo table by_) = mark m.Redo ∷ name table ∷ mark m.By ∷ name by_ ∷ []

abbrev pub enclosed_names : List (List ℕ) → List Piece
enclosed_names [] = []
enclosed_names (a ∷ as_) = enclosed_by (listed name_pieces (a ∷ as_))

abbrev pub event_pieces : EventTree → List Piece
event_pieces event.Inserted = mark m.Inserted ∷ []
event_pieces event.Deleted = mark m.Deleted ∷ []
event_pieces (event.Updated columns) = mark m.Updated ∷ enclosed_names columns

abbrev pub bind_pieces : Option (List ℕ) → List Piece
bind_pieces None = []
bind_pieces (Some a) = mark m.Bind ∷ mark m.As ∷ name a ∷ []

abbrev pub bound_pieces : BoundTree → List Piece
bound_pieces b = mark m.Open ∷ (query_pieces b.query ++ (mark m.Close ∷ bind_pieces b.name))

-- a word before a list, where the list isn't empty
abbrev pub led : {A : Type 0} → OneMark → (A → List Piece) → List A → List Piece
led word f [] = []
led word f (x ∷ xs) = mark word ∷ listed f (x ∷ xs)

abbrev pub on_pieces : List (List ℕ) → List Piece
on_pieces [] = []
on_pieces (a ∷ as_) = mark m.On ∷ enclosed_names (a ∷ as_)

abbrev pub unique_pieces : Option (List (List ℕ)) → List Piece
unique_pieces None = []
unique_pieces (Some columns) = mark m.Unique ∷ on_pieces columns

abbrev pub after_pieces : ℕ → List Piece
after_pieces zero = []
after_pieces (suc n) = mark m.After ∷ whole (suc n) ∷ []

abbrev pub manner_pieces : Manner → List Piece
manner_pieces manner = unique_pieces manner.unique ++ after_pieces manner.after

abbrev pub value_pieces : Value → List Piece
value_pieces (value.Int n) = number n ∷ []
value_pieces (value.Text t) = text t ∷ []

abbrev pub row_pieces : List Value → List Piece
row_pieces row = enclosed_by (listed value_pieces row)

-- what a column is set to: a sum as it is, anything of a lower level in parentheses
abbrev pub set_pieces : SetTree → List Piece
set_pieces s = name s.column ∷ mark m.Equal ∷ enclosed_below 4 s.value

abbrev pub begin_pieces : List (List ℕ) → List (List ℕ) → List Piece
begin_pieces write read = mark m.Begin ∷ (led m.Write name_pieces write ++ led m.Read name_pieces read)

abbrev pub update_pieces : List ℕ → List SetTree → Option Expr → List Piece
update_pieces table sets filter =
    mark m.Update ∷ name table ∷ mark m.Set ∷ (listed set_pieces sets ++ filter_pieces filter)

abbrev pub deed_pieces : Deed → List Piece
deed_pieces (deed.Begin write read) = begin_pieces write read
deed_pieces deed.Commit = mark m.Commit ∷ []
deed_pieces deed.Undo = mark m.Undo ∷ []
deed_pieces deed.Start = mark m.Start ∷ []
deed_pieces (deed.Finish n) = mark m.Finish ∷ whole n ∷ []
deed_pieces (deed.Return n) = mark m.Return ∷ whole n ∷ []
deed_pieces deed.Run = mark m.Run ∷ []
deed_pieces deed.ShowPending = mark m.Show ∷ mark m.Pending ∷ []
deed_pieces (deed.Insert table rows) = mark m.Insert ∷ name table ∷ listed row_pieces rows
deed_pieces (deed.Put table row) = mark m.Put ∷ name table ∷ row_pieces row
deed_pieces (deed.Update table sets filter) = update_pieces table sets filter
deed_pieces (deed.Delete table filter) = mark m.Delete ∷ name table ∷ filter_pieces filter
deed_pieces (deed.Select query) = query_pieces query
deed_pieces (deed.Show table) = mark m.Show ∷ name table ∷ []

abbrev pub caller_pieces : Option ℕ → List Piece
caller_pieces None = []
caller_pieces (Some n) = mark m.As ∷ whole n ∷ []

abbrev pub marked_pieces : Bool → List Piece
marked_pieces false = []
marked_pieces true = mark m.Marked ∷ []

abbrev pub by_mark : By → OneMark
by_mark by.Sum = m.Sum
by_mark by.Key = m.Key

abbrev pub table_pieces : List ℕ → List ColumnDef → List (List ℕ) → Option ℕ → List Piece
table_pieces a columns key limit =
    mark m.Table ∷ name a ∷ mark m.Open ∷ (listed def_pieces columns ++ (key_pieces key ++ (mark m.Close ∷ limit_pieces limit)))

abbrev pub stream_pieces : List ℕ → List ℕ → Bool → List Piece
stream_pieces a table marked = mark m.Stream ∷ name a ∷ mark m.Into ∷ name table ∷ marked_pieces marked

-- what a rule waits for, and its conditions
abbrev pub trigger_pieces : List ℕ → List EventTree → List BoundTree → List Piece
trigger_pieces table events conditions =
    mark m.On ∷ name table ∷ mark m.When ∷ (listed event_pieces events ++ led m.If bound_pieces conditions)

-- what a rule then does
abbrev pub effect_pieces : List BoundTree → List ℕ → Manner → List Piece
effect_pieces evaluate function manner =
    mark m.Then ∷ (led m.Evaluate bound_pieces evaluate ++ (mark m.Execute ∷ name function ∷ manner_pieces manner))

abbrev pub maintain_pieces : List ℕ → By → Manner → List Piece
maintain_pieces a by_ manner = mark m.Maintain ∷ name a ∷ mark m.By ∷ mark (by_mark by_) ∷ manner_pieces manner

abbrev pub statement_pieces : Statement → List Piece
statement_pieces (st.Table a columns key limit) = table_pieces a columns key limit
statement_pieces (st.Stream a table marked) = stream_pieces a table marked
statement_pieces (st.Derive a query) = mark m.Derive ∷ name a ∷ mark m.As ∷ query_pieces query
statement_pieces (st.Function a steps) = mark m.Function ∷ name a ∷ listed step_pieces steps
statement_pieces (st.Rule a table events conditions evaluate function manner) =
    mark m.Rule ∷ name a ∷ (trigger_pieces table events conditions ++ effect_pieces evaluate function manner)
statement_pieces (st.Maintain a by_ manner) = maintain_pieces a by_ manner
statement_pieces st.Ready = mark m.Ready ∷ []
statement_pieces (st.At moment) = mark m.At ∷ whole moment ∷ []
statement_pieces (st.Deed caller d) = caller_pieces caller ++ deed_pieces d

-- the canonical text of a statement
unfoldable pub statement_text : Statement → List ℕ
statement_text s = text_of_pieces (statement_pieces s)
