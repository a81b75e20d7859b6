-- The texts of replies. A name of a table is that of its definition.
use Rattle.std.specs.Prelude.{ℕ, ℤ, pos, List, [], ◌∷◌, ◌++◌, length, codes, slice_get, Option, Some, None}
use Rattle.std.specs.Fmt.{signed_decimal}
use Rattle.strip_value.specs.declared.actions.KeyOf.{KeyOf}
use Rattle.strip_value.specs.declared.actions.KeyOf.TheVariants.{Plain, Unique}
use Rattle.strip_value.specs.declared.acts.ActError.{ActError}
use Rattle.strip_value.specs.declared.acts.ActError.TheVariants.{NotHeld, ReadOnly, Derived, KindMismatch, OutOfRange, Duplicate, Full}
use Rattle.strip_value.specs.declared.acts.Reply.{Reply}
use Rattle.strip_value.specs.declared.acts.Reply.TheVariants.{Rows, Count, Refused}
use Rattle.strip_value.specs.declared.tables.TableDef.{TableDef}
use Rattle.strip_value.specs.declared.values.Value.{Value}
use Rattle.strip_value.specs.Print.{tuple_text}

-- a number in decimal
abbrev pub number_field : ℤ → List ℕ
number_field n = signed_decimal n

-- a line and its end
abbrev pub line : List ℕ → List ℕ
line text = text ++ 10 ∷ []

-- the name in a definition, if there is one
abbrev pub name_of : Option TableDef → List ℕ
name_of None = []
name_of (Some def) = def.name

abbrev pub table_name : List TableDef → ℕ → List ℕ
table_name defs id = name_of (slice_get defs id)

-- each row as a tuple on a line of its own
abbrev pub row_lines : List (List Value) → List ℕ
row_lines [] = []
row_lines (row ∷ rows) = line (tuple_text row) ++ row_lines rows

-- the number of rows, and the rows
abbrev pub rows_text : List (List Value) → List ℕ
rows_text rows = line (codes "rows " ++ number_field (pos (length rows))) ++ row_lines rows

-- the cause of a refused act, its fields after its name, a blank before each
abbrev pub cause_text : List TableDef → ActError → List ℕ
cause_text defs (NotHeld table) = codes "NotHeld " ++ table_name defs table
cause_text defs (ReadOnly table) = codes "ReadOnly " ++ table_name defs table
cause_text defs (Derived table) = codes "Derived " ++ table_name defs table
cause_text defs (KindMismatch column) = codes "KindMismatch " ++ number_field (pos column)
cause_text defs (OutOfRange column value) = codes "OutOfRange " ++ number_field (pos column) ++ codes " " ++ number_field value
cause_text defs (Duplicate key) = codes "Duplicate " ++ tuple_text key
cause_text defs (Full table limit) = codes "Full " ++ table_name defs table ++ codes " " ++ number_field (pos limit)

-- the text of a reply to an act
unfoldable pub line_of_reply : List TableDef → Reply → List ℕ
line_of_reply defs (Count n) = line (codes "count " ++ number_field (pos n))
line_of_reply defs (Rows rows) = rows_text rows
line_of_reply defs (Refused cause) = line (codes "refused " ++ cause_text defs cause)

-- ---- answers to other calls

-- a word and a number on a line
abbrev pub number_line : List ℕ → ℕ → List ℕ
number_line word n = line (word ++ number_field (pos n))

-- the rows bound would be this many, more than the limit
unfoldable pub line_of_spent : ℕ → List ℕ
line_of_spent total = number_line (codes "refused Spent ") total

-- the number isn't running
unfoldable pub line_of_not_running : ℕ → List ℕ
line_of_not_running number = number_line (codes "refused NotRunning ") number

-- a job was finished
unfoldable pub line_of_finished : ℕ → List ℕ
line_of_finished number = number_line (codes "finished ") number

-- what tells an action from the others of its function
abbrev pub key_text : KeyOf → List ℕ
key_text (Plain place rule) = codes "plain"
key_text (Unique values starts) = tuple_text values

-- a job that was started: its number, its function and its key, when it was due, and how many bound rows it has
unfoldable pub line_of_job : List ℕ → ℕ → KeyOf → ℕ → ℕ → List ℕ
line_of_job function number key due rows =
    line (codes "job " ++ number_field (pos number) ++ codes " " ++ function ++ codes " " ++ key_text key ++ codes " due " ++ number_field (pos due) ++ codes " rows " ++ number_field (pos rows))

-- all pending actions are due later, the first at this moment
unfoldable pub line_of_not_due : ℕ → List ℕ
line_of_not_due next = number_line (codes "not due ") next

-- each action that is due has a running twin, that of the first being this number
unfoldable pub line_of_in_hand : ℕ → List ℕ
line_of_in_hand number = number_line (codes "in hand ") number

-- no action is pending
unfoldable pub line_of_empty : List ℕ
line_of_empty = line (codes "empty")
