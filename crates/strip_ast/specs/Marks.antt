-- How keywords and symbols are written.
use Rattle.std.specs.Prelude.{ℕ, Bool, List, [], ◌∷◌, Option, find, codes, ◌==◌}
use Rattle.std.specs.List.{starts_with}
use Rattle.std.specs.Str.{bytes_eq}
use Rattle.strip_ast.specs.declared.marks.Mark.{Mark}
use Rattle.strip_ast.specs.declared.marks.Mark.TheVariants.{Add, After, And, As, At, Before, Begin, Bind, By, Commit, Count, Delete, Deleted, Derive, Evaluate, Execute, Finish, From, Function, Group, If, Insert, Inserted, Int, Into, Key, Limit, Maintain, Marked, New, Not, Old, On, Or, Pending, Put, Read, Ready, Redo, Return, Rule, Run, Select, Set, Show, Start, Stream, Sum, Table, Text, Then, Undo, Unique, Update, Updated, When, Where, Write, Unequal, AtMost, AtLeast, Open, Close, Comma, Dot, Star, Plus, Minus, Equal, Below, Above}

abbrev pub nat_eq : ℕ → ℕ → Bool
nat_eq a b = a == b

-- the bytes of a keyword or a symbol
abbrev pub mark_text : Mark → List ℕ
mark_text Add = codes "add"
mark_text After = codes "after"
mark_text And = codes "and"
mark_text As = codes "as"
mark_text At = codes "at"
mark_text Before = codes "before"
mark_text Begin = codes "begin"
mark_text Bind = codes "bind"
mark_text By = codes "by"
mark_text Commit = codes "commit"
mark_text Count = codes "count"
mark_text Delete = codes "delete"
mark_text Deleted = codes "deleted"
mark_text Derive = codes "derive"
mark_text Evaluate = codes "evaluate"
mark_text Execute = codes "execute"
mark_text Finish = codes "finish"
mark_text From = codes "from"
mark_text Function = codes "function"
mark_text Group = codes "group"
mark_text If = codes "if"
mark_text Insert = codes "insert"
mark_text Inserted = codes "inserted"
mark_text Int = codes "int"
mark_text Into = codes "into"
mark_text Key = codes "key"
mark_text Limit = codes "limit"
mark_text Maintain = codes "maintain"
mark_text Marked = codes "marked"
mark_text New = codes "new"
mark_text Not = codes "not"
mark_text Old = codes "old"
mark_text On = codes "on"
mark_text Or = codes "or"
mark_text Pending = codes "pending"
mark_text Put = codes "put"
mark_text Read = codes "read"
mark_text Ready = codes "ready"
mark_text Redo = codes "redo"
mark_text Return = codes "return"
mark_text Rule = codes "rule"
mark_text Run = codes "run"
mark_text Select = codes "select"
mark_text Set = codes "set"
mark_text Show = codes "show"
mark_text Start = codes "start"
mark_text Stream = codes "stream"
mark_text Sum = codes "sum"
mark_text Table = codes "table"
mark_text Text = codes "text"
mark_text Then = codes "then"
mark_text Undo = codes "undo"
mark_text Unique = codes "unique"
mark_text Update = codes "update"
mark_text Updated = codes "updated"
mark_text When = codes "when"
mark_text Where = codes "where"
mark_text Write = codes "write"
mark_text Unequal = codes "<>"
mark_text AtMost = codes "<="
mark_text AtLeast = codes ">="
mark_text Open = codes "("
mark_text Close = codes ")"
mark_text Comma = codes ","
mark_text Dot = codes "."
mark_text Star = codes "*"
mark_text Plus = codes "+"
mark_text Minus = codes "-"
mark_text Equal = codes "="
mark_text Below = codes "<"
mark_text Above = codes ">"

-- the marks are written alike, so they are the same
abbrev pub same_mark : Mark → Mark → Bool
same_mark a b = bytes_eq (mark_text a) (mark_text b)

-- the words that are no names
abbrev pub keywords : List Mark
keywords =
    Add ∷ After ∷ And ∷ As ∷ At ∷ Before ∷ Begin ∷ Bind ∷ By ∷ Commit ∷ Count ∷ Delete ∷ Deleted ∷ Derive ∷ Evaluate ∷ Execute ∷ Finish ∷ From ∷ Function ∷ Group ∷ If ∷ Insert ∷ Inserted ∷ Int ∷ Into ∷ Key ∷ Limit ∷ Maintain ∷ Marked ∷ New ∷ Not ∷ Old ∷ On ∷ Or ∷ Pending ∷ Put ∷ Read ∷ Ready ∷ Redo ∷ Return ∷ Rule ∷ Run ∷ Select ∷ Set ∷ Show ∷ Start ∷ Stream ∷ Sum ∷ Table ∷ Text ∷ Then ∷ Undo ∷ Unique ∷ Update ∷ Updated ∷ When ∷ Where ∷ Write ∷ []

-- the symbols, a longer one before each that begins it
abbrev pub symbols : List Mark
symbols = Unequal ∷ AtMost ∷ AtLeast ∷ Open ∷ Close ∷ Comma ∷ Dot ∷ Star ∷ Plus ∷ Minus ∷ Equal ∷ Below ∷ Above ∷ []

-- the keyword that the word is
unfoldable pub keyword_of : List ℕ → Option Mark
keyword_of word = find (λ mark. bytes_eq (mark_text mark) word) keywords

-- the longest symbol at the front of the bytes
unfoldable pub symbol_of : List ℕ → Option Mark
symbol_of bytes = find (λ mark. starts_with nat_eq bytes (mark_text mark)) symbols
