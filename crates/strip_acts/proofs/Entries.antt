-- The entries of acts: their names, and the names of their columns.
use Rattle.std.proofs.Common.{◌≡◌, ℕ, zero, suc, ◌+◌, ◌<◌, ◌≤◌, Bool, true, false, if◌then◌else◌, List, [], ◌∷◌, map, length, get_or, nat_lt, Option, Some, None, refl, sym, ap, ◌∙◌, arith}
use Rattle.std.specs.List.{enumerate_from}
use Rattle.std.proofs.lemmas.List.{length-map}
use Rattle.strip_value.specs.declared.queries.Input.{Input}
use Rattle.strip_value.specs.declared.tables.ColumnDef.{ColumnDef}
use Rattle.strip_value.specs.declared.tables.TableDef.{TableDef}
use Rattle.strip_ast.specs.declared.queries.EntryTree.{EntryTree}
use Rattle.strip_setup.specs.declared.scope.Entry.{Entry}
use Rattle.strip_acts.specs.Suiting.{has_column, kinds_in}
use Rattle.strip_acts.specs.Trees.{alias_at, column_name, entries_of, no_column, no_entry, origin_of}
use Rattle.strip_acts.proofs.Tests.{below}

abbrev entry_at : Bool → ℕ → List ColumnDef → Entry
entry_at named n columns = record { alias = if named then Some (alias_at n) else None; columns = columns }

-- the entries from a number on
abbrev entries_from : Bool → ℕ → List (List ColumnDef) → List Entry
entries_from named n columns = map (λ (numbered : ℕ × List ColumnDef). entry_at named numbered.0 numbered.1) (enumerate_from n columns)

-- ---- the names of entries

named_from : (n k : ℕ) (columns : List (List ColumnDef)) (entry : ℕ) → k ≡ n + entry → entry < length columns → (get_or (entries_from true n columns) entry no_entry).alias ≡ Some (alias_at k)
named_from n k [] entry is lt = absurd (omega arith)
named_from n k (here ∷ columns) zero is lt =
    let same : n ≡ k = omega arith in
    ap (λ (m : ℕ). Some (alias_at m)) same
named_from n k (here ∷ columns) (suc entry) is lt = named_from (n + 1) k columns entry (omega arith) (omega arith)

pub alias_there : (columns : List (List ColumnDef)) (entry : ℕ) → entry < length columns → (get_or (entries_of true columns) entry no_entry).alias ≡ Some (alias_at entry)
alias_there columns entry lt = named_from 0 entry columns entry (omega arith) lt

past_from : (named : Bool) (n : ℕ) (columns : List (List ColumnDef)) (entry : ℕ) → length columns ≤ entry → (get_or (entries_from named n columns) entry no_entry).alias ≡ None
past_from named n [] entry past = refl
past_from named n (here ∷ columns) zero past = absurd (omega arith)
past_from named n (here ∷ columns) (suc entry) past = past_from named (n + 1) columns entry (omega arith)

pub alias_past : (columns : List (List ColumnDef)) (entry : ℕ) → length columns ≤ entry → (get_or (entries_of true columns) entry no_entry).alias ≡ None
alias_past columns entry past = past_from true 0 columns entry past

bare_from : (n : ℕ) (columns : List (List ColumnDef)) (entry : ℕ) → (get_or (entries_from false n columns) entry no_entry).alias ≡ None
bare_from n [] entry = refl
bare_from n (here ∷ columns) zero = refl
bare_from n (here ∷ columns) (suc entry) = bare_from (n + 1) columns entry

pub alias_bare : (columns : List (List ColumnDef)) (entry : ℕ) → (get_or (entries_of false columns) entry no_entry).alias ≡ None
alias_bare columns entry = bare_from 0 columns entry

-- what stands before a column is the name of its entry, if it has one

pub bare_is : (named : Bool) (columns : List (List ColumnDef)) (entry : ℕ) → named ≡ false → None ≡ (get_or (entries_of named columns) entry no_entry).alias
bare_is true columns entry is = cc
bare_is false columns entry is = sym (alias_bare columns entry)

pub there_is : (named : Bool) (columns : List (List ColumnDef)) (entry : ℕ) (name : List ℕ) → named ≡ true → entry < length columns → name ≡ alias_at entry → Some name ≡ (get_or (entries_of named columns) entry no_entry).alias
there_is true columns entry name is lt name_is = ap (λ (n : List ℕ). Some n) name_is ∙ sym (alias_there columns entry lt)
there_is false columns entry name is lt name_is = cc

pub past_is : (named : Bool) (columns : List (List ColumnDef)) (entry : ℕ) → length columns ≤ entry → None ≡ (get_or (entries_of named columns) entry no_entry).alias
past_is named columns entry past = sym (past_from named 0 columns entry past)

-- ---- the names of columns

columns_from : (named : Bool) (n : ℕ) (columns : List (List ColumnDef)) (entry : ℕ) → (get_or (entries_from named n columns) entry no_entry).columns ≡ get_or columns entry []
columns_from named n [] entry = refl
columns_from named n (here ∷ columns) zero = refl
columns_from named n (here ∷ columns) (suc entry) = columns_from named (n + 1) columns entry

-- a column has the same name in its entry, whether that has a name or not
pub column_name_is : (named : Bool) (columns : List (List ColumnDef)) (entry column : ℕ) → column_name (entries_of named columns) entry column ≡ (get_or (get_or columns entry []) column no_column).name
column_name_is named columns entry column = ap (λ (here : List ColumnDef). (get_or here column no_column).name) (columns_from named 0 columns entry)

kinds_here : (columns : List (List ColumnDef)) (entry : ℕ) → length (get_or (kinds_in columns) entry []) ≡ length (get_or columns entry [])
kinds_here [] entry = refl
kinds_here (here ∷ columns) zero = length-map here (λ (column : ColumnDef). column.kind)
kinds_here (here ∷ columns) (suc entry) = kinds_here columns entry

pub column_there : (columns : List (List ColumnDef)) (entry column : ℕ) → has_column (kinds_in columns) entry column ≡ true → column < length (get_or columns entry [])
column_there columns entry column there =
    let len = kinds_here columns entry in
    let lt = below column (length (get_or (kinds_in columns) entry [])) there in
    omega arith

-- what stands at a place of a list stands there whatever a place outside gives
pub same_place : {A : Type 0} (xs : List A) (i : ℕ) (x y : A) → i < length xs → x ≡ get_or xs i x → x ≡ get_or xs i y
same_place [] i x y lt is = absurd (omega arith)
same_place (z ∷ xs) zero x y lt is = is
same_place (z ∷ xs) (suc i) x y lt is = same_place xs i x y (omega arith) is

pub column_found : (columns : List (List ColumnDef)) (here : List ColumnDef) (entry column : ℕ) (found : ColumnDef) → here ≡ get_or columns entry [] → column < length here → found ≡ get_or here column found → found.name ≡ (get_or (get_or columns entry []) column no_column).name
column_found columns here entry column found here_is lt is =
    ap (λ (c : ColumnDef). c.name) (same_place here column found no_column lt is) ∙ ap (λ (cs : List ColumnDef). (get_or cs column no_column).name) here_is

-- ---- trees of entries

-- the trees of the entries from a number on
abbrev pub trees_from : List TableDef → ℕ → List Input → List EntryTree
trees_from tables n inputs =
    map (λ (numbered : ℕ × Input). record { origin = origin_of tables numbered.1; alias = Some (alias_at numbered.0) }) (enumerate_from n inputs)
