-- Which columns of entries are meant, and that their places are small.
use Rattle.std.proofs.Common.{◌≡◌, ℕ, suc, ◌+◌, ◌≤◌, Bool, true, false, cond, List, [], ◌∷◌, ◌++◌, map, length, Option, Some, None, is_some, refl, sym, ap, subst, ◌∙◌, arith, length-append, flat_map}
use Rattle.std.specs.List.{AllByRecursion, enumerate_from}
use Rattle.std.specs.Option.{option_map, option_to_list, IfSome}
use Rattle.std.specs.Str.{bytes_eq}
use Rattle.std.proofs.lemmas.List.{length-map}
use Rattle.std.proofs.lemmas.List.Sums.{length-filter}
use Rattle.std.specs.List.{filter, count_by}
use Rattle.strip_value.specs.declared.queries.Place.{Place}
use Rattle.strip_value.specs.declared.tables.ColumnDef.{ColumnDef}
use Rattle.strip_value.specs.declared.tables.TableDef.{TableDef}
use Rattle.strip_ast.specs.declared.deeds.Deed.{Deed}
use Rattle.strip_ast.specs.declared.deeds.Deed.TheVariants as deed
use Rattle.strip_ast.specs.declared.queries.EntryTree.{EntryTree}
use Rattle.strip_ast.specs.declared.queries.Origin.{Origin}
use Rattle.strip_ast.specs.declared.queries.Origin.TheVariants as origin
use Rattle.strip_ast.specs.declared.queries.QueryTree.{QueryTree}
use Rattle.strip_setup.specs.declared.scope.Entry.{Entry}
use Rattle.strip_setup.specs.Small.{AreFew, AreNarrow}
use Rattle.strip_setup.specs.Catalog.{column_number, columns_of, table_named}
use Rattle.strip_setup.specs.Places.{AsksFew, column_meant, ChangesFew}
use Rattle.strip_setup.specs.Resolve.{in_rule, outside_rules}
use Rattle.strip_setup.specs.Queries.{Scope, entries_of, entry_of, execute_order, is_meant, moved_columns, origin_columns, own_entry, place_in, places_of}

-- ---- the columns that are meant

-- the places from the entry of a number on
abbrev pub places_from : Option (List ℕ) → List ℕ → ℕ → List Entry → List Place
places_from of name n entries = flat_map (place_in of name) (enumerate_from n entries)

-- the place in an entry, if there is one
abbrev pub places_at : ℕ → Option ℕ → List Place
places_at n None = []
places_at n (Some column) = record { entry = n; column = column } ∷ []

at_entry : (n : ℕ) (meant : Bool) (number : Option ℕ) → cond meant (option_to_list (option_map (λ column. record { entry = n; column = column }) number)) [] ≡ places_at n (cond meant number None)
at_entry n true None = refl
at_entry n true (Some column) = refl
at_entry n false number = refl

pub in_entry : (of : Option (List ℕ)) (name : List ℕ) (n : ℕ) (entry : Entry) → place_in of name (n, entry) ≡ places_at n (column_meant of name entry)
in_entry of name n entry = at_entry n (is_meant of entry.alias) (column_number entry.columns name)

has_one : (n : ℕ) (number : Option ℕ) (places : List Place) (k : ℕ) → length places ≡ k → length (places_at n number ++ places) ≡ cond (is_some number) (suc k) k
has_one n None places k e = e
has_one n (Some column) places k e = ap suc e

count_cons : {A : Type 0} (b : Bool) (x : A) (xs : List A) → length (cond b (x ∷ xs) xs) ≡ cond b (suc (length xs)) (length xs)
count_cons true x xs = refl
count_cons false x xs = refl

-- as many entries have the column as there are places
pub length_places : (of : Option (List ℕ)) (name : List ℕ) (n : ℕ) (entries : List Entry) → length (places_from of name n entries) ≡ length (filter (λ entry. is_some (column_meant of name entry)) entries)
length_places of name n [] = refl
length_places of name n (entry ∷ entries) =
    let rest = length_places of name (n + 1) entries in
    let k = length (filter (λ entry. is_some (column_meant of name entry)) entries) in
    ap (λ places. length (places ++ places_from of name (n + 1) entries)) (in_entry of name n entry)
    ∙ has_one n (column_meant of name entry) (places_from of name (n + 1) entries) k rest
    ∙ sym (count_cons (is_some (column_meant of name entry)) entry (filter (λ entry. is_some (column_meant of name entry)) entries))

pub count_places : (of : Option (List ℕ)) (name : List ℕ) (entries : List Entry) → count_by (λ entry. is_some (column_meant of name entry)) entries ≡ length (places_of entries of name)
count_places of name entries = sym (length_places of name 0 entries ∙ length-filter (λ entry. is_some (column_meant of name entry)) entries)

-- ---- entries are few

each_narrow : (scope : Scope) (trees : List EntryTree) → ((origin : Origin) → length (origin_columns scope origin) ≤ 17) → AllByRecursion (λ entry. length entry.columns ≤ 17) (map (entry_of scope) trees)
each_narrow scope [] narrow = tt
each_narrow scope (entry ∷ trees) narrow = (narrow entry.origin, each_narrow scope trees narrow)

either_narrow : (b : Bool) (table : TableDef) (other : Option TableDef) → length table.columns ≤ 16 → length (columns_of other) ≤ 16 → length (columns_of (cond b (Some table) other)) ≤ 16
either_narrow true table other here there = here
either_narrow false table other here there = there

-- a table that is there is narrow, and one that isn't has no column
pub named_narrow : (tables : List TableDef) (name : List ℕ) → AreNarrow tables → length (columns_of (table_named tables name)) ≤ 16
named_narrow [] name narrow = omega arith
named_narrow (table ∷ tables) name narrow =
    either_narrow (bytes_eq table.name name) table (table_named tables name) narrow.0 (named_narrow tables name narrow.1)

moved_narrow : (changed : Option (List ColumnDef)) → IfSome changed (λ columns. length columns ≤ 16) → length (moved_columns changed) ≤ 17
moved_narrow None few = omega arith
moved_narrow (Some columns) few = let len = length-append columns (execute_order ∷ []) in omega (arith, len, few)

origin_narrow : (scope : Scope) (from : Origin) → AreNarrow scope.tables → ChangesFew scope → length (origin_columns scope from) ≤ 17
origin_narrow scope (origin.Table name) narrow few = let here = named_narrow scope.tables name narrow in omega (arith, here)
origin_narrow scope (origin.Before name) narrow few = let here = named_narrow scope.tables name narrow in omega (arith, here)
origin_narrow scope origin.Inserted narrow few = moved_narrow scope.changed few
origin_narrow scope origin.Deleted narrow few = moved_narrow scope.changed few
origin_narrow scope origin.Old narrow few = moved_narrow scope.changed few
origin_narrow scope origin.New narrow few = moved_narrow scope.changed few

-- the entries of a query of at most three are few
pub query_few : (scope : Scope) (query : QueryTree) → length query.entries ≤ 3 → AreNarrow scope.tables → ChangesFew scope → AreFew (entries_of scope query)
query_few scope query three narrow few = record {
  few = subst (λ n. n ≤ 3) (sym (length-map query.entries (entry_of scope))) three;
  narrow = each_narrow scope query.entries (λ from. origin_narrow scope from narrow few);
}

-- so is the one entry of an update
pub own_few : (tables : List TableDef) (name : List ℕ) → AreNarrow tables → AreFew (own_entry tables name)
own_few tables name narrow =
    let here = named_narrow tables name narrow in
    record { few = omega arith; narrow = (omega (arith, here), tt) }

-- outside rules nothing is changed, and in a rule its table is
pub outside_changes : (tables : List TableDef) → ChangesFew (outside_rules tables)
outside_changes tables = tt

pub rule_changes : (tables : List TableDef) (table : List ℕ) → AreNarrow tables → ChangesFew (in_rule tables table)
rule_changes tables table narrow = named_narrow tables table narrow

-- the entries of a query that an act asks
pub select_few : (tables : List TableDef) (d : Deed) (query : QueryTree) (scope : Scope) → d ≡ deed.Select query → scope ≡ outside_rules tables → AsksFew d → AreNarrow tables → AreFew (entries_of scope query)
select_few tables d query scope is scope_is few narrow =
    subst (λ of. AreFew (entries_of of query)) (sym scope_is) (query_few (outside_rules tables) query (subst AsksFew is few) narrow tt)
