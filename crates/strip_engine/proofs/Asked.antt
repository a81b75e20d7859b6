-- What is asked of the engine: the tables that acts name are there, what queries read may be read, and which table isn't held.
use Rattle.std.proofs.Common.{◌≡◌, ◌≢◌, ℕ, zero, suc, ◌+◌, ◌<◌, ◌≤◌, Bool, true, false, not, ◌||◌, List, [], ◌∷◌, drop, drop-cons, map, filter, get_or, length, min, Option, Some, None, slice_get, refl, ap, sym, ◌∙◌, subst, arith}
use Rattle.std.specs.List.{AllByRecursion, list_all, list_any}
use Rattle.std.proofs.lemmas.List.{length-map}
use Rattle.std.proofs.lemmas.List.Elements.{All-from_recursion}
use Rattle.strip_value.specs.declared.acts.Act.{Act}
use Rattle.strip_value.specs.declared.acts.Act.TheVariants.{Insert, Put, Update, Delete, Select, Show}
use Rattle.strip_value.specs.declared.acts.Holds.{Holds}
use Rattle.strip_value.specs.declared.expressions.Calc.{Calc}
use Rattle.strip_value.specs.declared.expressions.Calc as calc
use Rattle.strip_value.specs.declared.expressions.Test.{Test}
use Rattle.strip_value.specs.declared.expressions.Test as test
use Rattle.strip_value.specs.declared.kinds.Kind.{Kind}
use Rattle.strip_value.specs.declared.kinds.Kind.TheVariants as kind
use Rattle.strip_value.specs.declared.queries.Input.{Input}
use Rattle.strip_value.specs.declared.queries.Input.TheVariants as input
use Rattle.strip_value.specs.declared.queries.Item.{Item}
use Rattle.strip_value.specs.declared.queries.Place.{Place}
use Rattle.strip_value.specs.declared.queries.Query.{Query}
use Rattle.strip_value.specs.declared.queries.What.{What}
use Rattle.strip_value.specs.declared.queries.What.TheVariants as what
use Rattle.strip_value.specs.declared.tables.TableDef.{TableDef}
use Rattle.strip_value.specs.Bounds.{EntriesHaveKinds, HasKinds, IsBounded, IsComparable, IsKinded, IsNumeric, IsThere, Suits, SuitsGroup, SuitsItem, SuitsTest, kind_of, table_kinds}
use Rattle.strip_value.specs.Query.{entry_rows, is_column}
use Rattle.strip_value.specs.Table.{Keyed}
use Rattle.strip_value.specs.Trees as tree
use Rattle.strip_names.specs.Grouped.{is_misplaced}
use Rattle.strip_kinds.specs.Mismatch.{differ, is_text_kind}
use Rattle.strip_acts.specs.Suiting.{has_column, is_bounded, is_kinded, is_numeric, kinds_in, suits_filter, suits_group, suits_input, suits_item, suits_query, suits_truth, suits_value}
use Rattle.strip_acts.specs.Trees.{input_columns}
use Rattle.strip_acts.proofs.Parts.{query_kinds, query_suits}
use Rattle.strip_acts.proofs.Tests.{below, both}
use Rattle.strip_meaning.specs.Contents.{def_at}
use Rattle.strip_meaning.specs.Effect.{smaller}
use Rattle.strip_model.specs.Legal.{IsTableThere, Names}
use Rattle.strip_eval.specs.Reads.{HaveFew, ReadsFew}
use Rattle.strip_engine.specs.Asked.{CanCount, IsAsked, is_unheld, least_unheld, standing}
use Rattle.strip_engine.specs.Steps.{defs_of}

-- ---- expressions and filters

not_text : (k : Kind) → not (is_text_kind k) ≡ true → k ≢ kind.Text
not_text k is e = let text = ap is_text_kind e in cc

numeric : (kinds : List (List Kind)) (e : Calc) → is_numeric kinds e ≡ true → IsNumeric kinds e
numeric kinds (calc.Number n) is = tt
numeric kinds (calc.Text t) is = cc
numeric kinds (calc.Column entry column) is =
    let parts = both _ _ is in
    (below _ _ parts.0, not_text _ parts.1)
numeric kinds (tree.Add a b) is = let parts = both _ _ is in (numeric kinds a parts.0, numeric kinds b parts.1)
numeric kinds (tree.Sub a b) is = let parts = both _ _ is in (numeric kinds a parts.0, numeric kinds b parts.1)
numeric kinds (tree.Mul a b) is = let parts = both _ _ is in (numeric kinds a parts.0, numeric kinds b parts.1)

kinded : (kinds : List (List Kind)) (e : Calc) → is_kinded kinds e ≡ true → IsKinded kinds e
kinded kinds (calc.Number n) is = tt
kinded kinds (calc.Text t) is = tt
kinded kinds (calc.Column entry column) is = below _ _ is
kinded kinds (tree.Add a b) is = numeric kinds (tree.Add a b) is
kinded kinds (tree.Sub a b) is = numeric kinds (tree.Sub a b) is
kinded kinds (tree.Mul a b) is = numeric kinds (tree.Mul a b) is

bounded : (kinds : List (List Kind)) (e : Calc) → is_bounded kinds e ≡ true → IsBounded kinds e
bounded kinds (calc.Number n) is = below _ _ is
bounded kinds (calc.Text t) is = tt
bounded kinds (calc.Column entry column) is = tt
bounded kinds (tree.Add a b) is =
    let parts = both _ _ is in
    let rest = both _ _ parts.1 in
    (bounded kinds a parts.0, bounded kinds b rest.0, below _ _ rest.1)
bounded kinds (tree.Sub a b) is =
    let parts = both _ _ is in
    let rest = both _ _ parts.1 in
    (bounded kinds a parts.0, bounded kinds b rest.0, below _ _ rest.1)
bounded kinds (tree.Mul a b) is =
    let parts = both _ _ is in
    let rest = both _ _ parts.1 in
    (bounded kinds a parts.0, bounded kinds b rest.0, below _ _ rest.1)

valued : (kinds : List (List Kind)) (e : Calc) → suits_value kinds e ≡ true → IsKinded kinds e × IsBounded kinds e
valued kinds e is = let parts = both _ _ is in (kinded kinds e parts.0, bounded kinds e parts.1)

comparable : (a b : Kind) → not (differ (is_text_kind a) (is_text_kind b)) ≡ true → IsComparable a b
comparable kind.Text kind.Text same = refl
comparable kind.Text kind.Int same = cc
comparable kind.Text kind.Big same = cc
comparable kind.Int kind.Text same = cc
comparable kind.Int kind.Int same = λ e. cc
comparable kind.Int kind.Big same = λ e. cc
comparable kind.Big kind.Text same = cc
comparable kind.Big kind.Int same = λ e. cc
comparable kind.Big kind.Big same = λ e. cc

truth : (kinds : List (List Kind)) (t : Test) → suits_truth kinds t ≡ true → SuitsTest kinds t
truth kinds test.True is = tt
truth kinds (test.Compare how a b) is =
    let parts = both _ _ is in
    let rest = both _ _ parts.1 in
    (valued kinds a parts.0, valued kinds b rest.0, comparable (kind_of kinds a) (kind_of kinds b) rest.1)
truth kinds (tree.Not t) is = truth kinds t is
truth kinds (tree.And s t) is = let parts = both _ _ is in (truth kinds s parts.0, truth kinds t parts.1)
truth kinds (tree.Or s t) is = let parts = both _ _ is in (truth kinds s parts.0, truth kinds t parts.1)

filtered : (kinds : List (List Kind)) (t : Test) → suits_filter kinds t ≡ true → SuitsTest kinds t
filtered kinds test.True is = tt
filtered kinds (test.Compare how a b) is = truth kinds (test.Compare how a b) is
filtered kinds (tree.Not t) is = truth kinds t is
filtered kinds (tree.And s t) is = truth kinds (tree.And s t) is
filtered kinds (tree.Or s t) is = truth kinds (tree.Or s t) is

-- ---- items and groups

-- what isn't misplaced is found
found : (b : Bool) → not b ≡ false → b ≡ true
found true e = refl
found false e = cc

item_suits : (kinds : List (List Kind)) (group : Option (List Place)) (w : What) → suits_item kinds w ≡ true → is_misplaced group w ≡ false → SuitsItem kinds group w
item_suits kinds None (what.Plain e) suits placed = valued kinds e suits
item_suits kinds None (what.Sum e) suits placed = cc
item_suits kinds None what.Count suits placed = cc
item_suits kinds (Some places) (what.Plain e) suits placed = found (list_any (λ place. is_column place e) places) placed
item_suits kinds (Some places) (what.Sum e) suits placed =
    let parts = both _ _ suits in
    let rest = both _ _ parts.1 in
    (numeric kinds e parts.0, bounded kinds e rest.0, below _ _ rest.1)
item_suits kinds (Some places) what.Count suits placed = tt

neither_of : (a b : Bool) → not (a || b) ≡ true → (a ≡ false) × (not b ≡ true)
neither_of false b e = (refl, e)
neither_of true b e = cc

items_suit : (kinds : List (List Kind)) (group : Option (List Place)) (items : List Item) → list_all (λ item. suits_item kinds item.what) items ≡ true → not (list_any (λ item. is_misplaced group item.what) items) ≡ true
    → AllByRecursion (λ item. SuitsItem kinds group item.what) items
items_suit kinds group [] suit placed = tt
items_suit kinds group (item ∷ items) suit placed =
    let parts = both _ _ suit in
    let apart = neither_of _ _ placed in
    (item_suits kinds group item.what parts.0 apart.0, items_suit kinds group items parts.1 apart.1)

places_there : (kinds : List (List Kind)) (places : List Place) → list_all (λ (place : Place). has_column kinds place.entry place.column) places ≡ true → AllByRecursion (λ place. IsThere kinds place.entry place.column) places
places_there kinds [] there = tt
places_there kinds (place ∷ places) there =
    let parts = both _ _ there in
    (below _ _ parts.0, places_there kinds places parts.1)

one_entry : (entries : List Input) (places : List Place) (tables : List Keyed) → CanCount (Some places) entries tables → length entries ≡ 1
one_entry (input.Table id ∷ []) places tables can = refl
one_entry [] places tables can = absurd can
one_entry (input.Table id ∷ other ∷ entries) places tables can = absurd can
one_entry (input.Before id ∷ entries) places tables can = absurd can
one_entry (input.Inserted ∷ entries) places tables can = absurd can
one_entry (input.Deleted ∷ entries) places tables can = absurd can
one_entry (input.Old ∷ entries) places tables can = absurd can
one_entry (input.New ∷ entries) places tables can = absurd can

groups_suit : (kinds : List (List Kind)) (entries : List Input) (group : Option (List Place)) (tables : List Keyed) → suits_group kinds group ≡ true → CanCount group entries tables → SuitsGroup kinds entries group
groups_suit kinds entries None tables suits can = tt
groups_suit kinds entries (Some places) tables suits can =
    (one_entry entries places tables can, All-from_recursion (λ (place : Place). IsThere kinds place.entry place.column) places (places_there kinds places suits))

-- ---- entries

kinds_at : (tables : List Keyed) (id : ℕ) → id < length tables → slice_get (map table_kinds tables) id ≡ Some (map (λ c. c.kind) (def_at (defs_of tables) id).columns)
kinds_at [] id lt = absurd (omega arith)
kinds_at (t ∷ tables) zero lt = refl
kinds_at (t ∷ tables) (suc id) lt = kinds_at tables id (omega arith)

entry_has : (tables : List Keyed) (entry : Input) → suits_input (defs_of tables) entry ≡ true → HasKinds (standing tables) entry (map (λ c. c.kind) (input_columns (defs_of tables) entry))
entry_has tables (input.Table id) suits =
    let there = below id (length (defs_of tables)) suits in
    kinds_at tables id (omega (arith, length-map tables (λ (t : Keyed). t.def)))
entry_has tables (input.Before id) suits = cc
entry_has tables input.Inserted suits = cc
entry_has tables input.Deleted suits = cc
entry_has tables input.Old suits = cc
entry_has tables input.New suits = cc

entries_have : (tables : List Keyed) (entries : List Input) → list_all (suits_input (defs_of tables)) entries ≡ true → EntriesHaveKinds (standing tables) entries (kinds_in (map (input_columns (defs_of tables)) entries))
entries_have tables [] suit = tt
entries_have tables (entry ∷ entries) suit =
    let parts = both _ _ suit in
    (entry_has tables entry parts.0, entries_have tables entries parts.1)

-- ---- queries

-- a query that suits the tables may be read of them
pub query_asked : (tables : List Keyed) (query : Query) → suits_query (defs_of tables) query ≡ true → CanCount query.group query.entries tables → Suits query (standing tables)
unfolding Suits
query_asked tables query suits can =
    let parts = query_suits (defs_of tables) query suits in
    let kinds = query_kinds (defs_of tables) query in (
      kinds,
      entries_have tables query.entries parts.inputs,
      record {
        filter_suits = filtered kinds query.filter parts.filter;
        items_suit = All-from_recursion (λ item. SuitsItem kinds query.group item.what) query.items (items_suit kinds query.group query.items parts.items parts.placed);
        group_suits = groups_suit kinds query.entries query.group tables parts.group can;
      },
    )

few_asked : (group : Option (List Place)) (entries : List Input) (tables : List Keyed) → CanCount group entries tables → HaveFew group (map (entry_rows (standing tables)) entries)
few_asked None entries tables can = tt
few_asked (Some places) (input.Table id ∷ []) tables can = (can, tt)
few_asked (Some places) [] tables can = absurd can
few_asked (Some places) (input.Table id ∷ other ∷ entries) tables can = absurd can
few_asked (Some places) (input.Before id ∷ entries) tables can = absurd can
few_asked (Some places) (input.Inserted ∷ entries) tables can = absurd can
few_asked (Some places) (input.Deleted ∷ entries) tables can = absurd can
few_asked (Some places) (input.Old ∷ entries) tables can = absurd can
few_asked (Some places) (input.New ∷ entries) tables can = absurd can

pub query_few : (tables : List Keyed) (query : Query) → CanCount query.group query.entries tables → ReadsFew query (standing tables)
query_few tables query can = few_asked query.group query.entries tables can

-- ---- the tables that acts name

entries_there : (tables : List TableDef) (entries : List Input) → list_all (suits_input tables) entries ≡ true → AllByRecursion (IsTableThere (length tables)) entries
entries_there tables [] suit = tt
entries_there tables (entry ∷ entries) suit =
    let parts = both _ _ suit in
    (entry_there entry parts.0, entries_there tables entries parts.1)
  where
    entry_there : (entry : Input) → suits_input tables entry ≡ true → IsTableThere (length tables) entry
    entry_there (input.Table id) suits = below id (length tables) suits
    entry_there (input.Before id) suits = cc
    entry_there input.Inserted suits = cc
    entry_there input.Deleted suits = cc
    entry_there input.Old suits = cc
    entry_there input.New suits = cc

pub asked_names : (tables : List TableDef) (act : Act) → IsAsked tables act → Names (length tables) act
asked_names tables (Put id row) asked = asked
asked_names tables (Select query) asked = entries_there tables query.entries (query_suits tables query asked).inputs
asked_names tables (Show id) asked = asked
asked_names tables (Insert id rows) asked = absurd asked
asked_names tables (Update id sets filter) asked = absurd asked
asked_names tables (Delete id filter) asked = absurd asked

-- a query that is asked suits the tables
pub query_suits_those : (tables : List Keyed) (act : Act) (query : Query) → act ≡ Select query → IsAsked (defs_of tables) act → suits_query (defs_of tables) query ≡ true
query_suits_those tables act query is asked = subst (IsAsked (defs_of tables)) is asked

-- ---- the smallest table that isn't held

min_assoc : (a b c : ℕ) → min a (min b c) ≡ min (min a b) c
min_assoc a b c = omega arith

smaller_assoc : (a b c : Option ℕ) → smaller a (smaller b c) ≡ smaller (smaller a b) c
smaller_assoc None b c = refl
smaller_assoc (Some a) None c = refl
smaller_assoc (Some a) (Some b) None = refl
smaller_assoc (Some a) (Some b) (Some c) = ap (λ n. Some n) (min_assoc a b c)

-- one entry more
pub unheld_more : (holds : Holds) (best : Option ℕ) (entry : Input) (entries : List Input) → smaller best (least_unheld holds (entry ∷ entries)) ≡ smaller (smaller best (least_unheld holds (entry ∷ []))) (least_unheld holds entries)
unheld_more holds best entry entries = ap (smaller best) (one entry) ∙ smaller_assoc best (least_unheld holds (entry ∷ [])) (least_unheld holds entries)
  where
    by_test : (id : ℕ) (b : Bool) → is_unheld holds id ≡ b → least_unheld holds (input.Table id ∷ entries) ≡ smaller (least_unheld holds (input.Table id ∷ [])) (least_unheld holds entries)
    by_test id true e = cc
    by_test id false e = cc

    one : (entry : Input) → least_unheld holds (entry ∷ entries) ≡ smaller (least_unheld holds (entry ∷ [])) (least_unheld holds entries)
    one (input.Table id) = by_test id (is_unheld holds id) refl
    one (input.Before id) = refl
    one input.Inserted = refl
    one input.Deleted = refl
    one input.Old = refl
    one input.New = refl

-- the loop over the entries goes on
pub unheld_passed : (holds : Holds) (best found now : Option ℕ) (entries : List Input) (i : ℕ) (entry : Input) → i < length entries → entry ≡ get_or entries i entry → found ≡ least_unheld holds (entry ∷ []) → now ≡ smaller best found
    → smaller now (least_unheld holds (drop (i + 1) entries)) ≡ smaller best (least_unheld holds (drop i entries))
unheld_passed holds best found now entries i entry within is one more =
    let next : drop i entries ≡ get_or entries i entry ∷ drop (suc i) entries = drop-cons entries i entry within in
    let place : i + 1 ≡ suc i = omega arith in
    rw (next, ← is, place) (rw (more, one) (sym (unheld_more holds best entry (drop (suc i) entries))))

drop_end : {A : Type 0} (xs : List A) (i : ℕ) → length xs ≤ i → drop i xs ≡ []
drop_end [] zero done = refl
drop_end [] (suc i) done = refl
drop_end (x ∷ xs) zero done = absurd (omega arith)
drop_end (x ∷ xs) (suc i) done = drop_end xs i (omega arith)

-- where no entry is left, the best so far is the smallest of all
pub unheld_done : (holds : Holds) (best : Option ℕ) (entries : List Input) (i : ℕ) → length entries ≤ i → smaller best (least_unheld holds (drop i entries)) ≡ least_unheld holds entries → best ≡ least_unheld holds entries
unheld_done holds best entries i done all = sym (ap (λ es. smaller best (least_unheld holds es)) (drop_end entries i done) ∙ alone best) ∙ all
  where
    alone : (o : Option ℕ) → smaller o None ≡ o
    alone None = refl
    alone (Some n) = refl
