-- Rows of a query's entries are of the kinds that the entries have, and numbers at combinations of them stay small.
use Rattle.std.proofs.Common.{◌≡◌, ℕ, ◌+◌, ◌<◌, List, [], ◌∷◌, ◌++◌, length, map, take, get_or, Option, Some, None, slice_get, sym, ap, ap₂, ◌∙◌, subst, option_map}
use Rattle.std.proofs.lemmas.List.{map-append, take_more}
use Rattle.std.specs.List.{All, AllByRecursion}
use Rattle.std.proofs.lemmas.List.Elements.{recursion_from_All}
use Rattle.std.proofs.lemmas.Option.{slice_get-map}
use Rattle.strip_value.specs.declared.kinds.Kind.{Kind}
use Rattle.strip_value.specs.declared.values.Value.{Value}
use Rattle.strip_value.specs.declared.tables.ColumnDef.{ColumnDef}
use Rattle.strip_value.specs.declared.queries.Input.{Input}
use Rattle.strip_value.specs.declared.expressions.Calc.{Calc}
use Rattle.strip_value.specs.declared.expressions.Calc as calc
use Rattle.strip_value.specs.declared.expressions.Test.{Test}
use Rattle.strip_value.specs.declared.expressions.Test as test
use Rattle.strip_value.specs.declared.queries.Item.{Item}
use Rattle.strip_value.specs.declared.queries.Place.{Place}
use Rattle.strip_value.specs.declared.queries.Query.{Query}
use Rattle.strip_value.specs.declared.queries.What.{What}
use Rattle.strip_value.specs.declared.queries.What.TheVariants as what
use Rattle.strip_value.specs.Trees as tree
use Rattle.strip_value.specs.Bounds.{EntriesHaveKinds, IsKinded, IsNumeric, SuitsItem, SuitsTest, table_kinds}
use Rattle.strip_value.specs.Kinds.{FitsColumns, FitsKinds}
use Rattle.strip_value.specs.Query.{Environment, entry_rows}
use Rattle.strip_value.specs.Table.{IsTable, Keyed}
use Rattle.strip_value.proofs.Lists.{all_weaker}
use Rattle.strip_query.specs.Laws.{FitEntries}
use Rattle.strip_query.proofs.BoundLaws.{parts_stay_narrow}
use Rattle.strip_eval.specs.Near.{ChosenFit, EntriesFit, EntryFits, FitLists, IsNearPart, IsNearPlain, IsNearTest, SuitsRows}

-- ---- tables

kinds_of_columns : (columns : List ColumnDef) (row : List Value) → FitsColumns columns row → FitsKinds (map (λ c. c.kind) columns) row
kinds_of_columns [] [] fits = tt
kinds_of_columns [] (v ∷ row) fits = absurd fits
kinds_of_columns (c ∷ columns) [] fits = absurd fits
kinds_of_columns (c ∷ columns) (v ∷ row) fits = (fits.0, kinds_of_columns columns row fits.1)

-- the rows of a table are of the kinds of its columns
pub table_fits : (tables : List Keyed) (id : ℕ) (table : Keyed) (kinds : List Kind) → slice_get tables id ≡ Some table → IsTable table.def table.rows → slice_get (map table_kinds tables) id ≡ Some kinds
    → AllByRecursion (FitsKinds kinds) table.rows
table_fits tables id table kinds there is_table has =
    let one : Some (table_kinds table) ≡ Some kinds = sym (slice_get-map table_kinds tables id ∙ ap (λ (o : Option Keyed). option_map table_kinds o) there) ∙ has in
    let same : table_kinds table ≡ kinds = cc in
    subst (λ ks. AllByRecursion (FitsKinds ks) table.rows) same (all_weaker (FitsColumns table.def.columns) (FitsKinds (table_kinds table))
    (λ row fits. kinds_of_columns table.def.columns row fits) table.rows is_table.fits)

-- ---- entries

-- one entry more
entry_added : (env : Environment) (inputs : List Input) (lists : List (List (List Value))) (input : Input) (rows : List (List Value)) → EntriesFit env inputs lists → EntryFits env input rows
    → EntriesFit env (inputs ++ input ∷ []) (lists ++ rows ∷ [])
entry_added env [] [] input rows fit one = (one, tt)
entry_added env [] (l ∷ lists) input rows fit one = absurd fit
entry_added env (i ∷ inputs) [] input rows fit one = absurd fit
entry_added env (i ∷ inputs) (l ∷ lists) input rows fit one = (fit.0, entry_added env inputs lists input rows fit.1 one)

pub entries_more : (env : Environment) (inputs : List Input) (at : ℕ) (lists : List (List (List Value))) (input : Input) (rows : List (List Value)) → at < length inputs → input ≡ get_or inputs at input
    → EntriesFit env (take at inputs) lists → EntryFits env input rows → EntriesFit env (take (at + 1) inputs) (lists ++ rows ∷ [])
entries_more env inputs at lists input rows lt is fit one =
    subst (λ ins. EntriesFit env ins (lists ++ rows ∷ [])) (sym (take_more inputs at input lt ∙ ap (λ i. take at inputs ++ i ∷ []) (sym is))) (entry_added env (take at inputs) lists input rows fit one)

pub rows_more : (env : Environment) (inputs : List Input) (at : ℕ) (lists : List (List (List Value))) (input : Input) (rows : List (List Value)) → at < length inputs → input ≡ get_or inputs at input
    → lists ≡ map (entry_rows env) (take at inputs) → rows ≡ entry_rows env input → lists ++ rows ∷ [] ≡ map (entry_rows env) (take (at + 1) inputs)
rows_more env inputs at lists input rows lt is before now =
    ap₂ (λ ls rs. ls ++ rs ∷ []) before now ∙ sym (ap (map (entry_rows env)) (take_more inputs at input lt ∙ ap (λ i. take at inputs ++ i ∷ []) (sym is)) ∙ map-append (entry_rows env) (take at inputs) (input ∷ []))

-- whatever kinds the entries have, the rows are of them
pub entries_fit : (env : Environment) (inputs : List Input) (lists : List (List (List Value))) (kinds : List (List Kind)) → EntriesFit env inputs lists → EntriesHaveKinds env inputs kinds → FitLists kinds lists
entries_fit env [] [] [] fit has = tt
entries_fit env [] [] (ks ∷ kinds) fit has = absurd has
entries_fit env [] (l ∷ lists) kinds fit has = absurd fit
entries_fit env (i ∷ inputs) [] kinds fit has = absurd fit
entries_fit env (i ∷ inputs) (l ∷ lists) [] fit has = absurd has
entries_fit env (i ∷ inputs) (l ∷ lists) (ks ∷ kinds) fit has = (fit.0 ks has.0, entries_fit env inputs lists kinds fit.1 has.1)

-- ---- combinations

chosen_next : (kinds : List (List Kind)) (chosen : List (List Value)) (row : List Value) (rows : List (List Value)) (others : List (List (List Value))) → ChosenFit kinds chosen ((row ∷ rows) ∷ others)
    → ChosenFit kinds (chosen ++ row ∷ []) others × ChosenFit kinds chosen (rows ∷ others)
chosen_next [] [] row rows others fit = absurd fit
chosen_next [] (c ∷ chosen) row rows others fit = absurd fit
chosen_next (ks ∷ kinds) [] row rows others fit = ((fit.0.0, fit.1), (fit.0.1, fit.1))
chosen_next (ks ∷ kinds) (c ∷ chosen) row rows others fit = let rest = chosen_next kinds chosen row rows others fit.1 in ((fit.0, rest.0), (fit.0, rest.1))

-- the next row of the next entry is chosen, or let go
pub suits_next : (query : Query) (chosen : List (List Value)) (row : List Value) (rows : List (List Value)) (others : List (List (List Value))) → SuitsRows query chosen ((row ∷ rows) ∷ others)
    → SuitsRows query (chosen ++ row ∷ []) others × SuitsRows query chosen (rows ∷ others)
suits_next query chosen row rows others suits = let next = chosen_next suits.0 chosen row rows others suits.2 in ((suits.0, suits.1, next.0), (suits.0, suits.1, next.1))

pub chosen_all : (kinds : List (List Kind)) (chosen : List (List Value)) → ChosenFit kinds chosen [] → FitEntries kinds chosen
chosen_all [] [] fit = tt
chosen_all [] (c ∷ chosen) fit = absurd fit
chosen_all (ks ∷ kinds) [] fit = absurd fit
chosen_all (ks ∷ kinds) (c ∷ chosen) fit = (fit.0, chosen_all kinds chosen fit.1)

-- ---- numbers

near_test : (kinds : List (List Kind)) (rows : List (List Value)) (t : Test) → FitEntries kinds rows → SuitsTest kinds t → IsNearTest rows t
near_test kinds rows test.True fit suits = tt
near_test kinds rows (test.Compare how a b) fit suits = (parts_stay_narrow kinds rows a fit suits.0, parts_stay_narrow kinds rows b fit suits.1)
near_test kinds rows (tree.Not t) fit suits = near_test kinds rows t fit suits
near_test kinds rows (tree.And s t) fit suits = (near_test kinds rows s fit suits.0, near_test kinds rows t fit suits.1)
near_test kinds rows (tree.Or s t) fit suits = (near_test kinds rows s fit suits.0, near_test kinds rows t fit suits.1)

pub near_filter : (query : Query) (rows : List (List Value)) → SuitsRows query rows [] → IsNearTest rows query.filter
near_filter query rows suits = near_test suits.0 rows query.filter (chosen_all suits.0 rows suits.2) suits.1.filter_suits

near_plain : (kinds : List (List Kind)) (rows : List (List Value)) (w : What) → FitEntries kinds rows → SuitsItem kinds None w → IsNearPlain rows w
near_plain kinds rows (what.Plain e) fit suits = parts_stay_narrow kinds rows e fit suits
near_plain kinds rows (what.Sum e) fit suits = tt
near_plain kinds rows what.Count fit suits = tt

pub near_items : (query : Query) (rows : List (List Value)) → query.group ≡ None → SuitsRows query rows [] → AllByRecursion (λ item. IsNearPlain rows item.what) query.items
near_items query rows plain suits =
    let fit = chosen_all suits.0 rows suits.2 in
    let items = subst (λ g. All (λ (item : Item). SuitsItem suits.0 g item.what) query.items) plain suits.1.items_suit in
    all_weaker (λ item. SuitsItem suits.0 None item.what) (λ item. IsNearPlain rows item.what) (λ item s. near_plain suits.0 rows item.what fit s) query.items
    (recursion_from_All (λ item. SuitsItem suits.0 None item.what) query.items items)

kinded : (kinds : List (List Kind)) (e : Calc) → IsNumeric kinds e → IsKinded kinds e
kinded kinds (calc.Number n) numeric = tt
kinded kinds (calc.Text t) numeric = tt
kinded kinds (calc.Column entry column) numeric = numeric.0
kinded kinds (tree.Add a b) numeric = numeric
kinded kinds (tree.Sub a b) numeric = numeric
kinded kinds (tree.Mul a b) numeric = numeric

near_part : (kinds : List (List Kind)) (rows : List (List Value)) (places : List Place) (w : What) → FitEntries kinds rows → SuitsItem kinds (Some places) w → IsNearPart rows w
near_part kinds rows places (what.Plain e) fit suits = tt
near_part kinds rows places (what.Sum e) fit suits = parts_stay_narrow kinds rows e fit (kinded kinds e suits.0, suits.1)
near_part kinds rows places what.Count fit suits = tt

pub near_parts : (query : Query) (rows : List (List Value)) (places : List Place) → query.group ≡ Some places → SuitsRows query rows [] → AllByRecursion (λ item. IsNearPart rows item.what) query.items
near_parts query rows places grouped suits =
    let fit = chosen_all suits.0 rows suits.2 in
    let items = subst (λ g. All (λ (item : Item). SuitsItem suits.0 g item.what) query.items) grouped suits.1.items_suit in
    all_weaker (λ item. SuitsItem suits.0 (Some places) item.what) (λ item. IsNearPart rows item.what) (λ item s. near_part suits.0 rows places item.what fit s) query.items
    (recursion_from_All (λ item. SuitsItem suits.0 (Some places) item.what) query.items items)
