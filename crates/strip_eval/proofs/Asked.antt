-- The tests' queries may be asked.
use Rattle.std.proofs.Common.{◌≡◌, ◌≢◌, ◌^◌, ◌<◌, List, [], ◌∷◌, map, length, Option, Some, None, slice_get, refl, ap, subst, lit<}
use Rattle.std.specs.List.{AllByRecursion}
use Rattle.std.proofs.lemmas.List.Elements.{All-cons, All-nil, All-from_recursion}
use Rattle.strip_value.specs.declared.kinds.Kind.{Kind}
use Rattle.strip_value.specs.declared.kinds.Kind.TheVariants as kind
use Rattle.strip_value.specs.declared.values.Value.{Value}
use Rattle.strip_value.specs.declared.expressions.Calc.{Calc}
use Rattle.strip_value.specs.declared.expressions.Calc.TheVariants.{Column}
use Rattle.strip_value.specs.declared.expressions.Cmp.TheVariants as cmp
use Rattle.strip_value.specs.declared.expressions.Test.{Test}
use Rattle.strip_value.specs.declared.expressions.Test.TheVariants as test
use Rattle.strip_value.specs.declared.queries.Input.{Input}
use Rattle.strip_value.specs.declared.queries.Input.TheVariants as input
use Rattle.strip_value.specs.declared.queries.Item.{Item}
use Rattle.strip_value.specs.declared.queries.What.{What}
use Rattle.strip_value.specs.declared.queries.Place.{Place}
use Rattle.strip_value.specs.declared.queries.Query.{Query}
use Rattle.strip_value.specs.Bounds.{EntriesHaveKinds, HasKinds, IsBounded, IsNarrow, IsNumeric, IsThere, Suits, SuitsGroup, SuitsItem, SuitsTest, table_kinds}
use Rattle.strip_value.specs.Kinds.{FitsColumns, FitsKinds}
use Rattle.strip_value.specs.Query.{Environment, rows_at}
use Rattle.strip_value.specs.Table.{Keyed}
use Rattle.strip_value.specs.Trees.{Mul, Not}
use Rattle.strip_value.specs.declared.tables.ColumnDef.{ColumnDef}
use Rattle.strip_eval.specs.Reads.{ReadsFew}
use Rattle.strip_eval.specs.Tests.{HasParts, IsChain, IsJoined, IsOne, IsPlain, IsSetting, IsSums, MayAsk, alike, at, large, numbers, words}

-- ---- tables

-- a row of the columns' kinds is one of the columns
pub columns_of_kinds : (columns : List ColumnDef) (row : List Value) → FitsKinds (map (λ c. c.kind) columns) row → FitsColumns columns row
columns_of_kinds [] [] fits = tt
columns_of_kinds [] (v ∷ row) fits = absurd fits
columns_of_kinds (c ∷ columns) [] fits = absurd fits
columns_of_kinds (c ∷ columns) (v ∷ row) fits = (fits.0, columns_of_kinds columns row fits.1)

-- ---- what is asked

one_kinds : (kinds : List Kind) (tables : List Keyed) → IsOne kinds tables → slice_get (map table_kinds tables) 0 ≡ Some kinds
one_kinds kinds [] one = absurd one
one_kinds kinds (t ∷ []) one = ap (λ ks. Some ks) one.0
one_kinds kinds (t ∷ u ∷ tables) one = absurd one

one_few : (kinds : List Kind) (tables : List Keyed) → IsOne kinds tables → length (rows_at tables 0) < 2 ^ 62
one_few kinds [] one = absurd one
one_few kinds (t ∷ []) one = one.1
one_few kinds (t ∷ u ∷ tables) one = absurd one

pub has_now : (kinds : List Kind) (env : Environment) → IsSetting kinds env → HasKinds env (input.Table 0) kinds
has_now kinds env setting = one_kinds kinds env.now setting.now

pub has_before : (kinds : List Kind) (env : Environment) → IsSetting kinds env → HasKinds env (input.Before 0) kinds
has_before kinds env setting = one_kinds kinds env.before setting.before

pub has_added : (kinds : List Kind) (env : Environment) → IsSetting kinds env → HasKinds env input.Inserted kinds
has_added kinds env setting = All-from_recursion (FitsKinds kinds) env.moved.inserted setting.added

-- ---- queries

items_suit : (kinds : List (List Kind)) (group : Option (List Place)) (items : List Item) → AllByRecursion (SuitsItem kinds group) (map (λ item. item.what) items)
    → AllByRecursion (λ item. SuitsItem kinds group item.what) items
items_suit kinds group [] suit = tt
items_suit kinds group (item ∷ items) suit = (suit.0, items_suit kinds group items suit.1)

-- a query suits where its parts do
parts_suit : (whats : List What) (entries : List Input) (filter : Test) (group : Option (List Place)) (query : Query) (env : Environment) (kinds : List (List Kind)) → HasParts whats entries filter group query
    → EntriesHaveKinds env entries kinds → SuitsTest kinds filter → AllByRecursion (SuitsItem kinds group) whats → SuitsGroup kinds entries group → Suits query env
unfolding Suits
parts_suit whats entries filter group query env kinds parts have filter_suits items_are groups_are =
    let items : AllByRecursion (SuitsItem kinds query.group) (map (λ item. item.what) query.items) = rw (parts.group_is, parts.items) items_are in (
      kinds,
      rw (parts.entries_are) have,
      record {
        filter_suits = rw (parts.filter_is) filter_suits;
        items_suit = All-from_recursion (λ item. SuitsItem kinds query.group item.what) query.items (items_suit kinds query.group query.items items);
        group_suits = rw (parts.entries_are, parts.group_is) groups_are;
      },
    )

-- a query without groups reads as many rows as there are
few_plain : (query : Query) (env : Environment) → query.group ≡ None → ReadsFew query env
few_plain query env plain = rw (plain) tt

few_one : (query : Query) (env : Environment) (places : List Place) (kinds : List Kind) → IsSetting kinds env → query.entries ≡ input.Table 0 ∷ [] → query.group ≡ Some places → ReadsFew query env
few_one query env places kinds setting entries grouped = rw (grouped, entries) (one_few kinds env.now setting.now, tt)

pub may_plain : (query : Query) (env : Environment) → IsPlain query → IsSetting numbers env → MayAsk query env
may_plain query env is setting = (
  parts_suit _ _ _ _ query env (numbers ∷ []) is (has_now numbers env setting, tt) tt ((lit< tt, tt), tt) tt,
  few_plain query env is.group_is,
)

pub may_sums : (part : Calc) (filter : Test) (query : Query) (env : Environment) → IsSums part filter query → IsSetting numbers env
    → IsNumeric (numbers ∷ []) part × IsBounded (numbers ∷ []) part × IsNarrow (numbers ∷ []) part → SuitsTest (numbers ∷ []) filter → MayAsk query env
may_sums part filter query env is setting numeric suits =
    let Q : Place → Type 0 = λ place. IsThere (numbers ∷ []) place.entry place.column in (
      parts_suit _ _ _ _ query env (numbers ∷ []) is (has_now numbers env setting, tt) suits (refl, (numeric, (tt, tt))) (refl, All-cons Q _ [] (lit< tt) (All-nil Q)),
      few_one query env (at 0 1) numbers setting is.entries_are is.group_is,
    )

pub may_joined : (kinds : List Kind) (filter : Test) (query : Query) (env : Environment) → IsJoined filter query → IsSetting kinds env → 0 < length kinds → SuitsTest (kinds ∷ kinds ∷ []) filter → MayAsk query env
may_joined kinds filter query env is setting some suits =
    let have = has_now kinds env setting in (
      parts_suit _ _ _ _ query env (kinds ∷ kinds ∷ []) is (have, (have, tt)) suits ((some, tt), ((some, tt), tt)) tt,
      few_plain query env is.group_is,
    )

pub may_chain : (a b c : Input) (query : Query) (env : Environment) → IsChain a b c query → HasKinds env a numbers → HasKinds env b numbers → HasKinds env c numbers → MayAsk query env
may_chain a b c query env is first second third =
    let there : 0 < 3 = lit< tt in
    let int : kind.Int ≢ kind.Text = λ e. cc in (
      parts_suit _ _ _ _ query env (numbers ∷ numbers ∷ numbers ∷ []) is (first, (second, (third, tt))) (((there, tt), (there, tt), int), ((there, tt), (there, tt), int))
          ((there, tt), ((there, tt), ((there, tt), tt))) tt,
      few_plain query env is.group_is,
    )

-- ---- the tests' queries

pub may_sum_up : (part : Calc) (query : Query) (env : Environment) → part ≡ Column 0 2 → IsSums part test.True query → IsSetting numbers env → MayAsk query env
may_sum_up part query env is_v is setting = may_sums (Column 0 2) test.True query env (subst (λ e. IsSums e test.True query) is_v is) setting ((lit< tt, λ e. cc), tt, lit< tt) tt

pub may_sum_large : (part : Calc) (filter : Test) (query : Query) (env : Environment) → part ≡ Column 0 2 → filter ≡ large → IsSums part filter query → IsSetting numbers env → MayAsk query env
may_sum_large part filter query env is_v is_large is setting =
    may_sums (Column 0 2) large query env (subst (λ t. IsSums (Column 0 2) t query) is_large (subst (λ e. IsSums e filter query) is_v is)) setting ((lit< tt, λ e. cc), tt, lit< tt)
    ((lit< tt, tt), (tt, lit< tt), λ e. cc)

pub may_sum_squares : (part : Calc) (query : Query) (env : Environment) → part ≡ Mul (Column 0 2) (Column 0 2) → IsSums part test.True query → IsSetting numbers env → MayAsk query env
may_sum_squares part query env is_square is setting =
    may_sums (Mul (Column 0 2) (Column 0 2)) test.True query env (subst (λ e. IsSums e test.True query) is_square is) setting
    (((lit< tt, λ e. cc), (lit< tt, λ e. cc)), (tt, tt, lit< tt), lit< tt) tt

alike_suits : SuitsTest (numbers ∷ numbers ∷ []) alike
alike_suits = (((lit< tt, tt), (lit< tt, tt), λ e. cc), ((lit< tt, tt), (lit< tt, tt), λ e. cc))

pub may_alike : (filter : Test) (query : Query) (env : Environment) → filter ≡ alike → IsJoined filter query → IsSetting numbers env → MayAsk query env
may_alike filter query env is_alike is setting = may_joined numbers alike query env (subst (λ t. IsJoined t query) is_alike is) setting (lit< tt) alike_suits

pub may_others : (filter : Test) (query : Query) (env : Environment) → filter ≡ Not alike → IsJoined filter query → IsSetting numbers env → MayAsk query env
may_others filter query env is_not is setting = may_joined numbers (Not alike) query env (subst (λ t. IsJoined t query) is_not is) setting (lit< tt) alike_suits

pub may_unlike : (filter : Test) (query : Query) (env : Environment) → filter ≡ test.Compare cmp.Ne (Column 0 1) (Column 1 1) → IsJoined filter query → IsSetting numbers env → MayAsk query env
may_unlike filter query env is_ne is setting =
    may_joined numbers (test.Compare cmp.Ne (Column 0 1) (Column 1 1)) query env (subst (λ t. IsJoined t query) is_ne is) setting (lit< tt) ((lit< tt, tt), (lit< tt, tt), λ e. cc)

pub may_texts_below : (filter : Test) (query : Query) (env : Environment) → filter ≡ test.Compare cmp.Lt (Column 0 1) (Column 1 1) → IsJoined filter query → IsSetting words env → MayAsk query env
may_texts_below filter query env is_lt is setting =
    may_joined words (test.Compare cmp.Lt (Column 0 1) (Column 1 1)) query env (subst (λ t. IsJoined t query) is_lt is) setting (lit< tt) ((lit< tt, tt), (lit< tt, tt), refl)

pub may_texts_alike : (filter : Test) (query : Query) (env : Environment) → filter ≡ alike → IsJoined filter query → IsSetting words env → MayAsk query env
may_texts_alike filter query env is_alike is setting =
    may_joined words alike query env (subst (λ t. IsJoined t query) is_alike is) setting (lit< tt) (((lit< tt, tt), (lit< tt, tt), refl), ((lit< tt, tt), (lit< tt, tt), λ e. cc))
