-- Queries with their answers.
use Rattle.std.specs.Prelude.{◌≡◌, ℕ, ◌^◌, pos, negsuc, false, List, [], ◌∷◌, None, Some, codes, refl}
use Rattle.std.proofs.Common.{lit<}
use Rattle.std.proofs.lemmas.List.Elements.{All-cons, All-nil}
use Rattle.strip_value.specs.declared.kinds.Kind.{Kind}
use Rattle.strip_value.specs.declared.kinds.Kind.TheVariants as kind
use Rattle.strip_value.specs.declared.values.Value.{Value}
use Rattle.strip_value.specs.declared.values.Value.TheVariants.{Int}
use Rattle.strip_value.specs.declared.expressions.Calc.{Calc}
use Rattle.strip_value.specs.declared.expressions.Calc.TheVariants.{Number, Column}
use Rattle.strip_value.specs.declared.expressions.Cmp.TheVariants as cmp
use Rattle.strip_value.specs.declared.expressions.Test.TheVariants as test
use Rattle.strip_value.specs.declared.queries.Input.TheVariants as input
use Rattle.strip_value.specs.declared.queries.What.TheVariants.{Plain, Sum, Count}
use Rattle.strip_value.specs.declared.queries.Item.{Item}
use Rattle.strip_value.specs.declared.queries.Place.{Place}
use Rattle.strip_value.specs.declared.queries.Query.{Query}
use Rattle.strip_value.specs.declared.tables.TableDef.{TableDef}
use Rattle.strip_value.specs.Trees.{And, Or, Not, Add, Sub, Mul}
use Rattle.strip_value.specs.Table.{Keyed}
use Rattle.strip_value.specs.Query.{Environment, mean, mean_now, nothing_moved}
use Rattle.strip_value.specs.Bounds.{magnitude_of, IsThere, SuitsItem, Suits}

-- a row of three numbers
abbrev three : ℕ → ℕ → ℕ → List Value
three a b c = Int (pos a) ∷ Int (pos b) ∷ Int (pos c) ∷ []

-- table t (id int, g int, v int, key id)
abbrev def_t : TableDef
def_t = record {
  name = codes "t";
  columns = record { name = codes "id"; kind = kind.Int } ∷ record { name = codes "g"; kind = kind.Int } ∷ record { name = codes "v"; kind = kind.Int } ∷ [];
  key = 0 ∷ [];
  limit = None;
  query = None;
  kept = None;
  declared = false;
}

-- that table with the rows (1, 7, 5), (2, 7, 6) and (3, 8, 1)
abbrev tables : List Keyed
tables = record { def = def_t; rows = three 1 7 5 ∷ three 2 7 6 ∷ three 3 8 1 ∷ [] } ∷ []

abbrev plain : List ℕ → Calc → Item
plain name e = record { name = name; what = Plain e }

abbrev total : List ℕ → Calc → Item
total name e = record { name = name; what = Sum e }

abbrev count : List ℕ → Item
count name = record { name = name; what = Count }

abbrev place : ℕ → ℕ → Place
place entry column = record { entry = entry; column = column }

-- select g from t
abbrev groups : Query
groups = record { items = plain (codes "g") (Column 0 1) ∷ []; entries = input.Table 0 ∷ []; filter = test.True; group = None }

pub groups_answer : mean_now groups tables ≡ (Int (pos 7) ∷ []) ∷ (Int (pos 7) ∷ []) ∷ (Int (pos 8) ∷ []) ∷ []
unfolding mean mean_now
groups_answer = refl

-- select g, sum(v) as s, count(*) as n from t group by g
abbrev sums : Query
sums = record {
  items = plain (codes "g") (Column 0 1) ∷ total (codes "s") (Column 0 2) ∷ count (codes "n") ∷ [];
  entries = input.Table 0 ∷ [];
  filter = test.True;
  group = Some (place 0 1 ∷ []);
}

pub sums_answer : mean_now sums tables ≡ three 7 11 2 ∷ three 8 1 1 ∷ []
unfolding mean mean_now
sums_answer = refl

-- select a.id, b.id as o from t a, t b where a.g = b.g and a.id < b.id
abbrev pairs : Query
pairs = record {
  items = plain (codes "id") (Column 0 0) ∷ plain (codes "o") (Column 1 0) ∷ [];
  entries = input.Table 0 ∷ input.Table 0 ∷ [];
  filter = And (test.Compare cmp.Eq (Column 0 1) (Column 1 1)) (test.Compare cmp.Lt (Column 0 0) (Column 1 0));
  group = None;
}

pub pairs_answer : mean_now pairs tables ≡ (Int (pos 1) ∷ Int (pos 2) ∷ []) ∷ []
unfolding mean mean_now
pairs_answer = refl

-- select g, sum(v) as s from t where v > 100 group by g
abbrev large : Query
large = record {
  items = plain (codes "g") (Column 0 1) ∷ total (codes "s") (Column 0 2) ∷ [];
  entries = input.Table 0 ∷ [];
  filter = test.Compare cmp.Gt (Column 0 2) (Number (pos 100));
  group = Some (place 0 1 ∷ []);
}

pub large_answer : mean_now large tables ≡ []
unfolding mean mean_now
large_answer = refl

-- select sum(v) as s, g from t group by g: the answer's rows are in row order, whatever the order of the groups
abbrev sums_first : Query
sums_first = record {
  items = total (codes "s") (Column 0 2) ∷ plain (codes "g") (Column 0 1) ∷ [];
  entries = input.Table 0 ∷ [];
  filter = test.True;
  group = Some (place 0 1 ∷ []);
}

pub sums_first_answer : mean_now sums_first tables ≡ (Int (pos 1) ∷ Int (pos 8) ∷ []) ∷ (Int (pos 11) ∷ Int (pos 7) ∷ []) ∷ []
unfolding mean mean_now
sums_first_answer = refl

-- select id, 2 * v - 11 as d from t where not (g = 7) or id + g >= 9
abbrev computed : Query
computed = record {
  items = plain (codes "id") (Column 0 0) ∷ plain (codes "d") (Sub (Mul (Number (pos 2)) (Column 0 2)) (Number (pos 11))) ∷ [];
  entries = input.Table 0 ∷ [];
  filter = Or (Not (test.Compare cmp.Eq (Column 0 1) (Number (pos 7)))) (test.Compare cmp.Ge (Add (Column 0 0) (Column 0 1)) (Number (pos 9)));
  group = None;
}

pub computed_answer : mean_now computed tables ≡ (Int (pos 2) ∷ Int (pos 1) ∷ []) ∷ (Int (pos 3) ∷ Int (negsuc 8) ∷ []) ∷ []
unfolding mean mean_now
computed_answer = refl

-- three replacements: (1, 10) by (1, 11), that by (1, 12), and that by (2, 12)
abbrev replaced : Environment
replaced = record {
  now = [];
  before = [];
  moved = record {
    inserted = [];
    deleted = [];
    old = three 1 10 1 ∷ three 1 11 2 ∷ three 1 12 3 ∷ [];
    new = three 1 11 1 ∷ three 1 12 2 ∷ three 2 12 3 ∷ [];
  };
}

-- select n.v as v, 1 as n from old o, new n where o.execute_order = n.execute_order
abbrev renewed : Query
renewed = record {
  items = plain (codes "v") (Column 1 1) ∷ plain (codes "n") (Number (pos 1)) ∷ [];
  entries = input.Old ∷ input.New ∷ [];
  filter = test.Compare cmp.Eq (Column 0 2) (Column 1 2);
  group = None;
}

pub renewed_answer : mean renewed replaced ≡ (Int (pos 11) ∷ Int (pos 1) ∷ []) ∷ (Int (pos 12) ∷ Int (pos 1) ∷ []) ∷ (Int (pos 12) ∷ Int (pos 1) ∷ []) ∷ []
unfolding mean
renewed_answer = refl

-- a * b * c of three int columns is up to 2^93
pub wide_product : magnitude_of ((kind.Int ∷ kind.Int ∷ kind.Int ∷ []) ∷ []) (Mul (Mul (Column 0 0) (Column 0 1)) (Column 0 2)) ≡ 2 ^ 93
wide_product = refl

-- a big column times itself counts as 2^127
pub wide_square : magnitude_of ((kind.Big ∷ []) ∷ []) (Mul (Column 0 0) (Column 0 0)) ≡ 2 ^ 127
wide_square = refl

abbrev as_they_stand : Environment
as_they_stand = record { now = tables; before = []; moved = nothing_moved }

-- the kinds of the table's columns, for the one entry of `sums`
abbrev sums_kinds : List (List Kind)
sums_kinds = (kind.Int ∷ kind.Int ∷ kind.Int ∷ []) ∷ []

-- the grouped sums may be asked of the table
pub sums_suit : Suits sums as_they_stand
unfolding Suits
sums_suit =
    let P : Item → Type 0 = λ item. SuitsItem sums_kinds sums.group item.what in
    let Q : Place → Type 0 = λ place. IsThere sums_kinds place.entry place.column in
    let g : Item = plain (codes "g") (Column 0 1) in
    let s : Item = total (codes "s") (Column 0 2) in
    let n : Item = count (codes "n") in
    let sum_suits : P s = ((lit< tt, λ e. cc), tt, lit< tt) in (
      sums_kinds,
      (refl, tt),
      record {
        filter_suits = tt;
        items_suit = All-cons P g (s ∷ n ∷ []) refl (All-cons P s (n ∷ []) sum_suits (All-cons P n [] tt (All-nil P)));
        group_suits = (refl, All-cons Q (place 0 1) [] (lit< tt) (All-nil Q));
      },
    )
