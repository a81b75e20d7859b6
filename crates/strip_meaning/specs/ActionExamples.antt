-- What rules bind, and what becomes of it, on small inputs.
use Rattle.std.specs.Prelude.{◌≡◌, ℕ, ℤ, pos, negsuc, true, false, codes, List, [], ◌∷◌, map, Option, Some, None, refl}
use Rattle.strip_value.specs.declared.actions.ActionId.{ActionId}
use Rattle.strip_value.specs.declared.actions.Bound.{Bound}
use Rattle.strip_value.specs.declared.actions.Content.TheVariants.{Totals}
use Rattle.strip_value.specs.declared.actions.FiredRule.{FiredRule}
use Rattle.strip_value.specs.declared.actions.KeyOf.TheVariants.{Plain, Unique}
use Rattle.strip_value.specs.declared.changes.Change.{Change}
use Rattle.strip_value.specs.declared.changes.Shift.TheVariants.{Inserted, Deleted, Changed}
use Rattle.strip_value.specs.declared.expressions.Calc.TheVariants.{Column, Number}
use Rattle.strip_value.specs.declared.expressions.Cmp.TheVariants.{Gt}
use Rattle.strip_value.specs.declared.expressions.Test.TheVariants.{True, Compare}
use Rattle.strip_value.specs.declared.kinds.Kind.TheVariants as kind
use Rattle.strip_value.specs.declared.queries.Input.TheVariants as input
use Rattle.strip_value.specs.declared.queries.Query.{Query}
use Rattle.strip_value.specs.declared.queries.What.TheVariants as what
use Rattle.strip_value.specs.declared.rules.Function.{Function}
use Rattle.strip_value.specs.declared.rules.Rule.{Rule}
use Rattle.strip_value.specs.declared.tables.By.TheVariants as by
use Rattle.strip_value.specs.declared.tables.ColumnDef.{ColumnDef}
use Rattle.strip_value.specs.declared.tables.TableDef.{TableDef}
use Rattle.strip_value.specs.declared.values.Value.{Value}
use Rattle.strip_value.specs.declared.values.Value.TheVariants.{Int}
use Rattle.strip_value.specs.Query.{mean}
use Rattle.strip_meaning.specs.Firing.{fired}
use Rattle.strip_meaning.specs.Maintained.{Manner, keep_function, keep_rule}
use Rattle.strip_meaning.specs.Actions.{Happened, commit, start, finish, give_back, BoundRow, rows_of, state_of, pending, is_quiet, next, due_of, actions}
use Rattle.strip_meaning.specs.Contents.{contents, summed_up}

abbrev pub column : List ℕ → ColumnDef
column name = record { name = name; kind = kind.Int }

abbrev pub total : List ℕ → ColumnDef
total name = record { name = name; kind = kind.Big }

-- table t (id int, g int, v int, key id)
abbrev pub t : TableDef
t = record {
  name = codes "t";
  columns = column (codes "id") ∷ column (codes "g") ∷ column (codes "v") ∷ [];
  key = 0 ∷ [];
  limit = Some 1048576;
  query = None;
  kept = None;
  declared = false;
}

-- select g, sum(v) as s, count(*) as n from t group by g
abbrev pub sums : Query
sums = record {
  items = record { name = codes "g"; what = what.Plain (Column 0 1) } ∷ record { name = codes "s"; what = what.Sum (Column 0 2) } ∷ record { name = codes "n"; what = what.Count } ∷ [];
  entries = input.Table 0 ∷ [];
  filter = True;
  group = Some (record { entry = 0; column = 1 } ∷ []);
}

-- derive d as that query, kept by sums
abbrev pub d : TableDef
d = record {
  name = codes "d";
  columns = column (codes "g") ∷ total (codes "s") ∷ total (codes "n") ∷ [];
  key = 0 ∷ [];
  limit = None;
  query = Some sums;
  kept = Some by.Sum;
  declared = true;
}

abbrev pub at_once : Manner
at_once = record { unique = None; after = 0 }

abbrev pub keep_d : Function
keep_d = keep_function d 1

abbrev pub keep_d_1 : Rule
keep_d_1 = keep_rule d sums 0 at_once

abbrev pub three : ℤ → ℤ → ℤ → List Value
three a b c = Int a ∷ Int b ∷ Int c ∷ []

abbrev delta : List Value → Bound
delta row = record { bound = 0; key = []; row = row }

-- put t (1, 7, 5), then put t (1, 7, 6)
abbrev first_put : List Change
first_put = record { table = 0; shift = Inserted (three (pos 1) (pos 7) (pos 5)) } ∷ []

abbrev second_put : List Change
second_put = record { table = 0; shift = Changed (three (pos 1) (pos 7) (pos 5)) (three (pos 1) (pos 7) (pos 6)) } ∷ []

pub first_fires : fired keep_d_1 [] [] first_put ≡ delta (three (pos 7) (pos 5) (pos 1)) ∷ []
unfolding fired mean
first_fires = refl

-- the row that goes counts against, the one that comes for
pub second_fires : fired keep_d_1 [] [] second_put ≡ delta (three (pos 7) (negsuc 4) (negsuc 0)) ∷ delta (three (pos 7) (pos 6) (pos 1)) ∷ []
unfolding fired mean
second_fires = refl

-- a removed row counts against, and changes of another table don't count
pub removal_fires : fired keep_d_1 [] [] (record { table = 1; shift = Inserted [] } ∷ record { table = 0; shift = Deleted (three (pos 1) (pos 7) (pos 6)) } ∷ [])
    ≡ delta (three (pos 7) (negsuc 5) (negsuc 0)) ∷ []
unfolding fired mean
removal_fires = refl

pub no_change_fires_nothing : fired keep_d_1 [] [] [] ≡ []
unfolding fired mean
no_change_fires_nothing = refl

-- ---- both puts, committed at places 2 and 5, and a commit without a change at 8

abbrev by_rule : List Bound → List FiredRule
by_rule rows = record { number = 0; rows = rows } ∷ []

abbrev both_put : List Happened
both_put =
    commit 8 0 [] ∷ commit 5 0 (by_rule (delta (three (pos 7) (negsuc 4) (negsuc 0)) ∷ delta (three (pos 7) (pos 6) (pos 1)) ∷ [])) ∷ commit 2 0 (by_rule (delta (three (pos 7) (pos 5) (pos 1)) ∷ [])) ∷ []

abbrev pub one : ActionId
one = record { function = 0; key = Plain 2 0 }

abbrev pub two : ActionId
two = record { function = 0; key = Plain 5 0 }

-- each firing makes an action
pub two_actions : map (λ a. a.action) (actions (keep_d_1 ∷ []) both_put) ≡ one ∷ two ∷ []
two_actions = refl

abbrev named : Option BoundRow → Option ActionId
named None = None
named (Some a) = Some a.action

pub one_is_next : named (next (keep_d_1 ∷ []) both_put 0) ≡ Some one
one_is_next = refl

abbrev one_started : List Happened
one_started = start 1 one ∷ both_put

pub two_is_next : named (next (keep_d_1 ∷ []) one_started 0) ≡ Some two
two_is_next = refl

abbrev two_started : List Happened
two_started = start 2 two ∷ one_started

pub none_is_next : named (next (keep_d_1 ∷ []) two_started 0) ≡ None
none_is_next = refl

pub one_content : contents (t ∷ d ∷ []) keep_d (rows_of (keep_d_1 ∷ []) two_started one) ≡ Totals (three (pos 7) (pos 5) (pos 1) ∷ []) ∷ []
one_content = refl

pub two_content : contents (t ∷ d ∷ []) keep_d (rows_of (keep_d_1 ∷ []) two_started two) ≡ Totals (three (pos 7) (pos 1) (pos 0) ∷ []) ∷ []
two_content = refl

-- the second is finished first
abbrev two_finished : List Happened
two_finished = finish 2 ∷ two_started

pub after_two : summed_up (t ∷ d ∷ []) (keep_d ∷ []) (keep_d_1 ∷ []) two_finished 1 ≡ three (pos 7) (pos 1) (pos 0) ∷ []
after_two = refl

pub not_yet_quiet : is_quiet (keep_d_1 ∷ []) two_finished ≡ false
not_yet_quiet = refl

abbrev all_finished : List Happened
all_finished = finish 1 ∷ two_finished

pub after_all : summed_up (t ∷ d ∷ []) (keep_d ∷ []) (keep_d_1 ∷ []) all_finished 1 ≡ three (pos 7) (pos 6) (pos 1) ∷ []
after_all = refl

pub quiet_at_last : is_quiet (keep_d_1 ∷ []) all_finished ≡ true
quiet_at_last = refl

-- an action that is given back is pending again
pub one_given_back : state_of (give_back 1 ∷ one_started) one ≡ pending
one_given_back = refl

pub one_next_again : named (next (keep_d_1 ∷ []) (give_back 1 ∷ one_started) 0) ≡ Some one
one_next_again = refl

-- ---- unique actions: the rows of each g, due 10 after the first of them

abbrev by_group : Rule
by_group = keep_rule d sums 0 (record { unique = Some (codes "g" ∷ []); after = 10 })

abbrev of_group : ℤ → ℤ → Bound
of_group g v = record { bound = 0; key = Int g ∷ []; row = three g v (pos 1) }

pub key_is_the_group : fired by_group [] [] first_put ≡ of_group (pos 7) (pos 5) ∷ []
unfolding fired mean
key_is_the_group = refl

-- rows of 7 at moment 0 and 4, a row of 8 between, then 7 is started and one more row of 7 comes
abbrev grouped : List Happened
grouped =
    commit 12 10 (by_rule (of_group (pos 7) (pos 2) ∷ [])) ∷ start 1 (record { function = 0; key = Unique (Int (pos 7) ∷ []) 0 }) ∷ commit 8 4 (by_rule (of_group (pos 7) (pos 1) ∷ [])) ∷ commit 5 0 (by_rule (of_group (pos 8) (pos 6) ∷ [])) ∷ commit 2 0 (by_rule (of_group (pos 7) (pos 5) ∷ [])) ∷ []

abbrev group_action : ℤ → ℕ → ActionId
group_action g starts = record { function = 0; key = Unique (Int g ∷ []) starts }

-- the row at moment 4 joined the first action, and the one behind the start makes one of its own
pub three_actions : map (λ a. a.action) (actions (by_group ∷ []) grouped) ≡ group_action (pos 7) 0 ∷ group_action (pos 8) 0 ∷ group_action (pos 7) 1 ∷ []
three_actions = refl

-- a merge doesn't move the moment at which an action is due
pub due_moments : map (due_of (by_group ∷ [])) (actions (by_group ∷ []) grouped) ≡ 10 ∷ 10 ∷ 20 ∷ []
due_moments = refl

pub joined_content : contents (t ∷ d ∷ []) keep_d (rows_of (by_group ∷ []) grouped (group_action (pos 7) 0)) ≡ Totals (three (pos 7) (pos 6) (pos 2) ∷ []) ∷ []
joined_content = refl

-- while 7 is running, 8 is next; the new action of 7 isn't, whatever the moment
pub eight_is_next : named (next (by_group ∷ []) grouped 30) ≡ Some (group_action (pos 8) 0)
eight_is_next = refl

pub seven_waits : named (next (by_group ∷ []) (start 2 (group_action (pos 8) 0) ∷ grouped) 30) ≡ None
seven_waits = refl

-- given back, 7 is one action again with the row that came meanwhile
pub joined_again : map (λ a. a.action) (actions (by_group ∷ []) (give_back 1 ∷ grouped)) ≡ group_action (pos 7) 0 ∷ group_action (pos 8) 0 ∷ []
joined_again = refl

-- given back and started again with the row that came meanwhile, it takes no row that comes later
abbrev again : List Happened
again = commit 19 10 (by_rule (of_group (pos 7) (pos 4) ∷ [])) ∷ start 3 (group_action (pos 7) 0) ∷ give_back 1 ∷ give_back 2 ∷ start 2 (group_action (pos 8) 0) ∷ grouped

pub again_content : contents (t ∷ d ∷ []) keep_d (rows_of (by_group ∷ []) again (group_action (pos 7) 0)) ≡ Totals (three (pos 7) (pos 8) (pos 3) ∷ []) ∷ []
again_content = refl

pub again_actions : map (λ a. a.action) (actions (by_group ∷ []) again) ≡ group_action (pos 7) 0 ∷ group_action (pos 8) 0 ∷ group_action (pos 7) 1 ∷ []
again_actions = refl

pub eight_next_again : named (next (by_group ∷ []) (finish 3 ∷ again) 19) ≡ Some (group_action (pos 8) 0)
eight_next_again = refl

-- ---- two rules of one function at one commit: all rows, and those where v > 5, due 3 after

abbrev large : Rule
large = keep_rule d (record sums { filter = Compare Gt (Column 0 2) (Number (pos 5)) }) 0 (record { unique = Some (codes "g" ∷ []); after = 3 })

abbrev three_inserted : List Change
three_inserted =
    record { table = 0; shift = Inserted (three (pos 1) (pos 7) (pos 5)) } ∷ record { table = 0; shift = Inserted (three (pos 2) (pos 8) (pos 6)) } ∷ record { table = 0; shift = Inserted (three (pos 3) (pos 7) (pos 9)) } ∷ []

pub all_bound : fired by_group [] [] three_inserted ≡ of_group (pos 7) (pos 5) ∷ of_group (pos 7) (pos 9) ∷ of_group (pos 8) (pos 6) ∷ []
unfolding fired mean
all_bound = refl

pub large_bound : fired large [] [] three_inserted ≡ of_group (pos 7) (pos 9) ∷ of_group (pos 8) (pos 6) ∷ []
unfolding fired mean
large_bound = refl

abbrev by_both : List Happened
by_both = commit 2 0 (record { number = 0; rows = fired by_group [] [] three_inserted } ∷ record { number = 1; rows = fired large [] [] three_inserted } ∷ []) ∷ []

-- the rows of both are in one action for each g, due as the rule of the first row says
pub both_due : map (due_of (by_group ∷ large ∷ [])) (actions (by_group ∷ large ∷ []) by_both) ≡ 10 ∷ 10 ∷ []
unfolding fired mean
both_due = refl

pub both_content : contents (t ∷ d ∷ []) keep_d (rows_of (by_group ∷ large ∷ []) by_both (group_action (pos 7) 0)) ≡ Totals (three (pos 7) (pos 23) (pos 3) ∷ []) ∷ []
unfolding fired mean
both_content = refl

pub both_next : named (next (by_group ∷ large ∷ []) by_both 10) ≡ Some (group_action (pos 7) 0)
unfolding fired mean
both_next = refl

pub none_yet : named (next (by_group ∷ large ∷ []) by_both 9) ≡ None
unfolding fired mean
none_yet = refl
