-- Laws of actions under any rules: their identities, and that each bound row is in one of them.
use Rattle.std.proofs.Common.{◌≡◌, ℕ, Bool, true, false, not, ◌==◌, List, [], ◌∷◌, ◌++◌, filter, refl, sym, ap, ap₂, ◌∙◌, subst}
use Rattle.std.specs.List.{AllByRecursion}
use Rattle.std.specs.Cmp.{Equal-is}
use Rattle.std.specs.Ordering.{is_eq}
use Rattle.std.proofs.lemmas.Bool.{and_parts, and_from, false_from_ne_true, not-true}
use borrow.Author.Tests.{eqb-true, eq-eqb}
use Rattle.strip_value.specs.declared.actions.ActionId.{ActionId}
use Rattle.strip_value.specs.declared.actions.KeyOf.{KeyOf}
use Rattle.strip_value.specs.declared.actions.KeyOf.TheVariants.{Plain, Unique}
use Rattle.strip_value.specs.declared.rules.Rule.{Rule}
use Rattle.strip_value.specs.declared.values.Value.{Value}
use Rattle.strip_value.specs.Order.{row_cmp}
use Rattle.strip_value.proofs.Orders.{row_cmp_equal}
use Rattle.strip_value.proofs.KeyedLaws.{row_cmp_itself}
use Rattle.strip_value.proofs.Lists.{all_weaker, all_append}
use Rattle.strip_meaning.specs.Actions.{Happened, BoundRow, all_rows, same_values, same_key, same_action, rows_of, firsts, actions}
use Rattle.strip_meaning.proofs.Behind.{AllBehind, all_pass, all_middle, behind_filter, behind_middle, filter_middle}

-- ---- identities

-- values and keys that are told the same are equal
same_values_equal : (one other : List Value) → same_values one other ≡ true → one ≡ other
same_values_equal one other same = row_cmp_equal one other ((Equal-is (row_cmp one other)).0 same)

same_key_equal : (one other : KeyOf) → same_key one other ≡ true → one ≡ other
same_key_equal (Plain p r) (Plain q s) same =
    let parts = and_parts (p == q) (r == s) same in
    ap₂ Plain (eqb-true p q parts.0) (eqb-true r s parts.1)
same_key_equal (Plain p r) (Unique w t) same = cc
same_key_equal (Unique v s) (Plain q t) same = cc
same_key_equal (Unique v s) (Unique w t) same =
    let parts = and_parts (same_values v w) (s == t) same in
    ap₂ Unique (same_values_equal v w parts.0) (eqb-true s t parts.1)

-- a key is its own
same_key_self : (key : KeyOf) → same_key key key ≡ true
same_key_self (Plain p r) = and_from (p == p) (r == r) (eq-eqb p p refl) (eq-eqb r r refl)
same_key_self (Unique v s) = and_from (same_values v v) (s == s) (ap is_eq (row_cmp_itself v)) (eq-eqb s s refl)

-- an action by its function and key
abbrev pub of_key : ℕ → KeyOf → ActionId
of_key function key = record { function = function; key = key }

-- actions with the same identity are equal, and an action has its own
pub same_action_equal : (one other : ActionId) → same_action one other ≡ true → one ≡ other
same_action_equal one other same =
    let parts = and_parts (one.function == other.function) (same_key one.key other.key) same in
    ap₂ of_key (eqb-true one.function other.function parts.0) (same_key_equal one.key other.key parts.1)

pub same_action_self : (action : ActionId) → same_action action action ≡ true
same_action_self action = and_from (action.function == action.function) (same_key action.key action.key) (eq-eqb action.function action.function refl) (same_key_self action.key)

pub same_action_since : (one other : ActionId) → one ≡ other → same_action one other ≡ true
same_action_since one other e = ap (same_action one) (sym e) ∙ same_action_self one

-- actions that are not equal have other identities, either way round
pub other_action : (one other : ActionId) → (one ≡ other → ⊥) → same_action one other ≡ false
other_action one other differ = false_from_ne_true (same_action one other) (λ same. differ (same_action_equal one other same))

pub other_action_back : (one other : ActionId) → same_action one other ≡ false → same_action other one ≡ false
other_action_back one other apart = other_action other one (λ e. let same = same_action_since one other (sym e) in cc)

-- ---- each action stands once, and each row is in its own action alone

-- the action is another than this
abbrev pub not_this : ActionId → BoundRow → Bool
not_this action a = not (same_action a.action action)

-- the row is in this action
abbrev pub in_action : ActionId → BoundRow → Bool
in_action action row = same_action row.action action

-- the other has another identity
abbrev pub Apart : BoundRow → BoundRow → Type 0
Apart one other = same_action other.action one.action ≡ false

firsts_apart : (rows : List BoundRow) → AllBehind Apart (firsts rows)
firsts_apart [] = tt
firsts_apart (row ∷ rows) = (
  all_weaker (λ other. not_this row.action other ≡ true) (Apart row) (λ other e. not-true (same_action other.action row.action) e)
      (filter (not_this row.action) (firsts rows)) (all_pass (not_this row.action) (firsts rows)),
  behind_filter Apart (not_this row.action) (firsts rows) (firsts_apart rows),
)

pub actions_apart : (rules : List Rule) (happened : List Happened) → AllBehind Apart (actions rules happened)
actions_apart rules happened = firsts_apart (all_rows rules happened)

-- an action of this identity is among these
pub record Listed (among : List BoundRow) (action : ActionId) : Type 0 where
  pub front : List BoundRow
  pub one : BoundRow
  pub back : List BoundRow
  pub split : among ≡ front ++ one ∷ back
  pub is : one.action ≡ action

-- the action of a row is among the actions of the rows
listed : (before : List BoundRow) (row : BoundRow) (after : List BoundRow) → Listed (firsts (before ++ row ∷ after)) row.action
listed [] row after = record { front = []; one = row; back = filter (not_this row.action) (firsts after); split = refl; is = refl }
listed (r ∷ before) row after = let l = listed before row after in by_test l (in_action r.action l.one) refl
  where
    by_test : (l : Listed (firsts (before ++ row ∷ after)) row.action) (b : Bool) → in_action r.action l.one ≡ b → Listed (firsts (r ∷ before ++ row ∷ after)) row.action
    by_test l true e = record {
      front = [];
      one = r;
      back = filter (not_this r.action) (firsts (before ++ row ∷ after));
      split = refl;
      is = sym (same_action_equal l.one.action r.action e) ∙ l.is;
    }
    by_test l false e = record {
      front = r ∷ filter (not_this r.action) l.front;
      one = l.one;
      back = filter (not_this r.action) l.back;
      split = ap (λ rest. r ∷ rest) (ap (filter (not_this r.action)) l.split ∙ filter_middle (not_this r.action) l.front l.one l.back (ap not e));
      is = l.is;
    }

-- what actions and bound rows have to do with one another
pub record OneState (rules : List Rule) (happened : List Happened) : Type 0 where
  -- an action stands once: no other has its identity
  pub once : (before : List BoundRow) (a : BoundRow) (after : List BoundRow) → actions rules happened ≡ before ++ a ∷ after → AllByRecursion (λ other. same_action other.action a.action ≡ false) (before ++ after)
  -- a bound row is among the rows of its action, with those before it and those after it
  pub own : (before : List BoundRow) (row : BoundRow) (after : List BoundRow) → all_rows rules happened ≡ before ++ row ∷ after
      → rows_of rules happened row.action ≡ filter (in_action row.action) before ++ row ∷ filter (in_action row.action) after
  -- and among the rows of no other
  pub only : (action : ActionId) (before : List BoundRow) (row : BoundRow) (after : List BoundRow) → rows_of rules happened action ≡ before ++ row ∷ after → row.action ≡ action
  -- the action of a bound row stands among the actions
  pub stands : (before : List BoundRow) (row : BoundRow) (after : List BoundRow) → all_rows rules happened ≡ before ++ row ∷ after → Listed (actions rules happened) row.action

pub one_state : (rules : List Rule) (happened : List Happened) → OneState rules happened
one_state rules happened = record {
  once = λ before a after e.
      let sides = behind_middle Apart before a after (subst (AllBehind Apart) e (actions_apart rules happened)) in
      all_append (λ other. same_action other.action a.action ≡ false) before after
      (all_weaker (λ other. Apart other a) (λ other. same_action other.action a.action ≡ false) (λ other apart. other_action_back a.action other.action apart) before sides.0) sides.1;
  own = λ before row after e. ap (filter (in_action row.action)) e ∙ filter_middle (in_action row.action) before row after (same_action_self row.action);
  only = λ action before row after e.
      same_action_equal row.action action
      (all_middle (λ other. in_action action other ≡ true) before row after (subst (AllByRecursion (λ other. in_action action other ≡ true)) e (all_pass (in_action action) (all_rows rules happened))));
  stands = λ before row after e. subst (λ rows. Listed (firsts rows) row.action) (sym e) (listed before row after);
}
