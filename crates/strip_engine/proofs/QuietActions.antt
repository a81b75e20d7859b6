-- Each bound row is in one action, which is in one state; and a part of a legal history is legal.
use Rattle.std.proofs.Common.{◌≡◌, Bool, true, false, ◌&&◌, ◌||◌, cond, List, [], ◌∷◌, ◌++◌, filter, refl, sym, ap, ap₂, ◌∙◌, subst}
use Rattle.std.proofs.lemmas.Bool.{and_right, or_left, or_right}
use Rattle.strip_value.specs.declared.actions.ActionId.{ActionId}
use Rattle.strip_value.specs.declared.rules.Rule.{Rule}
use Rattle.strip_meaning.specs.Actions.{BoundRow, Happened, State, actions, finished, in_state, is_finished, is_pending, is_running, pending, running, same_action, state_of}
use Rattle.strip_meaning.proofs.ActionLaws.{Listed, in_action, one_state, same_action_equal, same_action_since}
use Rattle.strip_model.specs.Derived.{happened}
use Rattle.strip_engine.specs.Quiet.{EachRowInOneAction, JustOne, PrefixIsLegal, is_among}

-- an action stands among those that pass a test of actions where it passes and stands among all
among_passed : (test : ActionId → Bool) (those : List BoundRow) (action : ActionId) → is_among (filter (λ a. test a.action) those) action ≡ (test action && is_among those action)
among_passed test [] action = sym (and_right (test action) false refl)
among_passed test (a ∷ those) action = by_tests (test a.action) (same_action a.action action) refl refl (among_passed test those action)
  where
    by_tests : (t s : Bool) → test a.action ≡ t → same_action a.action action ≡ s → is_among (filter (λ b. test b.action) those) action ≡ (test action && is_among those action)
        → is_among (cond t (a ∷ filter (λ b. test b.action) those) (filter (λ b. test b.action) those)) action ≡ (test action && (same_action a.action action || is_among those action))
    by_tests true true t s rest =
        let passes : test action ≡ true = ap test (sym (same_action_equal a.action action s)) ∙ t in
        ap (λ b. b || is_among (filter (λ (b : BoundRow). test b.action) those) action) s ∙ sym (ap₂ (λ p q. p && (q || is_among those action)) passes s)
    by_tests true false t s rest =
        ap (λ b. b || is_among (filter (λ (b : BoundRow). test b.action) those) action) s ∙ rest ∙ sym (ap (λ q. test action && (q || is_among those action)) s)
    by_tests false true t s rest =
        let fails : test action ≡ false = ap test (sym (same_action_equal a.action action s)) ∙ t in
        rest ∙ ap (λ p. p && is_among those action) fails ∙ sym (ap (λ p. p && (same_action a.action action || is_among those action)) fails)
    by_tests false false t s rest = rest ∙ sym (ap (λ q. test action && (q || is_among those action)) s)

-- an action that is listed stands among them
among_listed : (front : List BoundRow) (one : BoundRow) (back : List BoundRow) (action : ActionId) → one.action ≡ action → is_among (front ++ one ∷ back) action ≡ true
among_listed [] one back action e = or_left (same_action one.action action) (is_among back action) (same_action_since one.action action e)
among_listed (a ∷ front) one back action e = or_right (same_action a.action action) (is_among (front ++ one ∷ back) action) (among_listed front one back action e)

-- so it stands among those of its state
among_state : (is : State → Bool) (rules : List Rule) (past : List Happened) (action : ActionId) → Listed (actions rules past) action → is_among (in_state is rules past) action ≡ is (state_of past action)
among_state is rules past action l =
    among_passed (λ one. is (state_of past one)) (actions rules past) action
    ∙ ap (λ b. is (state_of past action) && b) (ap (λ those. is_among those action) l.split ∙ among_listed l.front l.one l.back action l.is)
    ∙ by_test (is (state_of past action))
  where
    by_test : (b : Bool) → (b && true) ≡ b
    by_test true = refl
    by_test false = refl

-- which is one
one_of_three : (s : State) → JustOne (is_pending s) (is_running s) (is_finished s)
one_of_three pending = tt
one_of_three (running number) = tt
one_of_three (finished number) = tt

pub each_row_in_one_action : EachRowInOneAction
each_row_in_one_action f past row stands =
    let rules = f.rules in
    let then = happened f past in
    let laws = one_state rules then in
    let listed = laws.stands stands.0 row stands.1 stands.2 in
    record {
      action = row.action;
      among = (filter (in_action row.action) stands.0, filter (in_action row.action) stands.1, laws.own stands.0 row stands.1 stands.2);
      only = λ other there. sym (laws.only other there.0 row there.1 there.2);
      state = subst (λ p. JustOne p (is_among (in_state is_running rules then) row.action) (is_among (in_state is_finished rules then) row.action)) (sym (among_state is_pending rules then row.action listed))
          (subst (λ q. JustOne (is_pending (state_of then row.action)) q (is_among (in_state is_finished rules then) row.action)) (sym (among_state is_running rules then row.action listed))
          (subst (JustOne (is_pending (state_of then row.action)) (is_running (state_of then row.action))) (sym (among_state is_finished rules then row.action listed)) (one_of_three (state_of then row.action))));
    }

pub prefix_is_legal : PrefixIsLegal
prefix_is_legal f [] past legal = legal
prefix_is_legal f (e ∷ later) past legal = prefix_is_legal f later past legal.1
