-- What is checked of an expression part by part, and what the lists of its faults say of it.
use Rattle.std.proofs.Common.{◌≡◌, Bool, true, false, not, ◌&&◌, ◌||◌, List, [], ◌∷◌, ◌++◌, map, filter, nat_le, refl, sym, ap, ◌∙◌, subst}
use Rattle.std.specs.List.{AllByRecursion}
use Rattle.strip_value.specs.Bounds.{magnitude_of}
use Rattle.strip_ast.specs.declared.expressions.Expr.{Expr}
use Rattle.strip_ast.specs.declared.expressions.Op.{Op}
use Rattle.strip_ast.specs.declared.queries.ColTree.{ColTree}
use Rattle.strip_setup.specs.declared.scope.Entry.{Entry}
use Rattle.strip_setup.specs.Parts.{arithmetic, comparison, connective, class_of, columns_in, gives_truth, is_for_truth, joins_truth, Part, parts, parts_of, Whole}
use Rattle.strip_setup.specs.Queries.{calc_of, kinds_of}
use Rattle.strip_setup.specs.Trees.{Two, Not}
use Rattle.strip_names.specs.Unknown.{unknown_column, unknown_in, unknown_in_all}
use Rattle.strip_kinds.specs.Mismatch.{differ, first_column, is_mismatched, is_text, joins_badly, mismatched_in, mismatched_in_all, summed_text}
use Rattle.strip_kinds.specs.Width.{bounded_in, is_computed, least_wide, magnitudes_in, magnitudes_in_all, summed_column}
use Rattle.strip_acts.proofs.Lists.{all-append, all_flat, all_left, all_mapped, all_right, both_empty, empty_both, empty_filter, empty_flat, fail_kept, filter_empty, flat_all, flat_empty, kept_fail, map_empty, mapped_all, none_of}

-- ---- an expression

-- the value of the expression is too wide
abbrev pub is_vast : List Entry → Expr → Bool
is_vast entries e = nat_le least_wide (magnitude_of (kinds_of entries) (calc_of entries e))

-- the expression is computed and too wide
abbrev pub is_wide : List Entry → Expr → Bool
is_wide entries e = is_computed e && is_vast entries e

abbrev pub IsKnownColumn : List Entry → ColTree → Type 0
IsKnownColumn entries column = unknown_column entries column ≡ []

abbrev pub IsMatched : List Entry → Part → Type 0
IsMatched entries part = is_mismatched entries part ≡ false

abbrev pub IsNotWide : List Entry → Part → Type 0
IsNotWide entries part = is_wide entries part.expr ≡ false

-- its columns are there, and no part of it is mismatched or too wide
pub record IsChecked (entries : List Entry) (wants : Bool) (e : Expr) : Type 0 where
  pub known : AllByRecursion (IsKnownColumn entries) (columns_in e)
  pub kinds : AllByRecursion (IsMatched entries) (parts wants e)
  pub narrow : AllByRecursion (IsNotWide entries) (parts wants e)

abbrev pub part_of : Bool → Expr → Part
part_of wants e = record { expr = e; wants_truth = wants }

-- the same of an expression that joins two
pub record AreChecked (entries : List Entry) (wants : Bool) (o : Op) (a b : Expr) : Type 0 where
  pub left : IsChecked entries (joins_truth (class_of o)) a
  pub right : IsChecked entries (joins_truth (class_of o)) b
  pub same : is_mismatched entries (part_of wants (Two o a b)) ≡ false
  pub narrow : is_wide entries (Two o a b) ≡ false

pub two_checked : (entries : List Entry) (wants : Bool) (o : Op) (a b : Expr) → AreChecked entries wants o a b → IsChecked entries wants (Two o a b)
two_checked entries wants o a b both =
    let joins = joins_truth (class_of o) in
    let whole = part_of wants (Two o a b) ∷ [] in
    record {
      known = all-append (IsKnownColumn entries) (columns_in a) (columns_in b) both.left.known both.right.known;
      kinds = all-append (IsMatched entries) (parts joins a) (parts joins b ++ whole) both.left.kinds (all-append (IsMatched entries) (parts joins b) whole both.right.kinds (both.same, tt));
      narrow = all-append (IsNotWide entries) (parts joins a) (parts joins b ++ whole) both.left.narrow (all-append (IsNotWide entries) (parts joins b) whole both.right.narrow (both.narrow, tt));
    }

pub checked_two : (entries : List Entry) (wants : Bool) (o : Op) (a b : Expr) → IsChecked entries wants (Two o a b) → AreChecked entries wants o a b
checked_two entries wants o a b checked =
    let joins = joins_truth (class_of o) in
    let whole = part_of wants (Two o a b) ∷ [] in
    let kinds = all_right (IsMatched entries) (parts joins a) (parts joins b ++ whole) checked.kinds in
    let narrow = all_right (IsNotWide entries) (parts joins a) (parts joins b ++ whole) checked.narrow in
    record {
      left = record {
        known = all_left (IsKnownColumn entries) (columns_in a) (columns_in b) checked.known;
        kinds = all_left (IsMatched entries) (parts joins a) (parts joins b ++ whole) checked.kinds;
        narrow = all_left (IsNotWide entries) (parts joins a) (parts joins b ++ whole) checked.narrow;
      };
      right = record {
        known = all_right (IsKnownColumn entries) (columns_in a) (columns_in b) checked.known;
        kinds = all_left (IsMatched entries) (parts joins b) whole kinds;
        narrow = all_left (IsNotWide entries) (parts joins b) whole narrow;
      };
      same = (all_right (IsMatched entries) (parts joins b) whole kinds).0;
      narrow = (all_right (IsNotWide entries) (parts joins b) whole narrow).0;
    }

pub not_checked : (entries : List Entry) (a : Expr) → IsChecked entries true a → IsChecked entries true (Not a)
not_checked entries a checked =
    let whole = part_of true (Not a) ∷ [] in
    record {
      known = checked.known;
      kinds = all-append (IsMatched entries) (parts true a) whole checked.kinds (refl, tt);
      narrow = all-append (IsNotWide entries) (parts true a) whole checked.narrow (refl, tt);
    }

pub checked_not : (entries : List Entry) (wants : Bool) (a : Expr) → IsChecked entries wants (Not a) → IsChecked entries true a
checked_not entries wants a checked =
    let whole = part_of wants (Not a) ∷ [] in
    record {
      known = checked.known;
      kinds = all_left (IsMatched entries) (parts true a) whole checked.kinds;
      narrow = all_left (IsNotWide entries) (parts true a) whole checked.narrow;
    }

pub not_matched : (entries : List Entry) (wants : Bool) (a : Expr) → IsChecked entries wants (Not a) → is_mismatched entries (part_of wants (Not a)) ≡ false
not_matched entries wants a checked = (all_right (IsMatched entries) (parts true a) (part_of wants (Not a) ∷ []) checked.kinds).0

-- ---- two numbers that are joined, two values that are compared, two truth values that are joined

module _ (entries : List Entry) (o : Op) (a b : Expr) where
  pub sum_checked : class_of o ≡ arithmetic → IsChecked entries false a → IsChecked entries false b → is_text entries a ≡ false → is_text entries b ≡ false → is_vast entries (Two o a b) ≡ false → IsChecked entries false (Two o a b)
  sum_checked is left right a_is b_is narrow = two_checked entries false o a b (record {
    left = subst (λ c. IsChecked entries (joins_truth c) a) (sym is) left;
    right = subst (λ c. IsChecked entries (joins_truth c) b) (sym is) right;
    same = ap (λ c. differ (gives_truth c) false || joins_badly c (is_text entries a) (is_text entries b)) is ∙ none_of (is_text entries a) (is_text entries b) a_is b_is;
    narrow = ap (λ c. not (gives_truth c) && is_vast entries (Two o a b)) is ∙ narrow;
  })

  pub comparison_checked : class_of o ≡ comparison → IsChecked entries false a → IsChecked entries false b → differ (is_text entries a) (is_text entries b) ≡ false → IsChecked entries true (Two o a b)
  comparison_checked is left right same = two_checked entries true o a b (record {
    left = subst (λ c. IsChecked entries (joins_truth c) a) (sym is) left;
    right = subst (λ c. IsChecked entries (joins_truth c) b) (sym is) right;
    same = ap (λ c. differ (gives_truth c) true || joins_badly c (is_text entries a) (is_text entries b)) is ∙ same;
    narrow = ap (λ c. not (gives_truth c) && is_vast entries (Two o a b)) is;
  })

  pub connective_checked : class_of o ≡ connective → IsChecked entries true a → IsChecked entries true b → IsChecked entries true (Two o a b)
  connective_checked is left right = two_checked entries true o a b (record {
    left = subst (λ c. IsChecked entries (joins_truth c) a) (sym is) left;
    right = subst (λ c. IsChecked entries (joins_truth c) b) (sym is) right;
    same = ap (λ c. differ (gives_truth c) true || joins_badly c (is_text entries a) (is_text entries b)) is;
    narrow = ap (λ c. not (gives_truth c) && is_vast entries (Two o a b)) is;
  })

-- ---- outermost expressions

-- the same, and what is summed up is no text and not too wide
pub record IsCheckedWhole (entries : List Entry) (whole : Whole) : Type 0 where
  pub checked : IsChecked entries (is_for_truth whole.purpose) whole.expr
  pub summed : summed_text entries whole.purpose whole.expr ≡ []
  pub narrow : AllByRecursion (λ e. is_vast entries e ≡ false) (summed_column whole.purpose whole.expr)

abbrev pub IsKnownWhole : List Entry → Whole → Type 0
IsKnownWhole entries whole = unknown_in entries whole.expr ≡ []

abbrev pub IsMatchedWhole : List Entry → Whole → Type 0
IsMatchedWhole entries whole = mismatched_in entries whole ≡ []

abbrev pub IsNarrowWhole : List Entry → Whole → Type 0
IsNarrowWhole entries whole = AllByRecursion (λ n. nat_le least_wide n ≡ false) (magnitudes_in entries whole)

module _ (entries : List Entry) (whole : Whole) where
  abbrev the_parts : List Part
  the_parts = parts_of whole

  pub whole_known : IsCheckedWhole entries whole → IsKnownWhole entries whole
  whole_known checked = flat_empty (unknown_column entries) (columns_in whole.expr) checked.checked.known

  pub whole_matched : IsCheckedWhole entries whole → IsMatchedWhole entries whole
  whole_matched checked =
      empty_both (map (λ (part : Part). first_column part.expr) (filter (is_mismatched entries) the_parts)) (map first_column (summed_text entries whole.purpose whole.expr))
      (ap (λ (ps : List Part). map (λ (part : Part). first_column part.expr) ps) (filter_empty (is_mismatched entries) the_parts checked.checked.kinds))
      (ap (map first_column) checked.summed)

  abbrev computed : List Expr
  computed = filter is_computed (map (λ (part : Part). part.expr) the_parts)

  pub whole_narrow : IsCheckedWhole entries whole → IsNarrowWhole entries whole
  whole_narrow checked =
      all_mapped (λ e. magnitude_of (kinds_of entries) (calc_of entries e)) (λ n. nat_le least_wide n ≡ false) (bounded_in whole)
      (all-append (λ e. is_vast entries e ≡ false) computed (summed_column whole.purpose whole.expr)
      (kept_fail (λ (part : Part). part.expr) is_computed (is_vast entries) the_parts checked.checked.narrow)
      checked.narrow)

  pub checked_whole : IsKnownWhole entries whole → IsMatchedWhole entries whole → IsNarrowWhole entries whole → IsCheckedWhole entries whole
  checked_whole known matched narrow =
      let kinds = both_empty (map (λ (part : Part). first_column part.expr) (filter (is_mismatched entries) the_parts)) (map first_column (summed_text entries whole.purpose whole.expr)) matched in
      let bounded = mapped_all (λ e. magnitude_of (kinds_of entries) (calc_of entries e)) (λ n. nat_le least_wide n ≡ false) (bounded_in whole) narrow in
      record {
        checked = record {
          known = empty_flat (unknown_column entries) (columns_in whole.expr) known;
          kinds = empty_filter (is_mismatched entries) the_parts (map_empty (λ (part : Part). first_column part.expr) (filter (is_mismatched entries) the_parts) kinds.0);
          narrow = fail_kept (λ (part : Part). part.expr) is_computed (is_vast entries) the_parts (all_left (λ e. is_vast entries e ≡ false) computed (summed_column whole.purpose whole.expr) bounded);
        };
        summed = map_empty first_column (summed_text entries whole.purpose whole.expr) kinds.1;
        narrow = all_right (λ e. is_vast entries e ≡ false) computed (summed_column whole.purpose whole.expr) bounded;
      }

-- ---- several of them

module _ (entries : List Entry) (wholes : List Whole) where
  pub all_known : AllByRecursion (IsKnownWhole entries) wholes → unknown_in_all entries wholes ≡ []
  all_known all = flat_empty (λ (whole : Whole). unknown_in entries whole.expr) wholes all

  pub known_all : unknown_in_all entries wholes ≡ [] → AllByRecursion (IsKnownWhole entries) wholes
  known_all e = empty_flat (λ (whole : Whole). unknown_in entries whole.expr) wholes e

  pub all_matched : AllByRecursion (IsMatchedWhole entries) wholes → mismatched_in_all entries wholes ≡ []
  all_matched all = flat_empty (mismatched_in entries) wholes all

  pub matched_all : mismatched_in_all entries wholes ≡ [] → AllByRecursion (IsMatchedWhole entries) wholes
  matched_all e = empty_flat (mismatched_in entries) wholes e

  pub all_narrow : AllByRecursion (IsNarrowWhole entries) wholes → filter (nat_le least_wide) (magnitudes_in_all entries wholes) ≡ []
  all_narrow all = filter_empty (nat_le least_wide) (magnitudes_in_all entries wholes) (all_flat (magnitudes_in entries) (λ n. nat_le least_wide n ≡ false) wholes all)

  pub narrow_all : filter (nat_le least_wide) (magnitudes_in_all entries wholes) ≡ [] → AllByRecursion (IsNarrowWhole entries) wholes
  narrow_all e = flat_all (magnitudes_in entries) (λ n. nat_le least_wide n ≡ false) wholes (empty_filter (nat_le least_wide) (magnitudes_in_all entries wholes) e)

module _ (entries : List Entry) where
  pub each_checked : (wholes : List Whole) → AllByRecursion (IsKnownWhole entries) wholes → AllByRecursion (IsMatchedWhole entries) wholes → AllByRecursion (IsNarrowWhole entries) wholes → AllByRecursion (IsCheckedWhole entries) wholes
  each_checked [] known matched narrow = tt
  each_checked (whole ∷ wholes) known matched narrow = (checked_whole entries whole known.0 matched.0 narrow.0, each_checked wholes known.1 matched.1 narrow.1)
