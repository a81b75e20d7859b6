-- What holds of a statement that isn't refused: it has no cause.
use Rattle.std.proofs.Common.{◌≡◌, ℕ, ◌<◌, ◌≤◌, Bool, true, false, nat_le, nat_lt, List, [], ◌∷◌, ◌++◌, Option, Some, None, not, option_map, unwrap_or, refl, arith}
use Rattle.std.specs.List.{AllByRecursion}
use Rattle.std.proofs.lemmas.Bool.Decides.{nat_tests}
use Rattle.strip_value.specs.declared.tables.By.{By}
use Rattle.strip_ast.specs.declared.rules.Manner.{Manner}
use Rattle.strip_ast.specs.declared.statements.Statement.{Statement}
use Rattle.strip_ast.specs.declared.statements.Statement.TheVariants as st
use Rattle.strip_setup.specs.declared.errors.LimitKind.{LimitKind}
use Rattle.strip_setup.specs.declared.errors.SetupError.{SetupError}
use Rattle.strip_setup.specs.declared.errors.SetupError.TheVariants.{Exists, Unknown}
use Rattle.strip_setup.specs.Catalog.{Catalog, first, is_derived, name_if, table_named}
use Rattle.strip_names.specs.Exists.{taken}
use Rattle.strip_names.specs.Limits.{limits, limit_if, more_than, one_more_than}
use Rattle.strip_names.specs.Unknown.{unknown_derived}
use Rattle.strip_catalog.specs.Calls.{IsDeclaration}
use Rattle.strip_catalog.specs.Refusals.{causes, causes_of_others, first_cause, limits_of_maintain, refusal, taken_by_maintain}

-- the cause isn't there
abbrev pub IsAbsent : Option SetupError → Type 0
IsAbsent cause = cause ≡ None

none_first : (all : List (Option SetupError)) → first_cause all ≡ None → AllByRecursion IsAbsent all
none_first [] e = tt
none_first (None ∷ all) e = (refl, none_first all e)
none_first (Some error ∷ all) e = cc

pub no_cause : (catalog : Catalog) (statement : Statement) → refusal catalog statement ≡ None → AllByRecursion IsAbsent (causes catalog statement)
unfolding refusal
no_cause catalog statement e = none_first (causes catalog statement) e

-- a `maintain` statement has no other cause either: of the others it can have the first alone
pub no_other_cause : (catalog : Catalog) (statement : Statement) → refusal catalog statement ≡ None → AllByRecursion IsAbsent (causes_of_others catalog statement)
no_other_cause catalog (st.Table name columns key rows) e = no_cause catalog (st.Table name columns key rows) e
no_other_cause catalog (st.Stream name table marked) e = no_cause catalog (st.Stream name table marked) e
no_other_cause catalog (st.Derive name query) e = no_cause catalog (st.Derive name query) e
no_other_cause catalog (st.Function name steps) e = no_cause catalog (st.Function name steps) e
no_other_cause catalog (st.Rule name table events conditions evaluate function manner) e = no_cause catalog (st.Rule name table events conditions evaluate function manner) e
no_other_cause catalog (st.Maintain name how manner) e =
    let closed = (no_cause catalog (st.Maintain name how manner) e).0 in
    (closed, (refl, (refl, (refl, (refl, (refl, (refl, (refl, (refl, (refl, (refl, tt)))))))))))
no_other_cause catalog st.Ready e = no_cause catalog st.Ready e
no_other_cause catalog (st.At moment) e = no_cause catalog (st.At moment) e
no_other_cause catalog (st.Deed caller deed) e = no_cause catalog (st.Deed caller deed) e

-- why a declaration is refused
pub declaration_refused : (catalog : Catalog) (statement : Statement) → IsDeclaration statement → refusal catalog statement ≡ first_cause (causes_of_others catalog statement)
unfolding refusal
declaration_refused catalog (st.Table name columns key rows) is = refl
declaration_refused catalog (st.Stream name table marked) is = refl
declaration_refused catalog (st.Derive name query) is = refl
declaration_refused catalog (st.Function name steps) is = refl
declaration_refused catalog (st.Rule name table events conditions evaluate function manner) is = refl
declaration_refused catalog (st.Maintain name how manner) is = absurd is
declaration_refused catalog st.Ready is = absurd is
declaration_refused catalog (st.At moment) is = absurd is
declaration_refused catalog (st.Deed caller deed) is = absurd is

-- ---- what is taken

pub none_there : {A : Type 0} (xs : List A) → first xs ≡ None → xs ≡ []
none_there [] e = refl
none_there (x ∷ xs) e = cc

pub none_mapped : {A B : Type 0} (f : A → B) (o : Option A) → option_map f o ≡ None → o ≡ None
none_mapped f None e = refl
none_mapped f (Some x) e = cc

-- ---- limits

pub no_exists : (catalog : Catalog) (statement : Statement) → refusal catalog statement ≡ None → taken catalog statement ≡ []
no_exists catalog statement e = none_there (taken catalog statement) (none_mapped Exists (first (taken catalog statement)) (no_other_cause catalog statement e).1.0)

pub both_empty : {A : Type 0} (xs ys : List A) → xs ++ ys ≡ [] → (xs ≡ []) × (ys ≡ [])
both_empty [] ys e = (refl, e)
both_empty (x ∷ xs) ys e = cc

pub no_limit : (catalog : Catalog) (statement : Statement) → refusal catalog statement ≡ None → limits catalog statement ≡ []
no_limit catalog statement e = none_there (limits catalog statement) (no_other_cause catalog statement e).1.1.1.0

pub at_most : (at number : ℕ) (what : LimitKind) → more_than at what number ≡ [] → number ≤ at
at_most at number what e = by_test (nat_lt at number) refl e
  where
    by_test : (b : Bool) → nat_lt at number ≡ b → limit_if b what at ≡ [] → number ≤ at
    by_test true is e = cc
    by_test false is e = grind (arith, nat_tests)

pub fewer : (at number : ℕ) (what : LimitKind) → one_more_than at what number ≡ [] → number < at
fewer at number what e = by_test (nat_le at number) refl e
  where
    by_test : (b : Bool) → nat_le at number ≡ b → limit_if b what at ≡ [] → number < at
    by_test true is e = cc
    by_test false is e = grind (arith, nat_tests)

-- ---- derived tables that are to be kept

module _ (catalog : Catalog) (name : List ℕ) (how : By) (manner : Manner) (e : refusal catalog (st.Maintain name how manner) ≡ None) where
  -- the names of what is made are free
  pub maintain_names : taken_by_maintain catalog name (unwrap_or manner.unique []) ≡ []
  maintain_names = none_there (taken_by_maintain catalog name (unwrap_or manner.unique [])) (none_mapped Exists (first (taken_by_maintain catalog name (unwrap_or manner.unique []))) (no_cause catalog (st.Maintain name how manner) e).1.0)

  -- the table is derived
  pub maintain_derived : is_derived (table_named catalog.tables name) ≡ true
  maintain_derived = by_test (is_derived (table_named catalog.tables name)) (none_there (unknown_derived catalog.tables name) (none_mapped Unknown (first (unknown_derived catalog.tables name)) (no_cause catalog (st.Maintain name how manner) e).1.1.0))
    where
      by_test : (b : Bool) → name_if (not b) name ≡ [] → b ≡ true
      by_test true is = refl
      by_test false is = cc

  -- no limit is passed
  pub maintain_limits : limits_of_maintain catalog manner.after ≡ []
  maintain_limits = none_there (limits_of_maintain catalog manner.after) (no_cause catalog (st.Maintain name how manner) e).1.1.1.0
