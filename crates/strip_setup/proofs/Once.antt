-- Names that are kept each once, by a loop that asks for each whether it is kept already.
use Rattle.std.proofs.Common.{◌≡◌, ℕ, Bool, true, false, not, ◌||◌, cond, List, [], ◌∷◌, ◌++◌, ◌≤◌, ◌+◌, map, filter, length, bytes_eq, refl, sym, ap, ◌∙◌, arith, append_assoc, length-append, append-nil, subst}
use Rattle.std.proofs.lemmas.Slice.Eq.{bytes_eq-Decides}
use Rattle.std.specs.List.{scan}
use Rattle.std.proofs.lemmas.List.{length-map}
use Rattle.strip_ast.specs.declared.rules.StepTree.{StepTree}
use Rattle.strip_setup.specs.Resolve.{bound_name}
use Rattle.strip_setup.specs.Catalog.{each_once, has_name, stood_before}

-- a name more, if it isn't one of these
abbrev pub kept_once : List (List ℕ) → List ℕ → List (List ℕ)
kept_once made name = cond (has_name made name) made (made ++ name ∷ [])

-- further names
abbrev pub once_all : List (List ℕ) → List (List ℕ) → List (List ℕ)
once_all made [] = made
once_all made (name ∷ names) = once_all (kept_once made name) names

-- the names of a list that stand neither before in it nor among earlier ones
abbrev once_after : List (List ℕ) → List (List ℕ) → List (List ℕ)
once_after earlier names =
    map (λ (name : List ℕ × List (List ℕ)). name.0) (filter (λ name. not (stood_before name)) (scan (λ earlier x. x ∷ earlier) (λ earlier x. (x, earlier)) earlier names))

-- both lists have the same names
abbrev AreSame : List (List ℕ) → List (List ℕ) → Type 0
AreSame made earlier = (name : List ℕ) → has_name made name ≡ has_name earlier name

has_behind : (made : List (List ℕ)) (one name : List ℕ) → has_name (made ++ one ∷ []) name ≡ (bytes_eq one name || has_name made name)
has_behind [] one name = refl
has_behind (first ∷ made) one name = ap (λ b. bytes_eq first name || b) (has_behind made one name) ∙ turned (bytes_eq first name) (bytes_eq one name) (has_name made name)
  where
    turned : (a b c : Bool) → (a || (b || c)) ≡ (b || (a || c))
    turned true true c = refl
    turned true false c = refl
    turned false b c = refl

-- a name that is one of these already adds none to them
found_again : (made : List (List ℕ)) (one name : List ℕ) → has_name made one ≡ true → has_name made name ≡ (bytes_eq one name || has_name made name)
found_again made one name found = by_test (bytes_eq one name) refl
  where
    by_test : (b : Bool) → bytes_eq one name ≡ b → has_name made name ≡ (b || has_name made name)
    by_test false e = refl
    by_test true e = let same : one ≡ name = (bytes_eq-Decides one name).0 e in ap (has_name made) (sym same) ∙ found

same_once : (made earlier : List (List ℕ)) (one : List ℕ) → AreSame made earlier → AreSame (kept_once made one) (one ∷ earlier)
same_once made earlier one same name = by_test (has_name made one) refl
  where
    by_test : (b : Bool) → has_name made one ≡ b → has_name (cond b made (made ++ one ∷ [])) name ≡ (bytes_eq one name || has_name earlier name)
    by_test false e = has_behind made one name ∙ ap (λ b. bytes_eq one name || b) (same name)
    by_test true e = found_again made one name e ∙ ap (λ b. bytes_eq one name || b) (same name)

-- those of further names
abbrev once_kept : List (List ℕ) → List (List ℕ) → List (List ℕ × List (List ℕ))
once_kept earlier names = filter (λ name. not (stood_before name)) (scan (λ earlier x. x ∷ earlier) (λ earlier x. (x, earlier)) earlier names)

abbrev once_mapped : List (List ℕ × List (List ℕ)) → List (List ℕ)
once_mapped names = map (λ (name : List ℕ × List (List ℕ)). name.0) names

once_of : (made earlier names : List (List ℕ)) → AreSame made earlier → made ++ once_after earlier names ≡ once_all made names
once_of made earlier [] same = append-nil made
once_of made earlier (one ∷ names) same =
    subst (λ b. made ++ once_mapped (cond (not b) ((one, earlier) ∷ once_kept (one ∷ earlier) names) (once_kept (one ∷ earlier) names)) ≡ once_all (kept_once made one) names) (same one)
    (by_test (has_name made one) refl (once_of (kept_once made one) (one ∷ earlier) names (same_once made earlier one same)))
  where
    by_test : (b : Bool) → has_name made one ≡ b → cond b made (made ++ one ∷ []) ++ once_after (one ∷ earlier) names ≡ once_all (kept_once made one) names
        → made ++ once_mapped (cond (not b) ((one, earlier) ∷ once_kept (one ∷ earlier) names) (once_kept (one ∷ earlier) names)) ≡ once_all (kept_once made one) names
    by_test true e rest = rest
    by_test false e rest = sym (append_assoc made (one ∷ []) (once_after (one ∷ earlier) names)) ∙ rest

pub once_is : (names : List (List ℕ)) → each_once names ≡ once_all [] names
once_is names = once_of [] [] names (λ name. refl)

-- ---- no more names than there were

once_fewer : (made names : List (List ℕ)) → length (once_all made names) ≤ length made + length names
once_fewer made [] = omega arith
once_fewer made (name ∷ names) =
    let rest = once_fewer (kept_once made name) names in
    let here = by_test (has_name made name) in
    omega (arith, rest, here)
  where
    by_test : (b : Bool) → length (cond b made (made ++ name ∷ [])) ≤ length made + 1
    by_test true = omega arith
    by_test false = let len = length-append made (name ∷ []) in omega (arith, len)

pub each_fewer : (names : List (List ℕ)) → length (each_once names) ≤ length names
each_fewer names = let most = once_fewer [] names in let same = ap length (once_is names) in omega (arith, most, same)

pub few_named : (steps : List StepTree) → length (each_once (map bound_name steps)) ≤ length steps
few_named steps = let most = each_fewer (map bound_name steps) in let same = length-map steps bound_name in omega (arith, most, same)
