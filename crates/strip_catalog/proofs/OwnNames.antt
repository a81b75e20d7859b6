-- Names and numbers are one to one: of what is declared each has a name of its own.
use Rattle.std.proofs.Common.{◌≡◌, ℕ, zero, suc, ◌+◌, ◌≤◌, Bool, true, false, ◌||◌, cond, List, [], ◌∷◌, ◌++◌, length, map, set, Option, Some, None, find, is_some, bytes_eq, refl, sym, ap, ap₂, ◌∙◌, subst, arith, unwrap_or}
use Rattle.std.specs.List.{position_from}
use Rattle.std.proofs.lemmas.Iterator.Adapters.{position_from-zero}
use Rattle.std.proofs.lemmas.Slice.Eq.{bytes_eq-Decides}
use Rattle.std.proofs.lemmas.List.{map-append}
use Rattle.std.proofs.Math.Seq.{map-set_same}
use Rattle.strip_value.specs.declared.rules.BoundDef.{BoundDef}
use Rattle.strip_value.specs.declared.rules.Function.{Function}
use Rattle.strip_value.specs.declared.rules.Rule.{Rule}
use Rattle.strip_value.specs.declared.streams.Stream.{Stream}
use Rattle.strip_value.specs.declared.tables.TableDef.{TableDef}
use Rattle.strip_ast.specs.declared.rules.StepTree.{StepTree}
use Rattle.strip_ast.specs.declared.statements.Statement.{Statement}
use Rattle.strip_ast.specs.declared.statements.Statement.TheVariants as st
use Rattle.strip_meaning.specs.Contents.{def_at}
use Rattle.strip_meaning.specs.Effect.{no_table}
use Rattle.strip_catalog.specs.Accepted.{AreAccepted, declared}
use Rattle.strip_setup.specs.Adds.{kept_by_steps, with_bound, with_statement}
use Rattle.strip_setup.specs.Catalog.{Catalog, function_named, function_number, has_name, name_if, rule_named, table_id}
use Rattle.strip_setup.specs.Maintain.{function_name, made_function, made_rule, manner_of, rule_name}
use Rattle.strip_acts.specs.Laws.{AreApart}
use Rattle.strip_catalog.specs.Laws.{HasOwnNames, NamesAreTheirOwn}
use Rattle.strip_catalog.specs.Refusals.{refusal}
use Rattle.strip_setup.specs.Resolve.{bindings_of, bound_with, derived_of, function_at, function_of, in_rule, no_function, rule_of, stream_of, table_of}
use Rattle.strip_catalog.proofs.Causes.{both_empty, maintain_derived, maintain_names, no_exists}
use Rattle.strip_catalog.proofs.Named.{made_function_name, made_rule_name, own_name}

-- ---- a name behind others

pub eq_turned : (one two : List ℕ) → bytes_eq one two ≡ false → bytes_eq two one ≡ false
eq_turned one two ne = by_test (bytes_eq two one) refl
  where
    by_test : (b : Bool) → bytes_eq two one ≡ b → bytes_eq two one ≡ false
    by_test false e = e
    by_test true e = let met = (bytes_eq-Decides one two).1 (sym ((bytes_eq-Decides two one).0 e)) in cc

pub neither : (a b : Bool) → (a || b) ≡ false → (a ≡ false) × (b ≡ false)
neither false b e = (refl, e)
neither true b e = cc

apart_behind : (names : List (List ℕ)) (name : List ℕ) → AreApart names → has_name names name ≡ false → AreApart (names ++ name ∷ [])
apart_behind [] name apart new = (refl, tt)
apart_behind (first ∷ names) name apart new =
    let both = neither (bytes_eq first name) (has_name names name) new in
    (not_among names first apart.0 (eq_turned first name both.0), apart_behind names name apart.1 both.1)
  where
    not_among : (those : List (List ℕ)) (one : List ℕ) → has_name those one ≡ false → bytes_eq name one ≡ false → has_name (those ++ name ∷ []) one ≡ false
    not_among [] one none ne = ap (λ b. b || false) ne
    not_among (other ∷ those) one none ne =
        let both = neither (bytes_eq other one) (has_name those one) none in
        ap₂ (λ a b. a || b) both.0 (not_among those one both.1 ne)

module _ {A : Type 0} (name_of : A → List ℕ) where
  -- what isn't found has another name than all
  not_found : (xs : List A) (name : List ℕ) → is_some (find (λ x. bytes_eq (name_of x) name) xs) ≡ false → has_name (map name_of xs) name ≡ false
  not_found [] name none = refl
  not_found (x ∷ xs) name none = by_test (bytes_eq (name_of x) name) none (not_found xs name)
    where
      by_test : (b : Bool) → is_some (cond b (Some x) (find (λ y. bytes_eq (name_of y) name) xs)) ≡ false → (is_some (find (λ y. bytes_eq (name_of y) name) xs) ≡ false → has_name (map name_of xs) name ≡ false) → (b || has_name (map name_of xs) name) ≡ false
      by_test true e rest = cc
      by_test false e rest = rest e

  one_more : (xs : List A) (x : A) → AreApart (map name_of xs) → is_some (find (λ y. bytes_eq (name_of y) (name_of x)) xs) ≡ false → AreApart (map name_of (xs ++ x ∷ []))
  one_more xs x apart none = subst AreApart (sym (map-append name_of xs (x ∷ []))) (apart_behind (map name_of xs) (name_of x) apart (not_found xs (name_of x) none))

not_there : (b : Bool) (name : List ℕ) (more : List (List ℕ)) → name_if b name ++ more ≡ [] → b ≡ false
not_there true name more e = cc
not_there false name more e = refl

pub not_named : (b : Bool) (name : List ℕ) → name_if b name ≡ [] → b ≡ false
not_named true name e = cc
not_named false name e = refl

-- ---- what has another part and the same name

kept_names : (tables : List TableDef) (steps : List StepTree) → map (λ (t : TableDef). t.name) (kept_by_steps tables steps) ≡ map (λ (t : TableDef). t.name) tables
kept_names [] steps = refl
kept_names (table ∷ tables) steps = ap (λ names. table.name ∷ names) (kept_names tables steps)

module _ (name : List ℕ) (bound : List BoundDef) where
  abbrev is_it : Function → Bool
  is_it f = bytes_eq f.name name

  behind : (fs : List Function) (i n : ℕ) → position_from is_it i fs ≡ Some n → i ≤ n
  behind [] i n e = cc
  behind (f ∷ fs) i n e = by_test (is_it f) e (behind fs (i + 1) n)
    where
      by_test : (b : Bool) → cond b (Some i) (position_from is_it (i + 1) fs) ≡ Some n → (position_from is_it (i + 1) fs ≡ Some n → i + 1 ≤ n) → i ≤ n
      by_test true at rest = let same : i ≡ n = cc in omega (arith, same)
      by_test false at rest = let more = rest at in omega (arith, more)

  names_set : (fs : List Function) (i k : ℕ) → position_from is_it i fs ≡ Some (i + k) → map (λ (f : Function). f.name) (set fs k (record (unwrap_or (find is_it fs) no_function) { bound = bound })) ≡ map (λ (f : Function). f.name) fs
  names_set [] i k e = cc
  names_set (f ∷ fs) i zero e = by_test (is_it f) (e ∙ ap Some here) (behind fs (i + 1) i)
    where
      here : i + 0 ≡ i
      here = omega arith

      by_test : (b : Bool) → cond b (Some i) (position_from is_it (i + 1) fs) ≡ Some i → (position_from is_it (i + 1) fs ≡ Some i → i + 1 ≤ i)
          → (unwrap_or (cond b (Some f) (find is_it fs)) no_function).name ∷ map (λ (g : Function). g.name) fs ≡ f.name ∷ map (λ (g : Function). g.name) fs
      by_test true at rest = refl
      by_test false at rest = let less = rest at in absurd (omega (arith, less))
  names_set (f ∷ fs) i (suc k) e = by_test (is_it f) e (names_set fs (i + 1) k)
    where
      moved : i + suc k ≡ (i + 1) + k
      moved = omega arith

      by_test : (b : Bool) → cond b (Some i) (position_from is_it (i + 1) fs) ≡ Some (i + suc k)
          → (position_from is_it (i + 1) fs ≡ Some ((i + 1) + k) → map (λ (g : Function). g.name) (set fs k (record (unwrap_or (find is_it fs) no_function) { bound = bound })) ≡ map (λ (g : Function). g.name) fs)
          → f.name ∷ map (λ (g : Function). g.name) (set fs k (record (unwrap_or (cond b (Some f) (find is_it fs)) no_function) { bound = bound })) ≡ f.name ∷ map (λ (g : Function). g.name) fs
      by_test true at rest = let same : i ≡ i + suc k = cc in absurd (omega (arith, same))
      by_test false at rest = ap (λ names. f.name ∷ names) (rest (at ∙ ap Some moved))

  bound_names : (fs : List Function) → map (λ (f : Function). f.name) (with_bound fs (function_number fs name) (unwrap_or (function_named fs name) no_function) bound) ≡ map (λ (f : Function). f.name) fs
  bound_names fs = by_number (function_number fs name) (position_from-zero is_it fs)
    where
      by_number : (number : Option ℕ) → number ≡ position_from is_it 0 fs → map (λ (f : Function). f.name) (with_bound fs number (unwrap_or (function_named fs name) no_function) bound) ≡ map (λ (f : Function). f.name) fs
      by_number None e = refl
      by_number (Some k) e = names_set fs 0 k (sym e ∙ ap Some from_none)
        where
          from_none : k ≡ 0 + k
          from_none = omega arith

-- ---- statements

with_names : (catalog : Catalog) (statement : Statement) → refusal catalog statement ≡ None → HasOwnNames catalog → HasOwnNames (with_statement catalog statement)
unfolding with_statement
with_names catalog (st.Table name columns key rows) e own =
    let new = not_there _ name _ (no_exists catalog (st.Table name columns key rows) e) in
    record { tables = one_more (λ (t : TableDef). t.name) catalog.tables (table_of name columns key rows) own.tables new; streams = own.streams; functions = own.functions; rules = own.rules }
with_names catalog (st.Stream name table marked) e own =
    let new = not_named _ name (no_exists catalog (st.Stream name table marked) e) in
    record { tables = own.tables; streams = one_more (λ (s : Stream). s.name) catalog.streams (stream_of catalog.tables name table marked) own.streams new; functions = own.functions; rules = own.rules }
with_names catalog (st.Derive name query) e own =
    let new = not_there _ name _ (no_exists catalog (st.Derive name query) e) in
    record { tables = one_more (λ (t : TableDef). t.name) catalog.tables (derived_of catalog.tables name query) own.tables new; streams = own.streams; functions = own.functions; rules = own.rules }
with_names catalog (st.Function name steps) e own =
    let new = not_there _ name _ (no_exists catalog (st.Function name steps) e) in
    record {
      tables = subst AreApart (sym (kept_names catalog.tables steps)) own.tables;
      streams = own.streams;
      functions = one_more (λ (f : Function). f.name) catalog.functions (function_of catalog.tables name steps) own.functions new;
      rules = own.rules;
    }
with_names catalog (st.Rule name table events conditions evaluate function manner) e own =
    let new = not_there _ name _ (no_exists catalog (st.Rule name table events conditions evaluate function manner) e) in
    let bound = bound_with (function_at catalog function).bound (bindings_of (in_rule catalog.tables table) (conditions ++ evaluate)) in
    record {
      tables = own.tables;
      streams = own.streams;
      functions = subst AreApart (sym (bound_names function bound catalog.functions)) own.functions;
      rules = one_more (λ (r : Rule). r.name) catalog.rules (rule_of catalog name table events conditions evaluate function manner) own.rules new;
    }
with_names catalog (st.Maintain name how manner) e own =
    let id = table_id catalog.tables name in
    let table = def_at catalog.tables id in
    let named = own_name catalog.tables name (maintain_derived catalog name how manner e) in
    let none = maintain_names catalog name how manner e in
    let function_free = not_there _ (function_name name) _ none in
    let rule_free = not_there _ (rule_name name) _ (both_empty (name_if (is_some (function_named catalog.functions (function_name name))) (function_name name)) _ none).1 in
    let function_is = made_function_name how table id ∙ ap function_name named in
    let rule_is = made_rule_name how table (length catalog.functions) (manner_of manner) ∙ ap rule_name named in
    record {
      tables = subst AreApart (sym (map-set_same (λ (t : TableDef). t.name) catalog.tables id (record table { kept = Some how; declared = true }) no_table.def refl)) own.tables;
      streams = own.streams;
      functions = one_more (λ (f : Function). f.name) catalog.functions (made_function how table id) own.functions (subst (λ n. is_some (function_named catalog.functions n) ≡ false) (sym function_is) function_free);
      rules = one_more (λ (r : Rule). r.name) catalog.rules (made_rule how table (length catalog.functions) (manner_of manner)) own.rules (subst (λ n. is_some (rule_named catalog.rules n) ≡ false) (sym rule_is) rule_free);
    }
with_names catalog st.Ready e own = record { tables = own.tables; streams = own.streams; functions = own.functions; rules = own.rules }
with_names catalog (st.At moment) e own = own
with_names catalog (st.Deed caller deed) e own = own

all_names : (statements : List Statement) → AreAccepted statements → HasOwnNames (declared statements)
all_names [] accepted = record { tables = tt; streams = tt; functions = tt; rules = tt }
all_names (statement ∷ earlier) accepted = with_names (declared earlier) statement accepted.2 (all_names earlier accepted.0)

pub own_names : NamesAreTheirOwn
own_names catalog is = subst HasOwnNames (sym is.is) (all_names is.statements is.accepted)
