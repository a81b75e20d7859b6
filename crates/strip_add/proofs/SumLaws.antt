-- Sums per key: their shape, their bounds, and what one row more makes of them.
use Rattle.std.proofs.Common.{◌≡◌, ℕ, suc, zero, ◌+◌, ◌-◌, ◌*◌, ◌^◌, ◌<◌, ◌≤◌, Bool, true, false, cond, List, [], ◌∷◌, ◌++◌, length, map, take, drop, get_or, replicate, Option, Some, None, is_some, refl, sym, ap, ◌∙◌, subst, arith, append_assoc, length-take, length-drop, length-append}
use Rattle.std.specs.Prelude.{Result, Ok, Err, IfOk, ℤ, pos, ◌+ℤ◌}
use Rattle.std.proofs.lemmas.Int.{ints}
use Rattle.std.specs.List.{AllByRecursion}
use Rattle.std.proofs.Math.Seq.{drop-cons, take-append_seam, drop-append_seam}
use Rattle.std.proofs.lemmas.List.{length-map, length-replicate, map-append, take_all, take_more}
use Rattle.strip_value.specs.declared.kinds.Kind.TheVariants as kind
use Rattle.strip_value.specs.declared.values.Value.{Value}
use Rattle.strip_value.specs.declared.values.Value.TheVariants.{Int}
use Rattle.strip_value.specs.declared.tables.ColumnDef.{ColumnDef}
use Rattle.strip_value.specs.declared.tables.TableDef.{TableDef}
use Rattle.strip_value.specs.Kinds.{Fits, FitsColumns}
use Rattle.strip_value.specs.Table.{Keyed, column_of, key_of, has_key, Rises, row_at, with_row}
use Rattle.strip_value.proofs.Lists.{all_weaker}
use Rattle.strip_value.proofs.KeyedLaws.{puts_there, find_all}
use Rattle.strip_meaning.specs.Sums.{CountsUp, IsDerived, number_of, totals_of, row_of, plus, zeros, sums_at, keys_with_sums, folded, totals_or, totals_at, summed, IsUnder, IsUpTo}
use Rattle.strip_add.specs.Parts.{numbers, behind, first_number}
use Rattle.strip_add.proofs.KeyedAsMaps.{key_is, has_own, at_first, past_first, same_rows, Sets, sets_row, not_last}

-- adding place by place
pub plus_none : (one : List ℤ) → plus one [] ≡ one
plus_none [] = refl
plus_none (a ∷ one) = refl

pub plus_comm : (one two : List ℤ) → plus one two ≡ plus two one
plus_comm [] [] = refl
plus_comm [] (b ∷ two) = refl
plus_comm (a ∷ one) [] = refl
plus_comm (a ∷ one) (b ∷ two) =
    let heads : a +ℤ b ≡ b +ℤ a = omega (arith, ints) in
    let tails = plus_comm one two in
    cc

pub plus_assoc : (one two three : List ℤ) → plus (plus one two) three ≡ plus one (plus two three)
plus_assoc [] two three = refl
plus_assoc (a ∷ one) [] three = refl
plus_assoc (a ∷ one) (b ∷ two) [] = refl
plus_assoc (a ∷ one) (b ∷ two) (c ∷ three) =
    let heads : (a +ℤ b) +ℤ c ≡ a +ℤ (b +ℤ c) = omega (arith, ints) in
    let tails = plus_assoc one two three in
    cc

plus_swap : (one two three : List ℤ) → plus one (plus two three) ≡ plus two (plus one three)
plus_swap one two three = sym (plus_assoc one two three) ∙ ap (λ s. plus s three) (plus_comm one two) ∙ plus_assoc two one three

pub length_plus : (one two : List ℤ) → length one ≤ length two → length (plus one two) ≡ length two
length_plus [] two le = refl
length_plus (a ∷ one) [] le = absurd (omega arith)
length_plus (a ∷ one) (b ∷ two) le = ap suc (length_plus one two (omega arith))

zeros_plus : (n : ℕ) (two : List ℤ) → n ≤ length two → plus (replicate n (pos 0)) two ≡ two
zeros_plus zero two le = refl
zeros_plus (suc n) [] le = absurd (omega arith)
zeros_plus (suc n) (b ∷ two) le =
    let heads : pos 0 +ℤ b ≡ b = omega (arith, ints) in
    let tails = zeros_plus n two (omega arith) in
    cc

module _ (def : TableDef) where
  abbrev pub width : ℕ
  width = length def.columns - length def.key

  pub length_zeros : length (zeros def) ≡ width
  length_zeros = length-replicate width (pos 0)

  -- zeros add nothing
  pub plus_zeros : (two : List ℤ) → length two ≡ width → plus (zeros def) two ≡ two
  plus_zeros two e = zeros_plus width two (omega arith)

-- the numbers of numbers
pub numbers_back : (sums : List ℤ) → map number_of (map Int sums) ≡ sums
numbers_back [] = refl
numbers_back (s ∷ sums) = ap (λ rest. s ∷ rest) (numbers_back sums)

-- a key of the first columns is the row's beginning
first_key : (n : ℕ) (columns : List ℕ) (row : List Value) → CountsUp n columns → n + length columns ≤ length row → key_of columns row ≡ take (length columns) (drop n row)
first_key n [] row up le = refl
first_key n (c ∷ columns) row up le =
    let here : get_or row c (Int (pos 0)) ≡ get_or row n (Int (pos 0)) = ap (λ k. get_or row k (Int (pos 0))) up.0 in
    let next = drop-cons row n (Int (pos 0)) (omega arith) in
    let one_up : n + 1 ≡ suc n = omega arith in
    let n_up : CountsUp (suc n) columns = subst (λ k. CountsUp k columns) one_up up.1 in
    let rest = first_key (suc n) columns row n_up (omega arith) in
    ap (λ v. v ∷ key_of columns row) here ∙ ap (λ vs. get_or row n (Int (pos 0)) ∷ vs) rest ∙ sym (ap (take (suc (length columns))) next)

pub key_at_front : (columns : List ℕ) (row : List Value) → CountsUp 0 columns → length columns ≤ length row → key_of columns row ≡ take (length columns) row
key_at_front columns row up le = first_key 0 columns row up (omega arith)

pub length_key : (columns : List ℕ) (row : List Value) → length (key_of columns row) ≡ length columns
length_key columns row = length-map columns (column_of row)

-- a row made of a key and totals has them
pub key_of_row : (columns : List ℕ) (key : List Value) (sums : List ℤ) → CountsUp 0 columns → length key ≡ length columns → key_of columns (row_of key sums) ≡ key
key_of_row columns key sums up e =
    key_at_front columns (key ++ map Int sums) up (omega (arith, length-append key (map Int sums)))
    ∙ subst (λ n. take n (key ++ map Int sums) ≡ key) e (take-append_seam key (map Int sums))

pub totals_of_row : (def : TableDef) (key : List Value) (sums : List ℤ) → length key ≡ length def.key → totals_of def (row_of key sums) ≡ sums
totals_of_row def key sums e =
    ap (map number_of) (subst (λ n. drop n (key ++ map Int sums) ≡ map Int sums) e (drop-append_seam key (map Int sums))) ∙ numbers_back sums

-- rows of a table's columns
pub fits_length : (columns : List ColumnDef) (row : List Value) → FitsColumns columns row → length row ≡ length columns
fits_length [] [] fits = refl
fits_length [] (v ∷ row) fits = absurd fits
fits_length (c ∷ columns) [] fits = absurd fits
fits_length (c ∷ columns) (v ∷ row) fits = ap suc (fits_length columns row fits.1)

fits_put : (n : ℕ) (columns : List ColumnDef) (row new : List Value) → FitsColumns columns row → FitsColumns (drop n columns) new → FitsColumns columns (take n row ++ new)
fits_put zero columns row new fits end = end
fits_put (suc n) [] [] new fits end = end
fits_put (suc n) [] (v ∷ row) new fits end = absurd fits
fits_put (suc n) (c ∷ columns) [] new fits end = absurd fits
fits_put (suc n) (c ∷ columns) (v ∷ row) new fits end = (fits.0, fits_put n columns row new fits.1 end)

fits_big : (columns : List ColumnDef) (sums : List ℤ) → AllByRecursion (λ (c : ColumnDef). c.kind ≡ kind.Big) columns → length sums ≡ length columns → AllByRecursion (IsUnder (2 ^ 126)) sums → FitsColumns columns (map Int sums)
fits_big [] [] big e under = tt
fits_big [] (s ∷ sums) big e under = absurd (omega arith)
fits_big (c ∷ columns) [] big e under = absurd (omega arith)
fits_big (c ∷ columns) (s ∷ sums) big e under = (subst (λ k. Fits k (Int s)) (sym big.0) under.0, fits_big columns sums big.1 (omega arith) under.1)

pub length_totals : (def : TableDef) (row : List Value) → FitsColumns def.columns row → length (totals_of def row) ≡ width def
length_totals def row fits =
    length-map (drop (length def.key) row) number_of ∙ omega (arith, length-drop (length def.key) row, fits_length def.columns row fits)

pub length_totals_at : (def : TableDef) (rows : List (List Value)) (key : List Value) → AllByRecursion (FitsColumns def.columns) rows → length (totals_at def rows key) ≡ width def
length_totals_at def rows key all = by_row (row_at def.key rows key) refl
  where
    by_row : (o : Option (List Value)) → row_at def.key rows key ≡ o → length (totals_or def o) ≡ width def
    by_row (Some row) e = length_totals def row (find_all (FitsColumns def.columns) (has_key def.key key) rows row all e)
    by_row None e = length_zeros def

-- the row of sums
pub record SummedThere (def : TableDef) (rows : List (List Value)) (row : List Value) : Type 0 where
  pub key : key_of def.key (summed def rows row) ≡ key_of def.key row
  pub totals : totals_of def (summed def rows row) ≡ plus (totals_at def rows (key_of def.key row)) (totals_of def row)
  pub fits : AllByRecursion (IsUnder (2 ^ 126)) (plus (totals_at def rows (key_of def.key row)) (totals_of def row)) → FitsColumns def.columns (summed def rows row)

pub summed_there : (def : TableDef) (rows : List (List Value)) (row : List Value) → IsDerived def → AllByRecursion (FitsColumns def.columns) rows → FitsColumns def.columns row → SummedThere def rows row
summed_there def rows row derived all fits =
    let key = key_of def.key row in
    let sums = plus (totals_at def rows key) (totals_of def row) in
    let long = length_key def.key row in
    let old = length_totals_at def rows key all in
    let more = length_totals def row fits in
    let both = length_plus (totals_at def rows key) (totals_of def row) (omega arith) in
    let row_long = fits_length def.columns row fits in
    record {
      key = key_of_row def.key key sums derived.key_first long;
      totals = totals_of_row def key sums long;
      fits = λ under.
          subst (λ k. FitsColumns def.columns (k ++ map Int sums)) (sym (key_at_front def.key row derived.key_first (let within = derived.key_within in omega arith)))
          (fits_put (length def.key) def.columns row (map Int sums) fits
          (fits_big (drop (length def.key) def.columns) sums derived.totals (omega (arith, length-drop (length def.key) def.columns)) under));
    }

-- what the code adds, where the table has no row nothing, is what the table's totals say
pub behind_plus : (def : TableDef) (o : Option (List Value)) (more : List ℤ) → length more ≡ width def → plus (numbers (behind (length def.key) o)) more ≡ plus (totals_or def o) more
behind_plus def (Some row) more e = refl
behind_plus def None more e = sym (plus_zeros def more e)

pub length_behind : (def : TableDef) (rows : List (List Value)) (key : List Value) → AllByRecursion (FitsColumns def.columns) rows → length (behind (length def.key) (row_at def.key rows key)) ≤ width def
length_behind def rows key all = by_row (row_at def.key rows key) refl
  where
    by_row : (o : Option (List Value)) → row_at def.key rows key ≡ o → length (behind (length def.key) o) ≤ width def
    by_row (Some row) e =
        let fits = fits_length def.columns row (find_all (FitsColumns def.columns) (has_key def.key key) rows row all e) in
        omega (arith, length-drop (length def.key) row)
    by_row None e = omega arith

-- sums over rows
module _ (def : TableDef) where
  -- one row's totals, where it has the key
  abbrev pub one_more : Bool → List Value → List ℤ → List ℤ
  one_more b row others = cond b (plus (totals_of def row) others) others

  pub sums_last : (rows : List (List Value)) (row key : List Value) → sums_at def (rows ++ row ∷ []) key ≡ one_more (has_key def.key key row) row (sums_at def rows key)
  sums_last [] row key = refl
  sums_last (first ∷ rows) row key =
      ap (λ s. one_more (has_key def.key key first) first s) (sums_last rows row key)
      ∙ by_tests (has_key def.key key first) (has_key def.key key row)
    where
      by_tests : (a b : Bool) → one_more a first (one_more b row (sums_at def rows key)) ≡ one_more b row (one_more a first (sums_at def rows key))
      by_tests true true = plus_swap (totals_of def first) (totals_of def row) (sums_at def rows key)
      by_tests true false = refl
      by_tests false b = refl

  pub length_sums : (rows : List (List Value)) (key : List Value) → AllByRecursion (FitsColumns def.columns) rows → length (sums_at def rows key) ≡ width def
  length_sums [] key all = length_zeros def
  length_sums (row ∷ rows) key all = by_test (has_key def.key key row) (length_sums rows key all.1)
    where
      by_test : (b : Bool) → length (sums_at def rows key) ≡ width def → length (one_more b row (sums_at def rows key)) ≡ width def
      by_test true e = let here = length_totals def row all.0 in length_plus (totals_of def row) (sums_at def rows key) (omega arith) ∙ e
      by_test false e = e

  pub sums_append : (one two : List (List Value)) (key : List Value) → AllByRecursion (FitsColumns def.columns) two → sums_at def (one ++ two) key ≡ plus (sums_at def one key) (sums_at def two key)
  sums_append [] two key all = sym (plus_zeros def (sums_at def two key) (length_sums two key all))
  sums_append (row ∷ one) two key all =
      ap (λ s. one_more (has_key def.key key row) row s) (sums_append one two key all) ∙ by_test (has_key def.key key row)
    where
      by_test : (b : Bool) → one_more b row (plus (sums_at def one key) (sums_at def two key)) ≡ plus (one_more b row (sums_at def one key)) (sums_at def two key)
      by_test true = sym (plus_assoc (totals_of def row) (sums_at def one key) (sums_at def two key))
      by_test false = refl

  -- no row has the key
  pub sums_none : (rows : List (List Value)) (key : List Value) → row_at def.key rows key ≡ None → sums_at def rows key ≡ zeros def
  sums_none [] key e = refl
  sums_none (row ∷ rows) key e = by_test (has_key def.key key row) refl (sums_none rows key)
    where
      by_test : (b : Bool) → has_key def.key key row ≡ b → (row_at def.key rows key ≡ None → sums_at def rows key ≡ zeros def) → one_more (has_key def.key key row) row (sums_at def rows key) ≡ zeros def
      by_test true h rest = let met = sym (at_first def.key row rows key h) ∙ e in cc
      by_test false h rest =
          ap (λ b. one_more b row (sums_at def rows key)) h ∙ rest (sym (past_first def.key row rows key h) ∙ e)

-- bounds: so many rows of totals under a bound have sums of at most so many times the bound
pub up_to_plus : (m n : ℕ) (one two : List ℤ) → AllByRecursion (IsUpTo m) one → AllByRecursion (IsUpTo n) two → AllByRecursion (IsUpTo (m + n)) (plus one two)
up_to_plus m n [] two first second = all_weaker (IsUpTo n) (IsUpTo (m + n)) (λ x up. (omega (arith, ints, up.0), omega (arith, ints, up.1))) two second
up_to_plus m n (a ∷ one) [] first second = all_weaker (IsUpTo m) (IsUpTo (m + n)) (λ x up. (omega (arith, ints, up.0), omega (arith, ints, up.1))) (a ∷ one) first
up_to_plus m n (a ∷ one) (b ∷ two) first second =
    let a_up = first.0 in
    let b_up = second.0 in
    ((omega (arith, ints), omega (arith, ints)), up_to_plus m n one two first.1 second.1)

pub up_to_zeros : (n : ℕ) → AllByRecursion (IsUpTo 0) (replicate n (pos 0))
up_to_zeros zero = tt
up_to_zeros (suc n) = ((omega (arith, ints), omega (arith, ints)), up_to_zeros n)

module _ (def : TableDef) (bound : ℕ) where
  abbrev pub AllUnder : List (List Value) → Type 0
  AllUnder rows = AllByRecursion (λ row. AllByRecursion (IsUnder bound) (totals_of def row)) rows

  pub sums_up_to : (rows : List (List Value)) (key : List Value) → AllUnder rows → AllByRecursion (IsUpTo (bound * length rows)) (sums_at def rows key)
  sums_up_to [] key under =
      let none : bound * 0 ≡ 0 = omega arith in
      subst (λ m. AllByRecursion (IsUpTo m) (zeros def)) (sym none) (up_to_zeros (width def))
  sums_up_to (row ∷ rows) key under = by_test (has_key def.key key row) (sums_up_to rows key under.1)
    where
      grown : bound + bound * length rows ≡ bound * length (row ∷ rows)
      grown = omega arith

      by_test : (b : Bool) → AllByRecursion (IsUpTo (bound * length rows)) (sums_at def rows key) → AllByRecursion (IsUpTo (bound * length (row ∷ rows))) (one_more def b row (sums_at def rows key))
      by_test true rest =
          let here = all_weaker (IsUnder bound) (IsUpTo bound) (λ x u. (omega (arith, ints, u.0), omega (arith, ints, u.1))) (totals_of def row) under.0 in
          subst (λ m. AllByRecursion (IsUpTo m) (plus (totals_of def row) (sums_at def rows key))) grown (up_to_plus bound (bound * length rows) (totals_of def row) (sums_at def rows key) here rest)
      by_test false rest =
          all_weaker (IsUpTo (bound * length rows)) (IsUpTo (bound * length (row ∷ rows))) (λ x u. (omega (arith, ints, grown, u.0), omega (arith, ints, grown, u.1))) (sums_at def rows key) rest

-- one number more is appended
pub record Appends (before left rest whole : List Value) : Type 0 where
  pub all : before ++ map Int (plus (numbers left) (numbers rest)) ≡ whole
  pub under : AllByRecursion (IsUnder (2 ^ 126)) (plus (numbers left) (numbers rest))
  pub shorter : length left ≤ length rest

pub first_sum : (left : List Value) (v : Value) (rest : List Value) → plus (numbers left) (numbers (v ∷ rest)) ≡ (first_number left +ℤ number_of v) ∷ plus (numbers (drop 1 left)) (numbers rest)
first_sum [] v rest = let heads : number_of v ≡ pos 0 +ℤ number_of v = omega (arith, ints) in ap (λ n. n ∷ numbers rest) heads
first_sum (l ∷ left) v rest = refl

pub append_first : (before left : List Value) (v : Value) (rest whole : List Value) → Appends before left (v ∷ rest) whole → Appends (before ++ Int (first_number left +ℤ number_of v) ∷ []) (drop 1 left) rest whole
append_first before left v rest whole a =
    let first = first_sum left v rest in
    let sum = first_number left +ℤ number_of v in
    record {
      all = append_assoc before (Int sum ∷ []) (map Int (plus (numbers (drop 1 left)) (numbers rest)))
          ∙ ap (λ sums. before ++ map Int sums) (sym first) ∙ a.all;
      under = (subst (AllByRecursion (IsUnder (2 ^ 126))) first a.under).1;
      shorter = let le = a.shorter in omega (arith, length-drop 1 left);
    }

pub appends_as : (b l r w b' l' r' : List Value) → Appends b l r w → b' ≡ b → l' ≡ l → r' ≡ r → Appends b' l' r' w
appends_as b l r w b' l' r' a e f g =
    subst (λ x. Appends x l' r' w) (sym e) (subst (λ x. Appends b x r' w) (sym f) (subst (λ x. Appends b l x w) (sym g) a))

-- the parts from which the row of sums is made
pub record SumParts (def : TableDef) (rows : List (List Value)) (row key totals old : List Value) : Type 0 where
  pub lengths : length old ≤ length totals
  pub fit : AllByRecursion (IsUnder (2 ^ 126)) (plus (numbers old) (numbers totals))
  pub made : key ++ map Int (plus (numbers old) (numbers totals)) ≡ summed def rows row

pub sum_parts : (def : TableDef) (rows : List (List Value)) (row key totals old : List Value) (width : ℕ) (o : Option (List Value)) → IsDerived def → AllByRecursion (FitsColumns def.columns) rows → FitsColumns def.columns row → AllByRecursion (IsUnder (2 ^ 126)) (plus (totals_at def rows (key_of def.key row)) (totals_of def row)) → width ≡ length def.key → key ≡ take width row → totals ≡ drop width row → o ≡ row_at def.key rows key → old ≡ behind width o → SumParts def rows row key totals old
sum_parts def rows row key totals old width o derived all fits under width_is key_is totals_is o_is old_is =
    let long = fits_length def.columns row fits in
    let within = derived.key_within in
    let front : key ≡ key_of def.key row = key_is ∙ ap (λ n. take n row) width_is ∙ sym (key_at_front def.key row derived.key_first (omega arith)) in
    let there : o ≡ row_at def.key rows (key_of def.key row) = o_is ∙ ap (row_at def.key rows) front in
    let old_is_behind : old ≡ behind (length def.key) (row_at def.key rows (key_of def.key row)) = old_is ∙ ap (λ n. behind n o) width_is ∙ ap (behind (length def.key)) there in
    let totals_are : numbers totals ≡ totals_of def row = ap numbers totals_is ∙ ap (λ n. numbers (drop n row)) width_is in
    let sums : plus (numbers old) (numbers totals) ≡ plus (totals_at def rows (key_of def.key row)) (totals_of def row) =
    ap (λ xs. plus (numbers xs) (numbers totals)) old_is_behind ∙ ap (plus (numbers (behind (length def.key) (row_at def.key rows (key_of def.key row))))) totals_are
    ∙ behind_plus def (row_at def.key rows (key_of def.key row)) (totals_of def row) (length_totals def row fits) in
    record {
      lengths =
          let short = length_behind def rows (key_of def.key row) all in
          let same = ap length old_is_behind in
          let total = ap length totals_is in
          omega (arith, length-drop width row);
      fit = subst (AllByRecursion (IsUnder (2 ^ 126))) (sym sums) under;
      made = ap (λ k. k ++ map Int (plus (numbers old) (numbers totals))) front ∙ ap (λ s. key_of def.key row ++ map Int s) sums;
    }

-- the row of a key and its sums over all rows, where one of these rows has the key
abbrev pub found_sums : TableDef → List (List Value) → List (List Value) → List Value → Option (List Value)
found_sums def all rows key = cond (is_some (row_at def.key rows key)) (Some (row_of key (sums_at def all key))) None

abbrev pub sums_row : TableDef → List (List Value) → List Value → List Value
sums_row def all row = row_of (key_of def.key row) (sums_at def all (key_of def.key row))

-- the sums so far, row after row
pub record FoldedSoFar (def sums_def : TableDef) (sums seen : List (List Value)) : Type 0 where
  pub same_def : sums_def ≡ def
  pub rises : Rises def.key sums
  pub fits : AllByRecursion (FitsColumns def.columns) sums
  pub each : (key : List Value) → row_at def.key sums key ≡ cond (is_some (row_at def.key seen key)) (Some (row_of key (sums_at def seen key))) None

pub folded_none : (def : TableDef) → FoldedSoFar def def [] []
folded_none def = record { same_def = refl; rises = tt; fits = tt; each = λ key. refl }

some_last : (columns : List ℕ) (rows : List (List Value)) (row key : List Value) → has_key columns key row ≡ true → is_some (row_at columns (rows ++ row ∷ []) key) ≡ true
some_last columns [] row key h = ap is_some (at_first columns row [] key h)
some_last columns (first ∷ rows) row key h = by_test (has_key columns key first) (some_last columns rows row key h)
  where
    by_test : (b : Bool) → is_some (row_at columns (rows ++ row ∷ []) key) ≡ true → is_some (cond b (Some first) (row_at columns (rows ++ row ∷ []) key)) ≡ true
    by_test true rest = refl
    by_test false rest = rest

last_other : (columns : List ℕ) (rows : List (List Value)) (row key : List Value) → has_key columns key row ≡ false → row_at columns (rows ++ row ∷ []) key ≡ row_at columns rows key
last_other columns rows row key h = not_last columns (λ r. None) [] rows row key h

-- the totals so far of a key
pub totals_so_far : (def sums_def : TableDef) (sums seen : List (List Value)) (key : List Value) → length key ≡ length def.key → FoldedSoFar def sums_def sums seen → totals_at def sums key ≡ sums_at def seen key
totals_so_far def sums_def sums seen key long f = by_row (row_at def.key seen key) refl
  where
    by_row : (o : Option (List Value)) → row_at def.key seen key ≡ o → totals_at def sums key ≡ sums_at def seen key
    by_row (Some row) e =
        ap (totals_or def) (f.each key ∙ ap (λ o. cond (is_some o) (Some (row_of key (sums_at def seen key))) None) e) ∙ totals_of_row def key (sums_at def seen key) long
    by_row None e =
        ap (totals_or def) (f.each key ∙ ap (λ o. cond (is_some o) (Some (row_of key (sums_at def seen key))) None) e) ∙ sym (sums_none def seen key e)

-- each new sum fits
pub sums_fit : (def sums_def : TableDef) (sums seen : List (List Value)) (row : List Value) → FoldedSoFar def sums_def sums seen → length seen < 2 ^ 62 → AllUnder def (2 ^ 63) seen → AllByRecursion (IsUnder (2 ^ 63)) (totals_of def row) → AllByRecursion (IsUnder (2 ^ 126)) (plus (totals_at def sums (key_of def.key row)) (totals_of def row))
sums_fit def sums_def sums seen row f few under here =
    let key = key_of def.key row in
    let old = totals_so_far def sums_def sums seen key (length_key def.key row) f in
    let most = sums_up_to def (2 ^ 63) seen key under in
    let more = all_weaker (IsUnder (2 ^ 63)) (IsUpTo (2 ^ 63)) (λ x u. (omega (arith, ints, u.0), omega (arith, ints, u.1))) (totals_of def row) here in
    let both = up_to_plus (2 ^ 63 * length seen) (2 ^ 63) (sums_at def seen key) (totals_of def row) most more in
    let fits = all_weaker (IsUpTo (2 ^ 63 * length seen + 2 ^ 63)) (IsUnder (2 ^ 126)) (λ x u. (omega (arith, ints, u.0, few), omega (arith, ints, u.1, few))) (plus (sums_at def seen key) (totals_of def row)) both in
    subst (λ t. AllByRecursion (IsUnder (2 ^ 126)) (plus t (totals_of def row))) (sym old) fits

-- one row more
pub folded_more : (def sums_def : TableDef) (sums seen : List (List Value)) (row : List Value) → IsDerived def → FoldedSoFar def sums_def sums seen → FitsColumns def.columns row → AllByRecursion (IsUnder (2 ^ 126)) (plus (totals_at def sums (key_of def.key row)) (totals_of def row)) → FoldedSoFar def sums_def (with_row def.key sums (summed def sums row)) (seen ++ row ∷ [])
folded_more def sums_def sums seen row derived f fits under = record {
  same_def = f.same_def;
  rises = (puts_there def.key sums (summed def sums row) f.rises).rises;
  fits = (puts_there def.key sums (summed def sums row) f.rises).fits def.columns f.fits (there.fits under);
  each = λ key. by_test key (has_key def.key key row) refl;
}
  where
    there : SummedThere def sums row
    there = summed_there def sums row derived f.fits fits

    sets : Sets def.key sums (with_row def.key sums (summed def sums row)) (key_of def.key row) (Some (summed def sums row))
    sets = subst (λ k. Sets def.key sums (with_row def.key sums (summed def sums row)) k (Some (summed def sums row))) there.key (sets_row def.key sums (summed def sums row) f.rises)

    own : row_at def.key (with_row def.key sums (summed def sums row)) (key_of def.key row) ≡ found_sums def (seen ++ row ∷ []) (seen ++ row ∷ []) (key_of def.key row)
    own =
        let key = key_of def.key row in
        let here = has_own def.key row key refl in
        let old = totals_so_far def sums_def sums seen key (length_key def.key row) f in
        let sum : plus (totals_at def sums key) (totals_of def row) ≡ sums_at def (seen ++ row ∷ []) key =
        ap (λ t. plus t (totals_of def row)) old ∙ plus_comm (sums_at def seen key) (totals_of def row)
        ∙ sym (sums_last def seen row key ∙ ap (λ b. one_more def b row (sums_at def seen key)) here) in
        sets.here ∙ ap (λ s. Some (row_of key s)) sum
        ∙ sym (ap (λ b. cond b (Some (row_of key (sums_at def (seen ++ row ∷ []) key))) None) (some_last def.key seen row key here))

    by_test : (key : List Value) (b : Bool) → has_key def.key key row ≡ b → row_at def.key (with_row def.key sums (summed def sums row)) key ≡ found_sums def (seen ++ row ∷ []) (seen ++ row ∷ []) key
    by_test key true h = subst (λ k. row_at def.key (with_row def.key sums (summed def sums row)) k ≡ found_sums def (seen ++ row ∷ []) (seen ++ row ∷ []) k) (key_is def.key row key h) own
    by_test key false h =
        let same = last_other def.key seen row key h in
        let sum : sums_at def seen key ≡ sums_at def (seen ++ row ∷ []) key = sym (sums_last def seen row key ∙ ap (λ b. one_more def b row (sums_at def seen key)) h) in
        sets.others key h ∙ f.each key
        ∙ ap (λ o. cond (is_some o) (Some (row_of key (sums_at def seen key))) None) (sym same)
        ∙ ap (λ s. cond (is_some (row_at def.key (seen ++ row ∷ []) key)) (Some (row_of key s)) None) sum

-- the definition says the same of each key
keys_each : (def : TableDef) (all rows : List (List Value)) → IsDerived def → Rises def.key (keys_with_sums def all rows) × ((key : List Value) → row_at def.key (keys_with_sums def all rows) key ≡ cond (is_some (row_at def.key rows key)) (Some (row_of key (sums_at def all key))) None)
keys_each def all [] derived = (tt, λ key. refl)
keys_each def all (row ∷ rows) derived = more (keys_each def all rows derived)
  where
    more : Rises def.key (keys_with_sums def all rows) × ((key : List Value) → row_at def.key (keys_with_sums def all rows) key ≡ cond (is_some (row_at def.key rows key)) (Some (row_of key (sums_at def all key))) None) → Rises def.key (with_row def.key (keys_with_sums def all rows) (sums_row def all row)) × ((key : List Value) → row_at def.key (with_row def.key (keys_with_sums def all rows) (sums_row def all row)) key ≡ cond (is_some (row_at def.key (row ∷ rows) key)) (Some (row_of key (sums_at def all key))) None)
    more rest = (sets.rises, λ key. by_test key (has_key def.key key row) refl)
      where
        key_new : key_of def.key (sums_row def all row) ≡ key_of def.key row
        key_new = key_of_row def.key (key_of def.key row) (sums_at def all (key_of def.key row)) derived.key_first (length_key def.key row)

        sets : Sets def.key (keys_with_sums def all rows) (with_row def.key (keys_with_sums def all rows) (sums_row def all row)) (key_of def.key row) (Some (sums_row def all row))
        sets = subst (λ k. Sets def.key (keys_with_sums def all rows) (with_row def.key (keys_with_sums def all rows) (sums_row def all row)) k (Some (sums_row def all row))) key_new (sets_row def.key (keys_with_sums def all rows) (sums_row def all row) rest.0)

        by_test : (key : List Value) (b : Bool) → has_key def.key key row ≡ b → row_at def.key (with_row def.key (keys_with_sums def all rows) (sums_row def all row)) key ≡ cond (is_some (row_at def.key (row ∷ rows) key)) (Some (row_of key (sums_at def all key))) None
        by_test key true h =
            subst (λ k. row_at def.key (with_row def.key (keys_with_sums def all rows) (sums_row def all row)) k ≡ Some (row_of k (sums_at def all k))) (key_is def.key row key h) sets.here
            ∙ sym (ap (λ b. cond (is_some (cond b (Some row) (row_at def.key rows key))) (Some (row_of key (sums_at def all key))) None) h)
        by_test key false h =
            sets.others key h ∙ rest.1 key
            ∙ sym (ap (λ b. cond (is_some (cond b (Some row) (row_at def.key rows key))) (Some (row_of key (sums_at def all key))) None) h)

pub folded_each : (def : TableDef) (rows : List (List Value)) (key : List Value) → IsDerived def → row_at def.key (folded def rows) key ≡ cond (is_some (row_at def.key rows key)) (Some (row_of key (sums_at def rows key))) None
folded_each def rows key derived = (keys_each def rows rows derived).1 key

pub folded_rises : (def : TableDef) (rows : List (List Value)) → IsDerived def → Rises def.key (folded def rows)
folded_rises def rows derived = (keys_each def rows rows derived).0

pub folded_all : (def sums_def : TableDef) (sums seen : List (List Value)) → IsDerived def → FoldedSoFar def sums_def sums seen → sums ≡ folded def seen
folded_all def sums_def sums seen derived f =
    same_rows def.key sums (folded def seen) f.rises (folded_rises def seen derived) (λ key. f.each key ∙ sym (folded_each def seen key derived))

-- rows seen through a function, up to a place
pub all_seen : (f : List Value → List Value) (Q : List Value → Type 0) (rows : List (List Value)) (i : ℕ) → AllByRecursion (λ row. Q (f row)) rows → AllByRecursion Q (map f (take i rows))
all_seen f Q rows zero all = tt
all_seen f Q [] (suc i) all = tt
all_seen f Q (row ∷ rows) (suc i) all = (all.0, all_seen f Q rows i all.1)

pub seen_more : (f : List Value → List Value) (rows : List (List Value)) (i : ℕ) (row : List Value) → i < length rows → row ≡ get_or rows i row → map f (take (i + 1) rows) ≡ map f (take i rows) ++ f row ∷ []
seen_more f rows i row lt here =
    let more : take (i + 1) rows ≡ take i rows ++ get_or rows i row ∷ [] = take_more rows i row lt in
    ap (map f) (more ∙ ap (λ r. take i rows ++ r ∷ []) (sym here)) ∙ map-append f (take i rows) (row ∷ [])

pub seen_few : (f : List Value → List Value) (rows : List (List Value)) (i : ℕ) → length (map f (take i rows)) ≤ length rows
seen_few f rows i = omega (arith, length-map (take i rows) f, length-take i rows)

-- what folding one row needs, and what it gives
pub fold_needs : (into sums_def : TableDef) (sums seen : List (List Value)) (row : List Value) → FoldedSoFar into sums_def sums seen → length seen < 2 ^ 62 → AllUnder into (2 ^ 63) seen → AllByRecursion (IsUnder (2 ^ 63)) (totals_of into row) → AllByRecursion (IsUnder (2 ^ 126)) (plus (totals_at sums_def sums (key_of sums_def.key row)) (totals_of sums_def row))
fold_needs into sums_def sums seen row f few under here =
    subst (λ (d : TableDef). AllByRecursion (IsUnder (2 ^ 126)) (plus (totals_at d sums (key_of d.key row)) (totals_of d row))) (sym f.same_def) (sums_fit into sums_def sums seen row f few under here)

pub fold_step : (into sums_def : TableDef) (sums seen : List (List Value)) (row : List Value) (new : Keyed) → IsDerived into → FoldedSoFar into sums_def sums seen → length seen < 2 ^ 62 → AllUnder into (2 ^ 63) seen → FitsColumns into.columns row → AllByRecursion (IsUnder (2 ^ 63)) (totals_of into row) → new ≡ record { def = sums_def; rows = with_row sums_def.key sums (summed sums_def sums row) } → FoldedSoFar into new.def new.rows (seen ++ row ∷ [])
fold_step into sums_def sums seen row new derived f few under fits here is =
    subst (λ (t : Keyed). FoldedSoFar into t.def t.rows (seen ++ row ∷ [])) (sym is)
    (subst (λ (d : TableDef). FoldedSoFar into sums_def (with_row d.key sums (summed d sums row)) (seen ++ row ∷ [])) (sym f.same_def)
    (folded_more into sums_def sums seen row derived f fits (sums_fit into sums_def sums seen row f few under here)))

pub ok_weaker : {A E : Type 0} (r : Result A E) (P Q : A → Type 0) → IfOk r P → ((x : A) → P x → Q x) → IfOk r Q
ok_weaker (Ok x) P Q p f = f x p
ok_weaker (Err e) P Q p f = tt

pub folded_whole : (f : List Value → List Value) (rows : List (List Value)) (i : ℕ) → length rows ≤ i → map f (take i rows) ≡ map f rows
folded_whole f rows i le = ap (map f) (take_all i rows le)
