-- The laws of bags, by recursion on the lists.
use Rattle.std.proofs.Common.{◌≡◌, ◌≢◌, Bool, true, false, cond, List, [], ◌∷◌, ◌++◌, refl, sym, ap, ◌∙◌, subst, arith}
use Rattle.std.specs.Prelude.{Result, Ok, Err, OnOk, OnErr, ℤ, pos, neg_ℤ, ◌+ℤ◌, ◌-ℤ◌}
use Rattle.std.proofs.lemmas.Int.{ints}
use Rattle.std.proofs.lemmas.Cmp.{int_ranked}
use Rattle.std.specs.List.{AllByRecursion}
use Rattle.std.specs.declared.cmp.Ordering.{Ordering}
use Rattle.std.specs.declared.cmp.Ordering.TheVariants.{Less, Equal, Greater}
use Rattle.std.specs.Ordering.{int_eq, int_cmp, is_eq}
use Rattle.strip_value.specs.declared.values.Value.{Value}
use Rattle.strip_value.specs.Order.{row_cmp, row_cmp_total}
use Rattle.strip_value.specs.Bag.{Counted, IsLower, IsBag, counts_here, count_in, counted_row, added_by, added, bag_of, times_in, bag_sum, bag_less}
use Rattle.strip_value.proofs.Orders.{row_cmp_equal}
use Rattle.strip_value.proofs.Lists.{all_right, all_weaker}
use Rattle.strip_value.proofs.KeyedLaws.{flipped, row_cmp_itself}

equal_of : (o : Ordering) → is_eq o ≡ true → o ≡ Equal
equal_of Less e = cc
equal_of Equal e = refl
equal_of Greater e = cc

pub zero_of : (n : ℤ) → int_eq n (pos 0) ≡ true → n ≡ pos 0
zero_of n e = int_ranked n (pos 0) Equal (sym (equal_of (int_cmp n (pos 0)) e))

pub not_zero : (n : ℤ) → int_eq n (pos 0) ≡ false → n ≢ pos 0
not_zero n e zero = let computed : int_eq n (pos 0) ≡ true = ap (λ m. int_eq m (pos 0)) zero in cc

pub not_zero_test : (n : ℤ) → n ≢ pos 0 → int_eq n (pos 0) ≡ false
not_zero_test n ne = by_test (int_eq n (pos 0)) refl
  where
    by_test : (b : Bool) → int_eq n (pos 0) ≡ b → int_eq n (pos 0) ≡ false
    by_test true e = absurd (ne (zero_of n e))
    by_test false e = e

pub here_plus : (o : Ordering) (m n : ℤ) → counts_here o (m +ℤ n) ≡ counts_here o m +ℤ counts_here o n
here_plus Less m n = refl
here_plus Equal m n = refl
here_plus Greater m n = refl

here_neg : (o : Ordering) (n : ℤ) → counts_here o (neg_ℤ n) ≡ neg_ℤ (counts_here o n)
here_neg Less n = refl
here_neg Equal n = refl
here_neg Greater n = refl

here_zero : (o : Ordering) → counts_here o (pos 0) ≡ pos 0
here_zero Less = refl
here_zero Equal = refl
here_zero Greater = refl

-- what a row with its count counts
count_row : (row q : List Value) (n : ℤ) (cs : List Counted) → count_in (counted_row row n ++ cs) q ≡ counts_here (row_cmp q row) n +ℤ count_in cs q
count_row row q n cs = by_test (int_eq n (pos 0)) refl
  where
    by_test : (b : Bool) → int_eq n (pos 0) ≡ b → count_in (cond b [] (record { row = row; count = n } ∷ []) ++ cs) q ≡ counts_here (row_cmp q row) n +ℤ count_in cs q
    by_test true e =
        let none : counts_here (row_cmp q row) n ≡ pos 0 = ap (counts_here (row_cmp q row)) (zero_of n e) ∙ here_zero (row_cmp q row) in
        omega (arith, ints)
    by_test false e = refl

count_only : (row q : List Value) (n : ℤ) → count_in (counted_row row n) q ≡ counts_here (row_cmp q row) n
count_only row q n = by_test (int_eq n (pos 0)) refl
  where
    by_test : (b : Bool) → int_eq n (pos 0) ≡ b → count_in (cond b [] (record { row = row; count = n } ∷ [])) q ≡ counts_here (row_cmp q row) n
    by_test true e = sym (ap (counts_here (row_cmp q row)) (zero_of n e) ∙ here_zero (row_cmp q row))
    by_test false e = omega (arith, ints)

-- adding raises the row's count
pub count_added : (cs : List Counted) (row q : List Value) (n : ℤ) → count_in (added cs row n) q ≡ count_in cs q +ℤ counts_here (row_cmp q row) n
count_added [] row q n = let only = count_only row q n in omega (arith, ints)
count_added (c ∷ cs) row q n = by_order (row_cmp row c.row) refl (count_added cs row q n)
  where
    by_order : (o : Ordering) → row_cmp row c.row ≡ o → count_in (added cs row n) q ≡ count_in cs q +ℤ counts_here (row_cmp q row) n → count_in (added_by o row n c cs (added cs row n)) q ≡ (counts_here (row_cmp q c.row) c.count +ℤ count_in cs q) +ℤ counts_here (row_cmp q row) n
    by_order Less e rest = let first = count_row row q n (c ∷ cs) in omega (arith, ints)
    by_order Equal e rest =
        let first = count_row row q (c.count +ℤ n) cs in
        let both = here_plus (row_cmp q row) c.count n in
        let same = ap (λ r. counts_here (row_cmp q r) c.count) (row_cmp_equal row c.row e) in
        omega (arith, ints)
    by_order Greater e rest = omega (arith, ints)

pub count_same : (cs : List Counted) (row : List Value) (n : ℤ) → count_in (added cs row n) row ≡ count_in cs row +ℤ n
count_same cs row n = count_added cs row row n ∙ ap (λ o. count_in cs row +ℤ counts_here o n) (row_cmp_itself row)

pub count_other : (cs : List Counted) (row q : List Value) (n : ℤ) → q ≢ row → count_in (added cs row n) q ≡ count_in cs q
count_other cs row q n ne = let raised = count_added cs row q n in let none = by_order (row_cmp q row) refl in omega (arith, ints)
  where
    by_order : (o : Ordering) → row_cmp q row ≡ o → counts_here (row_cmp q row) n ≡ pos 0
    by_order Less e = ap (λ p. counts_here p n) e
    by_order Equal e = absurd (ne (row_cmp_equal q row e))
    by_order Greater e = ap (λ p. counts_here p n) e

-- what holds of each row and of the one that is added holds of each row after
row_all : (P : List Value → Type 0) (row : List Value) (n : ℤ) (cs : List Counted) → P row → AllByRecursion (λ (d : Counted). P d.row) cs → AllByRecursion (λ (d : Counted). P d.row) (counted_row row n ++ cs)
row_all P row n cs here all = by_test (int_eq n (pos 0))
  where
    by_test : (b : Bool) → AllByRecursion (λ (d : Counted). P d.row) (cond b [] (record { row = row; count = n } ∷ []) ++ cs)
    by_test true = all
    by_test false = (here, all)

only_all : (P : List Value → Type 0) (row : List Value) (n : ℤ) → P row → AllByRecursion (λ (d : Counted). P d.row) (counted_row row n)
only_all P row n here = by_test (int_eq n (pos 0))
  where
    by_test : (b : Bool) → AllByRecursion (λ (d : Counted). P d.row) (cond b [] (record { row = row; count = n } ∷ []))
    by_test true = tt
    by_test false = (here, tt)

added_all : (P : List Value → Type 0) (cs : List Counted) (row : List Value) (n : ℤ) → AllByRecursion (λ (d : Counted). P d.row) cs → P row → AllByRecursion (λ (d : Counted). P d.row) (added cs row n)
added_all P [] row n all here = only_all P row n here
added_all P (c ∷ cs) row n all here = by_order (row_cmp row c.row) (added_all P cs row n all.1 here)
  where
    by_order : (o : Ordering) → AllByRecursion (λ (d : Counted). P d.row) (added cs row n) → AllByRecursion (λ (d : Counted). P d.row) (added_by o row n c cs (added cs row n))
    by_order Less rest = row_all P row n (c ∷ cs) here all
    by_order Equal rest = row_all P row (c.count +ℤ n) cs here all.1
    by_order Greater rest = (all.0, rest)

-- a row below a bag's rows makes a bag with them
row_bag : (row : List Value) (n : ℤ) (cs : List Counted) → AllByRecursion (λ d. row_cmp row d.row ≡ Less) cs → IsBag cs → IsBag (counted_row row n ++ cs)
row_bag row n cs low bag = by_test (int_eq n (pos 0)) refl
  where
    by_test : (b : Bool) → int_eq n (pos 0) ≡ b → IsBag (cond b [] (record { row = row; count = n } ∷ []) ++ cs)
    by_test true e = bag
    by_test false e = (not_zero n e, low, bag)

only_bag : (row : List Value) (n : ℤ) → IsBag (counted_row row n)
only_bag row n = by_test (int_eq n (pos 0)) refl
  where
    by_test : (b : Bool) → int_eq n (pos 0) ≡ b → IsBag (cond b [] (record { row = row; count = n } ∷ []))
    by_test true e = tt
    by_test false e = (not_zero n e, tt, tt)

pub bag_added : (cs : List Counted) (row : List Value) (n : ℤ) → IsBag cs → IsBag (added cs row n)
bag_added [] row n bag = only_bag row n
bag_added (c ∷ cs) row n bag = by_order (row_cmp row c.row) refl (bag_added cs row n bag.2)
  where
    by_order : (o : Ordering) → row_cmp row c.row ≡ o → IsBag (added cs row n) → IsBag (added_by o row n c cs (added cs row n))
    by_order Less e rest =
        row_bag row n (c ∷ cs) (e, all_weaker (IsLower c) (λ d. row_cmp row d.row ≡ Less) (λ d low. row_cmp_total.trans row c.row d.row e low) cs bag.1) bag
    by_order Equal e rest =
        row_bag row (c.count +ℤ n) cs (subst (λ r. AllByRecursion (λ d. row_cmp r d.row ≡ Less) cs) (sym (row_cmp_equal row c.row e)) bag.1) bag.2
    by_order Greater e rest =
        (bag.0, added_all (λ r. row_cmp c.row r ≡ Less) cs row n bag.1 (flipped row c.row Greater e), rest)

-- the bag of a list of rows
pub count_rows : (rows : List (List Value)) (q : List Value) → count_in (bag_of rows) q ≡ times_in rows q
count_rows [] q = refl
count_rows (row ∷ rows) q =
    let raised = count_added (bag_of rows) row q (pos 1) in
    let rest = count_rows rows q in
    omega (arith, ints)

pub bag_rows : (rows : List (List Value)) → IsBag (bag_of rows)
bag_rows [] = tt
bag_rows (row ∷ rows) = bag_added (bag_of rows) row (pos 1) (bag_rows rows)

-- sums and differences of bags
pub count_sum : (one two : List Counted) (q : List Value) → count_in (bag_sum one two) q ≡ count_in one q +ℤ count_in two q
count_sum one [] q = omega (arith, ints)
count_sum one (c ∷ cs) q =
    let raised = count_added (bag_sum one cs) c.row q c.count in
    let rest = count_sum one cs q in
    omega (arith, ints)

pub bag_of_sum : (one two : List Counted) → IsBag one → IsBag (bag_sum one two)
bag_of_sum one [] bag = bag
bag_of_sum one (c ∷ cs) bag = bag_added (bag_sum one cs) c.row c.count (bag_of_sum one cs bag)

pub count_less : (one two : List Counted) (q : List Value) → count_in (bag_less one two) q ≡ count_in one q -ℤ count_in two q
count_less one [] q = omega (arith, ints)
count_less one (c ∷ cs) q =
    let raised = count_added (bag_less one cs) c.row q (neg_ℤ c.count) in
    let turned = here_neg (row_cmp q c.row) c.count in
    let rest = count_less one cs q in
    omega (arith, ints)

pub bag_of_less : (one two : List Counted) → IsBag one → IsBag (bag_less one two)
bag_of_less one [] bag = bag
bag_of_less one (c ∷ cs) bag = bag_added (bag_less one cs) c.row (neg_ℤ c.count) (bag_of_less one cs bag)

pub count_append : (one two : List (List Value)) (q : List Value) → count_in (bag_of (one ++ two)) q ≡ count_in (bag_of one) q +ℤ count_in (bag_of two) q
count_append [] two q = omega (arith, ints)
count_append (row ∷ one) two q =
    let both = count_added (bag_of (one ++ two)) row q (pos 1) in
    let first = count_added (bag_of one) row q (pos 1) in
    let rest = count_append one two q in
    omega (arith, ints)

-- a row that is below all rows of a bag counts 0 there
pub count_above : (cs : List Counted) (row : List Value) → AllByRecursion (λ d. row_cmp row d.row ≡ Less) cs → count_in cs row ≡ pos 0
count_above [] row low = refl
count_above (c ∷ cs) row low =
    let first : counts_here (row_cmp row c.row) c.count ≡ pos 0 = ap (λ o. counts_here o c.count) low.0 in
    let rest = count_above cs row low.1 in
    omega (arith, ints)

-- what the first row of a bag counts
count_first : (c : Counted) (cs : List Counted) → IsBag (c ∷ cs) → count_in (c ∷ cs) c.row ≡ c.count
count_first c cs bag =
    let first : counts_here (row_cmp c.row c.row) c.count ≡ c.count = ap (λ o. counts_here o c.count) (row_cmp_itself c.row) in
    let rest = count_above cs c.row bag.1 in
    omega (arith, ints)

low_all : (row : List Value) (c : Counted) (cs : List Counted) → row_cmp row c.row ≡ Less → IsBag (c ∷ cs) → AllByRecursion (λ d. row_cmp row d.row ≡ Less) (c ∷ cs)
low_all row c cs e bag = (e, all_weaker (IsLower c) (λ d. row_cmp row d.row ≡ Less) (λ d low. row_cmp_total.trans row c.row d.row e low) cs bag.1)

counted_same : (c d : Counted) → c.row ≡ d.row → c.count ≡ d.count → c ≡ d
counted_same c d rows counts = ap (λ (r : List Value). record { row = r; count = c.count }) rows ∙ ap (λ (n : ℤ). record { row = d.row; count = n }) counts

-- bags with the same counts are one
pub same_counts : (one two : List Counted) → IsBag one → IsBag two → ((q : List Value) → count_in one q ≡ count_in two q) → one ≡ two
same_counts [] [] one two same = refl
same_counts [] (d ∷ ds) one two same = absurd (two.0 (sym (count_first d ds two) ∙ sym (same d.row)))
same_counts (c ∷ cs) [] one two same = absurd (one.0 (sym (count_first c cs one) ∙ same c.row))
same_counts (c ∷ cs) (d ∷ ds) one two same = by_order (row_cmp c.row d.row) refl (same_counts cs ds one.2 two.2)
  where
    by_order : (o : Ordering) → row_cmp c.row d.row ≡ o → (((q : List Value) → count_in cs q ≡ count_in ds q) → cs ≡ ds) → c ∷ cs ≡ d ∷ ds
    by_order Less e rest = absurd (one.0 (sym (count_first c cs one) ∙ same c.row ∙ count_above (d ∷ ds) c.row (low_all c.row d ds e two)))
    by_order Greater e rest = absurd (two.0 (sym (count_first d ds two) ∙ sym (same d.row) ∙ count_above (c ∷ cs) d.row (low_all d.row c cs (flipped c.row d.row Greater e) one)))
    by_order Equal e rest =
        let rows = row_cmp_equal c.row d.row e in
        let counts : c.count ≡ d.count = sym (count_first c cs one) ∙ same c.row ∙ ap (count_in (d ∷ ds)) rows ∙ count_first d ds two in
        let heads = counted_same c d rows counts in
        let tails = rest (λ q.
        let here = ap (λ (e : Counted). counts_here (row_cmp q e.row) e.count) heads in
        let all = same q in
        omega (arith, ints)) in
        cc

pub sum_append : (one two : List (List Value)) → bag_of (one ++ two) ≡ bag_sum (bag_of one) (bag_of two)
sum_append one two =
    same_counts (bag_of (one ++ two)) (bag_sum (bag_of one) (bag_of two)) (bag_rows (one ++ two)) (bag_of_sum (bag_of one) (bag_of two) (bag_rows one)) (λ q. count_append one two q ∙ sym (count_sum (bag_of one) (bag_of two) q))

-- adding to bags that are split at the row
pub below_row : (front : List Counted) (c : Counted) (back : List Counted) → IsBag (front ++ c ∷ back) → AllByRecursion (λ d. row_cmp d.row c.row ≡ Less) front
below_row [] c back bag = tt
below_row (f ∷ front) c back bag = ((all_right (IsLower f) front (c ∷ back) bag.1).0, below_row front c back bag.2)

pub above_row : (front : List Counted) (c : Counted) (back : List Counted) → IsBag (front ++ c ∷ back) → AllByRecursion (λ d. row_cmp c.row d.row ≡ Less) back
above_row [] c back bag = bag.1
above_row (f ∷ front) c back bag = above_row front c back bag.2

pub added_at : (front : List Counted) (c : Counted) (back : List Counted) (n : ℤ) → AllByRecursion (λ d. row_cmp d.row c.row ≡ Less) front → added (front ++ c ∷ back) c.row n ≡ front ++ (counted_row c.row (c.count +ℤ n) ++ back)
added_at [] c back n below = ap (λ o. added_by o c.row n c back (added back c.row n)) (row_cmp_itself c.row)
added_at (f ∷ front) c back n below =
    ap (λ o. added_by o c.row n f (front ++ c ∷ back) (added (front ++ c ∷ back) c.row n)) (flipped f.row c.row Less below.0) ∙ ap (λ cs. f ∷ cs) (added_at front c back n below.1)

no_more : (cs : List Counted) → cs ≡ cs ++ []
no_more [] = refl
no_more (c ∷ cs) = ap (λ ds. c ∷ ds) (no_more cs)

pub added_between : (front back : List Counted) (row : List Value) (n : ℤ) → AllByRecursion (λ d. row_cmp d.row row ≡ Less) front → AllByRecursion (λ d. row_cmp row d.row ≡ Less) back → added (front ++ back) row n ≡ front ++ (counted_row row n ++ back)
added_between [] [] row n below above = no_more (counted_row row n)
added_between [] (b ∷ back) row n below above = ap (λ o. added_by o row n b back (added back row n)) above.0
added_between (f ∷ front) back row n below above =
    ap (λ o. added_by o row n f (front ++ back) (added (front ++ back) row n)) (flipped f.row row Less below.0) ∙ ap (λ cs. f ∷ cs) (added_between front back row n below.1 above)

pub count_behind : (front back : List Counted) (row : List Value) → AllByRecursion (λ d. row_cmp d.row row ≡ Less) front → count_in (front ++ back) row ≡ count_in back row
count_behind [] back row below = refl
count_behind (f ∷ front) back row below =
    let first : counts_here (row_cmp row f.row) f.count ≡ pos 0 = ap (λ o. counts_here o f.count) (flipped f.row row Less below.0) in
    let rest = count_behind front back row below.1 in
    omega (arith, ints)

pub count_at : (front : List Counted) (c : Counted) (back : List Counted) → IsBag (front ++ c ∷ back) → count_in (front ++ c ∷ back) c.row ≡ c.count
count_at front c back bag =
    let behind = count_behind front (c ∷ back) c.row (below_row front c back bag) in
    let first : counts_here (row_cmp c.row c.row) c.count ≡ c.count = ap (λ o. counts_here o c.count) (row_cmp_itself c.row) in
    let rest = count_above back c.row (above_row front c back bag) in
    omega (arith, ints)

-- a bag stays one whether memory sufficed or not
pub bag_after : {A E : Type 0} (old new : List Counted) (row : List Value) (n : ℤ) (r : Result A E) → IsBag old → OnOk r (new ≡ added old row n) → OnErr r (new ≡ old) → IsBag new
bag_after old new row n (Ok x) bag ok err = subst IsBag (sym ok) (bag_added old row n bag)
bag_after old new row n (Err x) bag ok err = subst IsBag (sym err) bag
