-- What is selected from bags and the totals of their groups, as weights of their rows.
use Rattle.std.proofs.Common.{◌≡◌, ℕ, Bool, true, false, ◌&&◌, cond, List, [], ◌∷◌, ◌++◌, map, filter, length, None, Some, refl, sym, ap, ap₂, ◌∙◌, arith}
use Rattle.std.specs.Prelude.{ℤ, pos, neg_ℤ, ◌+ℤ◌, ◌-ℤ◌, ◌*ℤ◌}
use Rattle.std.proofs.Math.IntN.{ℤ_ind, +ℤ_idr, +ℤ_one, suc_ℤ-*ℤ, zero-*ℤ}
use Rattle.std.proofs.lemmas.Int.{ints}
use Rattle.std.proofs.lemmas.List.Concat.{flat_map_single}
use Rattle.std.specs.declared.cmp.Ordering.{Ordering}
use Rattle.std.specs.declared.cmp.Ordering.TheVariants.{Less, Equal, Greater}
use Rattle.std.specs.Ordering.{int_eq, is_eq}
use Rattle.strip_value.specs.declared.expressions.Calc.{Calc}
use Rattle.strip_value.specs.declared.expressions.Calc as calc
use Rattle.strip_value.specs.declared.expressions.Test.{Test}
use Rattle.strip_value.specs.declared.queries.Input.{Input}
use Rattle.strip_value.specs.declared.queries.Item.{Item}
use Rattle.strip_value.specs.declared.queries.Place.{Place}
use Rattle.strip_value.specs.declared.queries.Query.{Query}
use Rattle.strip_value.specs.declared.queries.What.{What}
use Rattle.strip_value.specs.declared.queries.What.TheVariants as what
use Rattle.strip_value.specs.declared.values.Value.{Value}
use Rattle.strip_value.specs.declared.values.Value.TheVariants.{Int}
use Rattle.strip_value.specs.Bag.{Counted, IsBag, counts_here, count_in, counted_row, added_by, added, bag_of, times_in, bag_sum, bag_less}
use Rattle.strip_value.specs.Order.{row_cmp}
use Rattle.strip_value.specs.Table.{put_between}
use Rattle.strip_value.specs.Query.{Environment, chosen, combinations, distinct, entry_rows, group_key, group_of, group_row, group_value, in_order, mean, number_of, plain_row, put_in_order, rows_of, satisfies, sum_of, value_at}
use Rattle.strip_value.proofs.Orders.{row_cmp_equal}
use Rattle.strip_bag.specs.Linear.{selected, is_in_group, total, total_count, total_value, rows_in_group, sum_in_group}
use Rattle.strip_bag.proofs.BagLaws.{zero_of, here_plus, count_added, bag_added, count_rows, bag_rows, bag_of_sum, count_sum, bag_of_less, count_less, same_counts}

-- ---- weights

-- what the rows of a bag weigh, where a row weighs as much as `w` gives for it and its count
abbrev pub weigh : (List Value → ℤ → ℤ) → List Counted → ℤ
weigh w [] = pos 0
weigh w (c ∷ cs) = w c.row c.count +ℤ weigh w cs

-- the weights of two counts of a row add up
abbrev pub AddsUp : (List Value → ℤ → ℤ) → Type 0
AddsUp w = (row : List Value) (m n : ℤ) → w row (m +ℤ n) ≡ w row m +ℤ w row n

module _ (w : List Value → ℤ → ℤ) (adds : AddsUp w) where
  -- a row that counts 0 weighs nothing
  weight_zero : (row : List Value) → w row (pos 0) ≡ pos 0
  weight_zero row = let twice : w row (pos 0) ≡ w row (pos 0) +ℤ w row (pos 0) = adds row (pos 0) (pos 0) in omega (arith, ints)

  weight_neg : (row : List Value) (n : ℤ) → w row (neg_ℤ n) ≡ neg_ℤ (w row n)
  weight_neg row n =
      let none : n +ℤ neg_ℤ n ≡ pos 0 = omega (arith, ints) in
      let both : w row (pos 0) ≡ w row n +ℤ w row (neg_ℤ n) = ap (w row) (sym none) ∙ adds row n (neg_ℤ n) in
      let zero_weighs = weight_zero row in
      omega (arith, ints)

  -- what a row with its count weighs before others, and alone
  weigh_row : (row : List Value) (n : ℤ) (cs : List Counted) → weigh w (counted_row row n ++ cs) ≡ w row n +ℤ weigh w cs
  weigh_row row n cs = by_test (int_eq n (pos 0)) refl
    where
      by_test : (b : Bool) → int_eq n (pos 0) ≡ b → weigh w (cond b [] (record { row = row; count = n } ∷ []) ++ cs) ≡ w row n +ℤ weigh w cs
      by_test true e = let none : w row n ≡ pos 0 = ap (w row) (zero_of n e) ∙ weight_zero row in omega (arith, ints)
      by_test false e = refl

  weigh_only : (row : List Value) (n : ℤ) → weigh w (counted_row row n) ≡ w row n
  weigh_only row n = by_test (int_eq n (pos 0)) refl
    where
      by_test : (b : Bool) → int_eq n (pos 0) ≡ b → weigh w (cond b [] (record { row = row; count = n } ∷ [])) ≡ w row n
      by_test true e = sym (ap (w row) (zero_of n e) ∙ weight_zero row)
      by_test false e = omega (arith, ints)

  -- adding a row adds its weight
  pub weigh_added : (cs : List Counted) (row : List Value) (n : ℤ) → weigh w (added cs row n) ≡ weigh w cs +ℤ w row n
  weigh_added [] row n = let only = weigh_only row n in omega (arith, ints)
  weigh_added (c ∷ cs) row n = by_order (row_cmp row c.row) refl (weigh_added cs row n)
    where
      by_order : (o : Ordering) → row_cmp row c.row ≡ o → weigh w (added cs row n) ≡ weigh w cs +ℤ w row n → weigh w (added_by o row n c cs (added cs row n)) ≡ (w c.row c.count +ℤ weigh w cs) +ℤ w row n
      by_order Less e rest = let first = weigh_row row n (c ∷ cs) in omega (arith, ints)
      by_order Equal e rest =
          let first = weigh_row row (c.count +ℤ n) cs in
          let both = adds row c.count n in
          let same = ap (λ r. w r c.count) (row_cmp_equal row c.row e) in
          omega (arith, ints)
      by_order Greater e rest = omega (arith, ints)

  -- weighing is linear
  pub weigh_sum : (one two : List Counted) → weigh w (bag_sum one two) ≡ weigh w one +ℤ weigh w two
  weigh_sum one [] = omega (arith, ints)
  weigh_sum one (c ∷ cs) =
      let raised = weigh_added (bag_sum one cs) c.row c.count in
      let rest = weigh_sum one cs in
      omega (arith, ints)

  pub weigh_less : (one two : List Counted) → weigh w (bag_less one two) ≡ weigh w one -ℤ weigh w two
  weigh_less one [] = omega (arith, ints)
  weigh_less one (c ∷ cs) =
      let raised = weigh_added (bag_less one cs) c.row (neg_ℤ c.count) in
      let turned = weight_neg c.row c.count in
      let rest = weigh_less one cs in
      omega (arith, ints)

-- ---- selecting

-- how often a row with its count gives the row q of the items
abbrev pub gives : Test → List Item → List Value → List Value → ℤ → ℤ
gives t items q row n = cond (satisfies t (row ∷ [])) (counts_here (row_cmp q (plain_row items (row ∷ []))) n) (pos 0)

gives_adds_up : (t : Test) (items : List Item) (q : List Value) → AddsUp (gives t items q)
gives_adds_up t items q row m n = by_test (satisfies t (row ∷ []))
  where
    here : Ordering
    here = row_cmp q (plain_row items (row ∷ []))

    by_test : (b : Bool) → cond b (counts_here here (m +ℤ n)) (pos 0) ≡ cond b (counts_here here m) (pos 0) +ℤ cond b (counts_here here n) (pos 0)
    by_test true = here_plus here m n
    by_test false = refl

-- either of two bags is a bag
either_bag : (b : Bool) (one two : List Counted) → IsBag one → IsBag two → IsBag (cond b one two)
either_bag true one two p q = p
either_bag false one two p q = q

-- what is selected is a bag
pub selected_bag : (t : Test) (items : List Item) (cs : List Counted) → IsBag (selected t items cs)
selected_bag t items [] = tt
selected_bag t items (c ∷ cs) =
    let rest = selected_bag t items cs in
    either_bag (satisfies t (c.row ∷ [])) _ (selected t items cs) (bag_added (selected t items cs) _ _ rest) rest

-- the count of a row that is selected is a weight
pub selected_weighs : (t : Test) (items : List Item) (q : List Value) (cs : List Counted) → count_in (selected t items cs) q ≡ weigh (gives t items q) cs
selected_weighs t items q [] = refl
selected_weighs t items q (c ∷ cs) = by_test (satisfies t (c.row ∷ [])) (selected_weighs t items q cs)
  where
    row : List Value
    row = plain_row items (c.row ∷ [])

    by_test : (b : Bool) → count_in (selected t items cs) q ≡ weigh (gives t items q) cs → count_in (cond b (added (selected t items cs) row c.count) (selected t items cs)) q ≡ cond b (counts_here (row_cmp q row) c.count) (pos 0) +ℤ weigh (gives t items q) cs
    by_test true rest = let raised = count_added (selected t items cs) row q c.count in omega (arith, ints)
    by_test false rest = omega (arith, ints)

pub selected_sum : (t : Test) (items : List Item) (one two : List Counted) → selected t items (bag_sum one two) ≡ bag_sum (selected t items one) (selected t items two)
selected_sum t items one two = same_counts (selected t items (bag_sum one two)) (bag_sum (selected t items one) (selected t items two)) (selected_bag t items (bag_sum one two)) (bag_of_sum (selected t items one) (selected t items two) (selected_bag t items one)) (λ q.
    let all = selected_weighs t items q (bag_sum one two) in
    let split = weigh_sum (gives t items q) (gives_adds_up t items q) one two in
    let first = selected_weighs t items q one in
    let second = selected_weighs t items q two in
    let both = count_sum (selected t items one) (selected t items two) q in
    omega (arith, ints))

pub selected_less : (t : Test) (items : List Item) (one two : List Counted) → selected t items (bag_less one two) ≡ bag_less (selected t items one) (selected t items two)
selected_less t items one two = same_counts (selected t items (bag_less one two)) (bag_less (selected t items one) (selected t items two)) (selected_bag t items (bag_less one two)) (bag_of_less (selected t items one) (selected t items two) (selected_bag t items one)) (λ q.
    let all = selected_weighs t items q (bag_less one two) in
    let split = weigh_less (gives t items q) (gives_adds_up t items q) one two in
    let first = selected_weighs t items q one in
    let second = selected_weighs t items q two in
    let both = count_less (selected t items one) (selected t items two) q in
    omega (arith, ints))

-- ---- answers without groups

-- a row put in its place counts once more
times_put : (q row : List Value) (rows : List (List Value)) → times_in (put_in_order row rows) q ≡ counts_here (row_cmp q row) (pos 1) +ℤ times_in rows q
times_put q row [] = refl
times_put q row (first ∷ rows) = by_order (row_cmp row first) (times_put q row rows)
  where
    by_order : (o : Ordering) → times_in (put_in_order row rows) q ≡ counts_here (row_cmp q row) (pos 1) +ℤ times_in rows q → times_in (put_between o row first rows (put_in_order row rows)) q ≡ counts_here (row_cmp q row) (pos 1) +ℤ (counts_here (row_cmp q first) (pos 1) +ℤ times_in rows q)
    by_order Less rest = refl
    by_order Equal rest = refl
    by_order Greater rest = omega (arith, ints)

-- rows count as often in row order
times_in_order : (q : List Value) (rows : List (List Value)) → times_in (in_order rows) q ≡ times_in rows q
times_in_order q [] = refl
times_in_order q (row ∷ rows) =
    let put = times_put q row (in_order rows) in
    let rest = times_in_order q rows in
    omega (arith, ints)

pub order_keeps : (rows : List (List Value)) → bag_of (in_order rows) ≡ bag_of rows
order_keeps rows = same_counts (bag_of (in_order rows)) (bag_of rows) (bag_rows (in_order rows)) (bag_rows rows) (λ q. count_rows (in_order rows) q ∙ times_in_order q rows ∙ sym (count_rows rows q))

-- the combinations of one entry are its rows
abbrev pub alone : List (List Value) → List (List (List Value))
alone rows = map (λ row. row ∷ []) rows

one_entry : (rows : List (List Value)) → combinations (rows ∷ []) ≡ alone rows
one_entry rows = flat_map_single (λ row. row ∷ []) rows

pub one_chosen : (query : Query) (env : Environment) (entry : Input) → query.entries ≡ entry ∷ [] → chosen query env ≡ filter (satisfies query.filter) (alone (entry_rows env entry))
one_chosen query env entry e = ap (λ entries. filter (satisfies query.filter) (combinations (map (entry_rows env) entries))) e ∙ ap (filter (satisfies query.filter)) (one_entry (entry_rows env entry))

-- each row that satisfies the filter gives one row of the items
times_selected : (t : Test) (items : List Item) (q : List Value) (rows : List (List Value)) → times_in (map (plain_row items) (filter (satisfies t) (alone rows))) q ≡ weigh (gives t items q) (bag_of rows)
times_selected t items q [] = refl
times_selected t items q (row ∷ rows) = by_test (satisfies t (row ∷ [])) (times_selected t items q rows) ∙ sym (weigh_added (gives t items q) (gives_adds_up t items q) (bag_of rows) row (pos 1))
  where
    others : List (List (List Value))
    others = filter (satisfies t) (alone rows)

    by_test : (b : Bool) → times_in (map (plain_row items) others) q ≡ weigh (gives t items q) (bag_of rows) → times_in (map (plain_row items) (cond b ((row ∷ []) ∷ others) others)) q ≡ weigh (gives t items q) (bag_of rows) +ℤ cond b (counts_here (row_cmp q (plain_row items (row ∷ []))) (pos 1)) (pos 0)
    by_test true rest = omega (arith, ints)
    by_test false rest = omega (arith, ints)

-- the rows that a query over one entry, without groups, gives before they are put in order
plain_rows : (query : Query) (env : Environment) (entry : Input) → query.entries ≡ entry ∷ [] → query.group ≡ None → rows_of query.items query.group (chosen query env) ≡ map (plain_row query.items) (filter (satisfies query.filter) (alone (entry_rows env entry)))
plain_rows query env entry e none = ap (λ group. rows_of query.items group (chosen query env)) none ∙ ap (map (plain_row query.items)) (one_chosen query env entry e)

pub answers_selected : (query : Query) (env : Environment) (entry : Input) → query.entries ≡ entry ∷ [] → query.group ≡ None → bag_of (mean query env) ≡ selected query.filter query.items (bag_of (entry_rows env entry))
unfolding mean
answers_selected query env entry e none = same_counts (bag_of (mean query env)) (selected query.filter query.items (bag_of rows)) (bag_rows (mean query env)) (selected_bag query.filter query.items (bag_of rows)) (λ q.
    count_rows (mean query env) q ∙ times_in_order q (rows_of query.items query.group (chosen query env)) ∙ ap (λ given. times_in given q) (plain_rows query env entry e none)
    ∙ times_selected query.filter query.items q rows ∙ sym (selected_weighs query.filter query.items q (bag_of rows)))
  where
    rows : List (List Value)
    rows = entry_rows env entry

-- ---- grouping

-- one more time, and one time less
times_more : (m k : ℤ) → (m +ℤ pos 1) *ℤ k ≡ m *ℤ k +ℤ k
times_more m k = ap (λ n. n *ℤ k) (+ℤ_one m) ∙ suc_ℤ-*ℤ m k

times_less : (m k : ℤ) → (m +ℤ neg_ℤ (pos 1)) *ℤ k ≡ m *ℤ k -ℤ k
times_less m k =
    let back : (m +ℤ neg_ℤ (pos 1)) +ℤ pos 1 ≡ m = omega (arith, ints) in
    let more : m *ℤ k ≡ (m +ℤ neg_ℤ (pos 1)) *ℤ k +ℤ k = ap (λ n. n *ℤ k) (sym back) ∙ times_more (m +ℤ neg_ℤ (pos 1)) k in
    omega (arith, ints)

-- the product of a sum
times_sum : (m n k : ℤ) → (m +ℤ n) *ℤ k ≡ m *ℤ k +ℤ n *ℤ k
times_sum m n k = ℤ_ind (λ n. (m +ℤ n) *ℤ k ≡ m *ℤ k +ℤ n *ℤ k) none up down n
  where
    none : (m +ℤ pos 0) *ℤ k ≡ m *ℤ k +ℤ pos 0 *ℤ k
    none =
        let same : (m +ℤ pos 0) *ℤ k ≡ m *ℤ k = ap (λ n. n *ℤ k) (+ℤ_idr m) in
        let nothing = zero-*ℤ k in
        omega (arith, ints)

    up : (n : ℕ) → (m +ℤ pos n) *ℤ k ≡ m *ℤ k +ℤ pos n *ℤ k → (m +ℤ (pos n +ℤ pos 1)) *ℤ k ≡ m *ℤ k +ℤ (pos n +ℤ pos 1) *ℤ k
    up n rest =
        let grouped : m +ℤ (pos n +ℤ pos 1) ≡ (m +ℤ pos n) +ℤ pos 1 = omega (arith, ints) in
        let left : (m +ℤ (pos n +ℤ pos 1)) *ℤ k ≡ (m +ℤ pos n) *ℤ k +ℤ k = ap (λ i. i *ℤ k) grouped ∙ times_more (m +ℤ pos n) k in
        let right = times_more (pos n) k in
        omega (arith, ints)

    down : (n : ℕ) → (m +ℤ neg_ℤ (pos n)) *ℤ k ≡ m *ℤ k +ℤ neg_ℤ (pos n) *ℤ k → (m +ℤ (neg_ℤ (pos n) +ℤ neg_ℤ (pos 1))) *ℤ k ≡ m *ℤ k +ℤ (neg_ℤ (pos n) +ℤ neg_ℤ (pos 1)) *ℤ k
    down n rest =
        let grouped : m +ℤ (neg_ℤ (pos n) +ℤ neg_ℤ (pos 1)) ≡ (m +ℤ neg_ℤ (pos n)) +ℤ neg_ℤ (pos 1) = omega (arith, ints) in
        let left : (m +ℤ (neg_ℤ (pos n) +ℤ neg_ℤ (pos 1))) *ℤ k ≡ (m +ℤ neg_ℤ (pos n)) *ℤ k -ℤ k = ap (λ i. i *ℤ k) grouped ∙ times_less (m +ℤ neg_ℤ (pos n)) k in
        let right = times_less (neg_ℤ (pos n)) k in
        omega (arith, ints)

-- a number of each row, as often as the row counts
abbrev times : (List Value → ℤ) → List Value → ℤ → ℤ
times of row n = n *ℤ of row

times_adds_up : (of : List Value → ℤ) → AddsUp (times of)
times_adds_up of row m n = times_sum m n (of row)

-- added up over a list, it is the weight of the list's bag
sum_weighs : (of : List Value → ℤ) (rows : List (List Value)) → sum_of (map of rows) ≡ weigh (times of) (bag_of rows)
sum_weighs of [] = refl
sum_weighs of (row ∷ rows) =
    let raised = weigh_added (times of) (times_adds_up of) (bag_of rows) row (pos 1) in
    let rest = sum_weighs of rows in
    let once : pos 1 *ℤ of row ≡ of row = omega (arith, ints) in
    omega (arith, ints)

pub sums_by_bag : (of : List Value → ℤ) (one two : List (List Value)) → bag_of one ≡ bag_of two → sum_of (map of one) ≡ sum_of (map of two)
sums_by_bag of one two same = sum_weighs of one ∙ ap (weigh (times of)) same ∙ sym (sum_weighs of two)

-- what a row with its count adds to the total of a group
abbrev pub in_total : Test → List Place → List Value → Calc → List Value → ℤ → ℤ
in_total t places key e row n = cond (is_in_group t places key row) (n *ℤ number_of (value_at (row ∷ []) e)) (pos 0)

in_total_adds_up : (t : Test) (places : List Place) (key : List Value) (e : Calc) → AddsUp (in_total t places key e)
in_total_adds_up t places key e row m n = by_test (is_in_group t places key row)
  where
    number : ℤ
    number = number_of (value_at (row ∷ []) e)

    by_test : (b : Bool) → cond b ((m +ℤ n) *ℤ number) (pos 0) ≡ cond b (m *ℤ number) (pos 0) +ℤ cond b (n *ℤ number) (pos 0)
    by_test true = times_sum m n number
    by_test false = refl

-- a total is a weight
total_weighs : (t : Test) (places : List Place) (key : List Value) (e : Calc) (cs : List Counted) → total t places key e cs ≡ weigh (in_total t places key e) cs
total_weighs t places key e [] = refl
total_weighs t places key e (c ∷ cs) = ap (λ rest. in_total t places key e c.row c.count +ℤ rest) (total_weighs t places key e cs)

pub total_sum : (t : Test) (places : List Place) (key : List Value) (e : Calc) (one two : List Counted) → total t places key e (bag_sum one two) ≡ total t places key e one +ℤ total t places key e two
total_sum t places key e one two =
    let all = total_weighs t places key e (bag_sum one two) in
    let split = weigh_sum (in_total t places key e) (in_total_adds_up t places key e) one two in
    let first = total_weighs t places key e one in
    let second = total_weighs t places key e two in
    omega (arith, ints)

pub total_less : (t : Test) (places : List Place) (key : List Value) (e : Calc) (one two : List Counted) → total t places key e (bag_less one two) ≡ total t places key e one -ℤ total t places key e two
total_less t places key e one two =
    let all = total_weighs t places key e (bag_less one two) in
    let split = weigh_less (in_total t places key e) (in_total_adds_up t places key e) one two in
    let first = total_weighs t places key e one in
    let second = total_weighs t places key e two in
    omega (arith, ints)

-- ---- the groups of lists of rows

-- the numbers of an expression at combinations
abbrev pub numbers : Calc → List (List (List Value)) → List ℤ
numbers e all = map (λ one. number_of (value_at one e)) all

-- a combination that passes the filter and is in the group adds its number to the sum over the group
sum_step : (places : List Place) (key : List Value) (e : Calc) (one : List (List Value)) (others : List (List (List Value))) (passes : Bool) →
    sum_of (numbers e (group_of places (cond passes (one ∷ others) others) key))
    ≡ cond (passes && is_eq (row_cmp (group_key places one) key)) (number_of (value_at one e)) (pos 0) +ℤ sum_of (numbers e (group_of places others key))
sum_step places key e one others true = by_test (is_eq (row_cmp (group_key places one) key))
  where
    by_test : (b : Bool) → sum_of (numbers e (cond b (one ∷ group_of places others key) (group_of places others key))) ≡ cond b (number_of (value_at one e)) (pos 0) +ℤ sum_of (numbers e (group_of places others key))
    by_test true = refl
    by_test false = omega (arith, ints)
sum_step places key e one others false = omega (arith, ints)

-- a row that counts once adds its number
total_one : (b : Bool) (n : ℤ) → cond b (pos 1 *ℤ n) (pos 0) ≡ cond b n (pos 0)
total_one true n = omega (arith, ints)
total_one false n = refl

pub sum_is_total : (t : Test) (places : List Place) (key : List Value) (e : Calc) (rows : List (List Value)) → sum_in_group t places key e rows ≡ total t places key e (bag_of rows)
sum_is_total t places key e [] = refl
sum_is_total t places key e (row ∷ rows) =
    let step = sum_step places key e (row ∷ []) (filter (satisfies t) (alone rows)) (satisfies t (row ∷ [])) in
    let here = total_one (is_in_group t places key row) (number_of (value_at (row ∷ []) e)) in
    let rest = sum_is_total t places key e rows in
    let before = total_weighs t places key e (bag_of rows) in
    let raised = weigh_added (in_total t places key e) (in_total_adds_up t places key e) (bag_of rows) row (pos 1) in
    let after = total_weighs t places key e (bag_of (row ∷ rows)) in
    omega (arith, ints)

-- the number of combinations is a sum of ones
length_is_sum : (all : List (List (List Value))) → pos (length all) ≡ sum_of (numbers (calc.Number (pos 1)) all)
length_is_sum [] = refl
length_is_sum (one ∷ all) = let rest = length_is_sum all in omega (arith, ints)

pub length_is_total : (t : Test) (places : List Place) (key : List Value) (rows : List (List Value)) → pos (length (rows_in_group t places key rows)) ≡ total_count t places key (bag_of rows)
length_is_total t places key rows = length_is_sum (rows_in_group t places key rows) ∙ sum_is_total t places key (calc.Number (pos 1)) rows

-- ---- answers with groups

-- functions that agree at each element make one list
mapped_alike : {A B : Type 0} (f g : A → B) → ((x : A) → f x ≡ g x) → (xs : List A) → map f xs ≡ map g xs
mapped_alike f g same [] = refl
mapped_alike f g same (x ∷ xs) = ap₂ (λ y ys. y ∷ ys) (same x) (mapped_alike f g same xs)

-- the value of an item for a group of a list's rows is made of the totals of the list's bag
value_is_total : (t : Test) (places : List Place) (key : List Value) (rows : List (List Value)) (w : What) → group_value places key (rows_in_group t places key rows) w ≡ total_value t places key (bag_of rows) w
value_is_total t places key rows (what.Plain e) = refl
value_is_total t places key rows (what.Sum e) = ap (λ n. Int n) (sum_is_total t places key e rows)
value_is_total t places key rows what.Count = ap (λ n. Int n) (length_is_total t places key rows)

-- the row of a key, from what a query over one entry chooses, is made of the totals of the bag of the entry's rows
row_is_totals : (query : Query) (env : Environment) (entry : Input) (places : List Place) → query.entries ≡ entry ∷ [] → (key : List Value)
    → group_row query.items places (chosen query env) key ≡ map (λ item. total_value query.filter places key (bag_of (entry_rows env entry)) item.what) query.items
row_is_totals query env entry places e key =
    ap (λ all. group_row query.items places all key) (one_chosen query env entry e)
    ∙ mapped_alike (λ (item : Item). group_value places key (rows_in_group query.filter places key (entry_rows env entry)) item.what) (λ (item : Item). total_value query.filter places key (bag_of (entry_rows env entry)) item.what) (λ item. value_is_total query.filter places key (entry_rows env entry) item.what) query.items

pub answers_grouped : (query : Query) (env : Environment) (entry : Input) (places : List Place) → query.entries ≡ entry ∷ [] → query.group ≡ Some places
    → mean query env ≡ in_order (map (λ key. map (λ item. total_value query.filter places key (bag_of (entry_rows env entry)) item.what) query.items) (distinct (map (group_key places) (chosen query env))))
unfolding mean
answers_grouped query env entry places e some =
    ap (λ group. in_order (rows_of query.items group (chosen query env))) some
    ∙ ap in_order (mapped_alike (group_row query.items places (chosen query env)) (λ (key : List Value). map (λ item. total_value query.filter places key (bag_of (entry_rows env entry)) item.what) query.items) (row_is_totals query env entry places e) (distinct (map (group_key places) (chosen query env))))

-- ---- differences of groups

-- what groups of two lists differ by is the total of the difference of their bags
pub sums_follow : (t : Test) (places : List Place) (key : List Value) (e : Calc) (before after : List (List Value)) → sum_in_group t places key e after -ℤ sum_in_group t places key e before ≡ total t places key e (bag_less (bag_of after) (bag_of before))
sums_follow t places key e before after =
    let new = sum_is_total t places key e after in
    let old = sum_is_total t places key e before in
    let both = total_less t places key e (bag_of after) (bag_of before) in
    omega (arith, ints)

pub lengths_follow : (t : Test) (places : List Place) (key : List Value) (before after : List (List Value)) → pos (length (rows_in_group t places key after)) -ℤ pos (length (rows_in_group t places key before)) ≡ total_count t places key (bag_less (bag_of after) (bag_of before))
lengths_follow t places key before after =
    let new = length_is_total t places key after in
    let old = length_is_total t places key before in
    let both = total_less t places key (calc.Number (pos 1)) (bag_of after) (bag_of before) in
    omega (arith, ints)
