-- An act that can be written has tokens that are matched as it within the limits.
use Rattle.std.proofs.Common.{◌≡◌, ℕ, zero, suc, ◌+◌, ◌<◌, ◌≤◌, ◌^◌, Bool, true, false, ◌&&◌, List, [], ◌∷◌, ◌++◌, Option, Some, None, ℤ, pos, negsuc, neg_ℤ, ◌⊎◌, inl, inr, refl, sym, ◌∙◌, ap, subst, arith}
use Rattle.std.specs.List.{list_all}
use Rattle.std.specs.Option.{option_map_or}
use Rattle.strip_value.specs.declared.values.Value.{Value}
use Rattle.strip_value.specs.declared.values.Value.TheVariants as value
use Rattle.strip_ast.specs.declared.marks.Mark.{Mark as OneMark}
use Rattle.strip_ast.specs.declared.marks.Mark.TheVariants as m
use Rattle.strip_ast.specs.declared.expressions.Expr.{Expr}
use Rattle.strip_ast.specs.declared.queries.ColTree.{ColTree}
use Rattle.strip_ast.specs.declared.queries.EntryTree.{EntryTree}
use Rattle.strip_ast.specs.declared.queries.ItemTree.{ItemTree}
use Rattle.strip_ast.specs.declared.queries.Origin.{Origin}
use Rattle.strip_ast.specs.declared.queries.Origin.TheVariants as origin
use Rattle.strip_ast.specs.declared.queries.QueryTree.{QueryTree}
use Rattle.strip_ast.specs.declared.queries.Total.{Total}
use Rattle.strip_ast.specs.declared.queries.Total.TheVariants as total_
use Rattle.strip_ast.specs.declared.deeds.Deed.{Deed}
use Rattle.strip_ast.specs.declared.deeds.Deed.TheVariants as deed_
use Rattle.strip_ast.specs.declared.deeds.SetTree.{SetTree}
use Rattle.strip_ast.specs.declared.statements.Statement.{Statement}
use Rattle.strip_ast.specs.declared.statements.Statement.TheVariants as st
use Rattle.strip_ast.specs.Grammar.{Grammar, terminal, empty, made, both, either, many, outermost}
use Rattle.strip_ast.specs.Grammar as grammar
use Rattle.strip_ast.specs.Syntax.{key, ◌▸◌, ◌◂◌, optional, listed, stands, a_name, a_number, col_of, dotted, col, sum, expression, whole, item, totalled, total, source, entry, filter, rest, query, a_value, row, set, insert, put, update, delete, act, show, deed, called, statement}
use Rattle.strip_ast.specs.Tokens.{is_grammar_name}
use Rattle.strip_acts.specs.Writable.{are_listed, has_digits, is_line, is_optional_name, is_expression, is_total, is_item, is_origin, is_entry, is_col, is_filter, is_group, is_query, is_value, is_row, is_set, is_written}
use Rattle.strip_parse.proofs.Begins.{both_true}
use Rattle.strip_written.proofs.Tests.{natural_digits, negative_digits}
use Rattle.strip_written.proofs.Within.{Matched}
use Rattle.strip_written.proofs.BuildParts.{Has, has_as, has_made, has_both, has_left, has_right, has_empty, has_key, has_name, has_number, has_text, has_behind, has_ahead}
use Rattle.strip_written.proofs.BuildExpressions.{has_expression, has_plain_column, has_dotted_column}

-- ---- grammars, part by part

-- some tokens are matched as the tree, from so many operators on
abbrev pub Built : {A : Type 0} → Grammar A → A → ℕ → Type 0
Built g a k = (l : ℕ) × Has 64 g a k l

-- each tree that passes the test has tokens
record Builds {A : Type 0} (g : Grammar A) (p : A → Bool) : Type 0 where
  builds : (a : A) (k : ℕ) → p a ≡ true → Built g a k

built_as : {A B : Type 0} (g : Grammar A) (h : Grammar B) (a : A) (b : B) (k : ℕ) → ((u : _) (l : ℕ) → Matched 64 g u a k l → Matched 64 h u b k l) → Built g a k → Built h b k
built_as g h a b k f (l, p) = (l, has_as g h a b (λ u t. f u l t) p)

built_made : {A B : Type 0} {k : ℕ} (g : Grammar A) (f : A → B) (a : A) → Built g a k → Built (made g f) (f a) k
built_made g f a (l, p) = (l, has_made g f a p)

built_both : {A B : Type 0} {k : ℕ} (g : Grammar A) (h : Grammar B) (a : A) (b : B) → Built g a k → ((i : ℕ) → Built h b i) → Built (both g h) (a, b) k
built_both g h a b (i, p) q = let (l, r) = q i in (l, has_both g h a b p r)

built_left : {A : Type 0} {k : ℕ} (g h : Grammar A) (a : A) → Built g a k → Built (either g h) a k
built_left g h a (l, p) = (l, has_left g h a p)

built_right : {A : Type 0} {k : ℕ} (g h : Grammar A) (a : A) → Built h a k → Built (either g h) a k
built_right g h a (l, p) = (l, has_right g h a p)

built_empty : {A : Type 0} (a : A) (k : ℕ) → Built (empty a) a k
built_empty a k = (k, has_empty a k)

built_key : (w : OneMark) (k : ℕ) → Built (key w) tt k
built_key w k = (k, has_key w k)

built_behind : {A : Type 0} {k : ℕ} (w : OneMark) (g : Grammar A) (a : A) → Built g a k → Built (w ▸ g) a k
built_behind w g a (l, p) = (l, has_behind w g a p)

built_ahead : {A : Type 0} {k : ℕ} (w : OneMark) (g : Grammar A) (a : A) → Built g a k → Built (g ◂ w) a k
built_ahead w g a (l, p) = (l, has_ahead w g a p)

built_stands : {A : Type 0} (w : OneMark) (a : A) (k : ℕ) → Built (stands w a) a k
built_stands w a k = built_made (key w) (λ _. a) tt (built_key w k)

built_name : (a : List ℕ) (k : ℕ) → is_grammar_name a ≡ true → Built a_name a k
built_name a k is = (k, has_name a k is)

-- where the grammar makes its trees of others, and each comes from one of these
builds_made : {A B : Type 0} {g : Grammar A} {f : A → B} {p : A → Bool} {q : B → Bool} → Builds g p → ((b : B) → q b ≡ true → (a : A) × (b ≡ f a) × (p a ≡ true)) → Builds (made g f) q
builds_made {g = g} {f = f} one from =
    record {
      builds = λ b k passes. let (a, is, passes') = from b passes in subst (λ x. Built (made g f) x k) (sym is) (built_made g f a (one.builds a k passes'));
    }

builds_both : {A B : Type 0} {g : Grammar A} {h : Grammar B} {p : A → Bool} {q : B → Bool} → Builds g p → Builds h q → Builds (both g h) (λ c. p c.0 && q c.1)
builds_both {g = g} {h = h} {p = p} {q = q} one two =
    record {
      builds = λ c k passes. let (first, second) = both_true (p c.0) (q c.1) passes in built_both g h c.0 c.1 (one.builds c.0 k first) (λ i. two.builds c.1 i second);
    }

builds_behind : {A : Type 0} {g : Grammar A} {p : A → Bool} (w : OneMark) → Builds g p → Builds (w ▸ g) p
builds_behind {g = g} w one = record { builds = λ a k passes. built_behind w g a (one.builds a k passes) }

builds_ahead : {A : Type 0} {g : Grammar A} {p : A → Bool} (w : OneMark) → Builds g p → Builds (g ◂ w) p
builds_ahead {g = g} w one = record { builds = λ a k passes. built_ahead w g a (one.builds a k passes) }

some_built : {A : Type 0} (g : Grammar A) (p : A → Bool) → Builds g p → (o : Option A) (k : ℕ) → option_map_or p o true ≡ true → Built (optional g) o k
some_built g p one None k passes = built_right (made g Some) (empty None) None (built_empty None k)
some_built g p one (Some a) k passes =
    built_left (made g Some) (empty None) (Some a) (built_made g Some a (one.builds a k passes))

builds_optional : {A : Type 0} {g : Grammar A} {p : A → Bool} → Builds g p → Builds (optional g) (λ o. option_map_or p o true)
builds_optional {g = g} {p = p} one = record { builds = λ o k passes. some_built g p one o k passes }

each_built : {A : Type 0} (g : Grammar A) (p : A → Bool) → Builds g p → (as_ : List A) (k : ℕ) → list_all p as_ ≡ true → Built (many g) as_ k
each_built {A} g p one [] k passes =
    let none : List A = [] in
    built_as (empty none) (many g) none none k (λ u l t. (t.0, t.2)) (built_empty none k)
each_built g p one (a ∷ as_) k passes =
    let (first, others) = both_true (p a) (list_all p as_) passes in
    built_as (both g (many g)) (many g) (a, as_) (a ∷ as_) k (λ u l t. t) (built_both g (many g) a as_ (one.builds a k first) (λ i. each_built g p one as_ i others))

builds_many : {A : Type 0} {g : Grammar A} {p : A → Bool} → Builds g p → Builds (many g) (list_all p)
builds_many {g = g} {p = p} one = record { builds = λ as_ k passes. each_built g p one as_ k passes }

first_listed : {A : Type 0} (p : A → Bool) (as_ : List A) → are_listed p as_ ≡ true → (c : A × List A) × (as_ ≡ c.0 ∷ c.1) × ((p c.0 && list_all p c.1) ≡ true)
first_listed p [] passes = cc
first_listed p (a ∷ as_) passes = ((a, as_), refl, passes)

builds_listed : {A : Type 0} {g : Grammar A} {p : A → Bool} → Builds g p → Builds (listed g) (are_listed p)
builds_listed {p = p} one =
    builds_made (builds_both one (builds_many (builds_behind m.Comma one))) (first_listed p)

builds_name : Builds a_name is_grammar_name
builds_name = record { builds = λ a k is. built_name a k is }

builds_named : Builds (optional (m.As ▸ a_name)) is_optional_name
builds_named = builds_optional (builds_behind m.As builds_name)

-- ---- queries

whole_built : (e : Expr) (k : ℕ) → is_expression 0 e ≡ true → Built whole e k
unfolding whole
whole_built e k passes =
    let p = has_expression 0 e (omega arith) passes in
    (_, record { tokens = p.tokens; sound = p.sound; matched = p.matched })

builds_whole : Builds whole (is_expression 0)
builds_whole = record { builds = λ e k passes. whole_built e k passes }

builds_sum : Builds (outermost sum) (is_expression 4)
builds_sum =
    record {
      builds = λ e k passes. let p = has_expression 4 e (omega arith) passes in (_, record { tokens = p.tokens; sound = p.sound; matched = p.matched });
    }

item_built : (e : Expr) (name : Option (List ℕ)) (k : ℕ) → is_expression 0 e ≡ true → is_optional_name name ≡ true → Built item (record { what = total_.Plain e; name = name }) k
unfolding item
item_built e name k passes named =
    built_made (both whole (optional (m.As ▸ a_name))) _ (e, name) (built_both whole (optional (m.As ▸ a_name)) e name (whole_built e k passes) (λ i. builds_named.builds name i named))

totalled_sum : (e : Expr) (k : ℕ) → is_expression 0 e ≡ true → Built totalled (total_.Sum e) k
unfolding totalled
totalled_sum e k passes =
    built_left _ _ (total_.Sum e) (built_made _ total_.Sum e (built_behind m.Sum (m.Open ▸ (whole ◂ m.Close)) e (built_behind m.Open (whole ◂ m.Close) e (built_ahead m.Close whole e (whole_built e k passes)))))

totalled_count : (k : ℕ) → Built totalled total_.Count k
unfolding totalled
totalled_count k =
    built_right _ _ total_.Count (built_made _ (λ _. total_.Count) tt (built_behind m.Count (m.Open ▸ (m.Star ▸ key m.Close)) tt (built_behind m.Open (m.Star ▸ key m.Close) tt (built_behind m.Star (key m.Close) tt (built_key m.Close k)))))

totalled_built : (what : Total) (name : Option (List ℕ)) (k : ℕ) → Built totalled what k → is_optional_name name ≡ true → Built total (record { what = what; name = name }) k
unfolding total
totalled_built what name k p named =
    built_left _ _ _ (built_made (both totalled (optional (m.As ▸ a_name))) _ (what, name) (built_both totalled (optional (m.As ▸ a_name)) what name p (λ i. builds_named.builds name i named)))

plain_built : (e : Expr) (name : Option (List ℕ)) (k : ℕ) → is_expression 0 e ≡ true → is_optional_name name ≡ true → Built total (record { what = total_.Plain e; name = name }) k
unfolding total
plain_built e name k passes named = built_right _ _ _ (item_built e name k passes named)

total_built : (what : Total) (name : Option (List ℕ)) (k : ℕ) → is_total what ≡ true → is_optional_name name ≡ true → Built total (record { what = what; name = name }) k
total_built (total_.Plain e) name k passes named = plain_built e name k passes named
total_built (total_.Sum e) name k passes named = totalled_built (total_.Sum e) name k (totalled_sum e k passes) named
total_built total_.Count name k passes named = totalled_built total_.Count name k (totalled_count k) named

builds_total : Builds total is_item
builds_total =
    record {
      builds = λ item' k passes. let (first, second) = both_true (is_total item'.what) (is_optional_name item'.name) passes in total_built item'.what item'.name k first second;
    }

source_built : (o : Origin) (k : ℕ) → is_origin o ≡ true → Built source o k
unfolding source
source_built (origin.Before a) k passes =
    built_left _ _ _ (built_made (m.Before ▸ a_name) origin.Before a (built_behind m.Before a_name a (built_name a k passes)))
source_built origin.Inserted k passes = built_right _ _ _ (built_left _ _ _ (built_stands m.Inserted origin.Inserted k))
source_built origin.Deleted k passes =
    built_right _ _ _ (built_right _ _ _ (built_left _ _ _ (built_stands m.Deleted origin.Deleted k)))
source_built origin.Old k passes =
    built_right _ _ _ (built_right _ _ _ (built_right _ _ _ (built_left _ _ _ (built_stands m.Old origin.Old k))))
source_built origin.New k passes =
    built_right _ _ _ (built_right _ _ _ (built_right _ _ _ (built_right _ _ _ (built_left _ _ _ (built_stands m.New origin.New k)))))
source_built (origin.Table a) k passes =
    built_right _ _ _ (built_right _ _ _ (built_right _ _ _ (built_right _ _ _ (built_right _ _ _ (built_made a_name origin.Table a (built_name a k passes))))))

builds_source : Builds source is_origin
builds_source = record { builds = λ o k passes. source_built o k passes }

builds_entry : Builds entry is_entry
unfolding entry
builds_entry =
    builds_made (builds_both builds_source (builds_optional builds_name)) (λ e passes. ((e.origin, e.alias), refl, passes))

builds_filter : Builds filter is_filter
unfolding filter
builds_filter = builds_optional (builds_behind m.Where builds_whole)

builds_rest : Builds rest (λ c. are_listed is_entry c.0 && is_filter c.1)
unfolding rest
builds_rest = builds_both (builds_behind m.From (builds_listed builds_entry)) builds_filter

column_built : (of : Option (List ℕ)) (a : List ℕ) (k : ℕ) → is_optional_name of ≡ true → is_grammar_name a ≡ true → Built col (record { of = of; name = a }) k
unfolding col
column_built None a k first second =
    built_made dotted (col_of (λ of' a'. record { of = of'; name = a' })) (a, None) (k, has_plain_column a k second)
column_built (Some b) a k first second =
    built_made dotted (col_of (λ of' a'. record { of = of'; name = a' })) (b, Some a) (k, has_dotted_column b a k first second)

builds_col : Builds col is_col
builds_col =
    record {
      builds = λ c k passes. let (first, second) = both_true (is_optional_name c.of) (is_grammar_name c.name) passes in column_built c.of c.name k first second;
    }

builds_group : Builds (optional (m.Group ▸ (m.By ▸ listed col))) is_group
builds_group = builds_optional (builds_behind m.Group (builds_behind m.By (builds_listed builds_col)))

regrouped : (a b c d : Bool) → (a && (b && (c && d))) ≡ true → (a && ((b && c) && d)) ≡ true
regrouped true true c d is = is
regrouped true false c d is = is
regrouped false b c d is = is

builds_query : Builds query is_query
unfolding query
builds_query =
    builds_made (builds_both (builds_behind m.Select (builds_listed builds_total)) (builds_both builds_rest builds_group)) (λ q passes. ((q.items, ((q.entries, q.filter), q.group)), refl, regrouped (are_listed is_item q.items) (are_listed is_entry q.entries) (is_filter q.filter) (is_group q.group) passes))

-- ---- acts

value_built : (v : Value) (k : ℕ) → is_value v ≡ true → Built a_value v k
unfolding a_value
value_built (value.Int (pos n)) k passes =
    built_right _ _ _ (built_left _ _ _ (built_made a_number (λ i. value.Int (pos i)) n (k, has_number n k (natural_digits n passes))))
value_built (value.Int (negsuc n)) k passes =
    built_left _ _ _ (built_made (m.Minus ▸ a_number) (λ i. value.Int (neg_ℤ (pos i))) (suc n) (built_behind m.Minus a_number (suc n) (k, has_number (suc n) k (negative_digits n passes))))
value_built (value.Text t) k passes =
    built_right _ _ _ (built_right _ _ _ (built_made (terminal grammar.text) value.Text t (k, has_text t k passes)))

builds_value : Builds a_value is_value
builds_value = record { builds = λ v k passes. value_built v k passes }

builds_row : Builds row is_row
unfolding row
builds_row = builds_behind m.Open (builds_ahead m.Close (builds_listed builds_value))

builds_set : Builds set is_set
unfolding set
builds_set =
    builds_made (builds_both builds_name (builds_behind m.Equal builds_sum)) (λ s passes. ((s.column, s.value), refl, passes))

insert_built : (table : List ℕ) (rows : List (List Value)) (k : ℕ) → is_written (deed_.Insert table rows) ≡ true → Built insert (deed_.Insert table rows) k
unfolding insert
insert_built table rows k passes =
    built_made (both (m.Insert ▸ a_name) (listed row)) _ (table, rows) ((builds_both (builds_behind m.Insert builds_name) (builds_listed builds_row)).builds (table, rows) k passes)

put_built : (table : List ℕ) (row' : List Value) (k : ℕ) → is_written (deed_.Put table row') ≡ true → Built put (deed_.Put table row') k
unfolding put
put_built table row' k passes =
    built_made (both (m.Put ▸ a_name) row) _ (table, row') ((builds_both (builds_behind m.Put builds_name) builds_row).builds (table, row') k passes)

update_built : (table : List ℕ) (sets : List SetTree) (filter' : Option Expr) (k : ℕ) → is_written (deed_.Update table sets filter') ≡ true → Built update (deed_.Update table sets filter') k
unfolding update
update_built table sets filter' k passes =
    built_made (both (m.Update ▸ a_name) (both (m.Set ▸ listed set) filter)) _ (table, (sets, filter')) ((builds_both (builds_behind m.Update builds_name) (builds_both (builds_behind m.Set (builds_listed builds_set)) builds_filter)).builds (table, (sets, filter')) k passes)

delete_built : (table : List ℕ) (filter' : Option Expr) (k : ℕ) → is_written (deed_.Delete table filter') ≡ true → Built delete (deed_.Delete table filter') k
unfolding delete
delete_built table filter' k passes =
    built_made (both (m.Delete ▸ a_name) filter) _ (table, filter') ((builds_both (builds_behind m.Delete builds_name) builds_filter).builds (table, filter') k passes)

show_built : (table : List ℕ) (k : ℕ) → is_grammar_name table ≡ true → Built show (deed_.Show table) k
unfolding show
show_built table k passes =
    built_behind m.Show _ (deed_.Show table) (built_right _ _ _ (built_made a_name deed_.Show table (built_name table k passes)))

-- an act is the last of the deeds
act_built : (d : Deed) (k : ℕ) → Built act d k → Built deed d k
unfolding deed
act_built d k p =
    built_right _ _ d (built_right _ _ d (built_right _ _ d (built_right _ _ d (built_right _ _ d (built_right _ _ d (built_right _ _ d (built_right _ _ d p)))))))

shown_built : (d : Deed) (k : ℕ) → Built show d k → Built deed d k
unfolding deed
shown_built d k p =
    built_right _ _ d (built_right _ _ d (built_right _ _ d (built_right _ _ d (built_right _ _ d (built_right _ _ d (built_right _ _ d (built_left _ _ d p)))))))

deed_built : (d : Deed) (k : ℕ) → is_written d ≡ true → Built deed d k
unfolding act
deed_built (deed_.Insert table rows) k passes = act_built _ k (built_left _ _ _ (insert_built table rows k passes))
deed_built (deed_.Put table row') k passes =
    act_built _ k (built_right _ _ _ (built_left _ _ _ (put_built table row' k passes)))
deed_built (deed_.Update table sets filter') k passes =
    act_built _ k (built_right _ _ _ (built_right _ _ _ (built_left _ _ _ (update_built table sets filter' k passes))))
deed_built (deed_.Delete table filter') k passes =
    act_built _ k (built_right _ _ _ (built_right _ _ _ (built_right _ _ _ (built_left _ _ _ (delete_built table filter' k passes)))))
deed_built (deed_.Select query') k passes =
    act_built _ k (built_right _ _ _ (built_right _ _ _ (built_right _ _ _ (built_right _ _ _ (built_made query deed_.Select query' (builds_query.builds query' k passes))))))
deed_built (deed_.Show table) k passes = shown_built _ k (show_built table k passes)
deed_built d k passes = cc

-- ---- statements

called_built : (d : Deed) (k : ℕ) → is_written d ≡ true → Built called (st.Deed None d) k
unfolding called
called_built d k passes =
    let caller : Built (optional (m.As ▸ terminal grammar.caller)) None k = built_right _ _ None (built_empty None k) in
    built_made (both (optional (m.As ▸ terminal grammar.caller)) deed) _ (None, d) (built_both (optional (m.As ▸ terminal grammar.caller)) deed None d caller (λ i. deed_built d i passes))

pub statement_built : (d : Deed) → is_written d ≡ true → Built statement (st.Deed None d) 0
unfolding statement
statement_built d passes =
    let s = st.Deed None d in
    built_right _ _ s (built_right _ _ s (built_right _ _ s (built_right _ _ s (built_right _ _ s (built_right _ _ s (built_right _ _ s (built_right _ _ s (called_built d 0 passes))))))))
