-- An act that is read can be written: its lists aren't empty, and its parts can be written.
use Rattle.std.proofs.Common.{◌≡◌, ℕ, zero, suc, ◌+◌, ◌<◌, ◌≤◌, ◌^◌, Bool, true, false, ◌&&◌, List, [], ◌∷◌, ◌++◌, Option, Some, None, ℤ, pos, negsuc, neg_ℤ, ◌⊎◌, inl, inr, refl, sym, ◌∙◌, ap, subst}
use Rattle.std.specs.List.{list_all}
use Rattle.std.specs.Option.{option_map_or}
use Rattle.strip_value.specs.declared.values.Value.{Value}
use Rattle.strip_value.specs.declared.values.Value.TheVariants as value
use Rattle.strip_ast.specs.declared.marks.Mark.{Mark as OneMark}
use Rattle.strip_ast.specs.declared.marks.Mark.TheVariants as m
use Rattle.strip_ast.specs.declared.token_types.Placed.{Placed}
use Rattle.strip_ast.specs.declared.expressions.Expr.{Expr}
use Rattle.strip_ast.specs.declared.queries.ColTree.{ColTree}
use Rattle.strip_ast.specs.declared.queries.EntryTree.{EntryTree}
use Rattle.strip_ast.specs.declared.queries.ItemTree.{ItemTree}
use Rattle.strip_ast.specs.declared.queries.Origin.TheVariants as origin
use Rattle.strip_ast.specs.declared.queries.QueryTree.{QueryTree}
use Rattle.strip_ast.specs.declared.deeds.Deed.{Deed}
use Rattle.strip_ast.specs.declared.deeds.Deed.TheVariants as deed_
use Rattle.strip_ast.specs.declared.statements.Statement.{Statement}
use Rattle.strip_ast.specs.declared.statements.Statement.TheVariants as st
use Rattle.strip_ast.specs.Grammar.{Grammar, terminal, empty, made, both, either, many, outermost}
use Rattle.strip_ast.specs.Grammar as grammar
use Rattle.strip_ast.specs.Syntax.{key, ◌▸◌, ◌◂◌, optional, listed, stands, a_name, a_number, table, stream, derive, function, rule, maintain, begin, col_of, dotted, col, sum, expression, whole, item, totalled, total, source, entry, filter, rest, query, a_value, row, set, insert, put, update, delete, act, show, deed, called, statement}
use Rattle.strip_ast.specs.Tokens.{is_grammar_name}
use Rattle.strip_acts.specs.Writable.{are_listed, has_digits, is_line, is_optional_name, is_expression, is_total, is_item, is_origin, is_entry, is_col, is_filter, is_group, is_query, is_value, is_row, is_set, is_written, IsAct}
use Rattle.strip_parse.proofs.Counted.{EachCounted}
use Rattle.strip_ast.proofs.SoundTokens.{SoundTokens}
use Rattle.strip_written.proofs.Within.{Matched}
use Rattle.strip_written.proofs.Tests.{both_yes, digits_natural, digits_negative}
use Rattle.strip_written.proofs.ReadExpressions.{sound_left, sound_right, name_read, number_read, text_read, dotted_read, sums_seated, all_seated, inner_within, seated_written}

-- ---- grammars, part by part

-- each tree that sound tokens are matched as passes the test
record Gives {A : Type 0} (g : Grammar A) (p : A → Bool) : Type 0 where
  gives : (u : List Placed) (a : A) (k l : ℕ) → SoundTokens u → Matched 64 g u a k l → p a ≡ true

gives_made : {A B : Type 0} {g : Grammar A} {f : A → B} {p : A → Bool} {q : B → Bool} → Gives g p → ((a : A) → p a ≡ true → q (f a) ≡ true) → Gives (made g f) q
gives_made {q = q} one more =
    record { gives = λ u b k l s (a, r, is). ap q is ∙ more a (one.gives u a k l s r) }

gives_both : {A B : Type 0} {g : Grammar A} {h : Grammar B} {p : A → Bool} {q : B → Bool} → Gives g p → Gives h q → Gives (both g h) (λ c. p c.0 && q c.1)
gives_both {p = p} {q = q} one two =
    record {
      gives = λ u c k l s (v, w, split, n, r, t). both_yes (p c.0) (q c.1) (one.gives v c.0 k n (sound_left u v w split s) r) (two.gives w c.1 n l (sound_right u v w split s) t);
    }

gives_either : {A : Type 0} {g h : Grammar A} {p : A → Bool} → Gives g p → Gives h p → Gives (either g h) p
gives_either {g = g} {h = h} {p = p} one two = record { gives = each }
  where
    each : (u : List Placed) (a : _) (k l : ℕ) → SoundTokens u → Matched 64 (either g h) u a k l → p a ≡ true
    each u a k l s (inl r) = one.gives u a k l s r
    each u a k l s (inr r) = two.gives u a k l s r

gives_empty : {A : Type 0} {b : A} {p : A → Bool} → p b ≡ true → Gives (empty b) p
gives_empty {p = p} passes = record { gives = λ u a k l s (nil, is, same). ap p is ∙ passes }

-- nothing is asked
gives_any : {A : Type 0} {g : Grammar A} → Gives g (λ _. true)
gives_any = record { gives = λ u a k l s r. refl }

each_given : {A : Type 0} (g : Grammar A) (p : A → Bool) → Gives g p → (u : List Placed) (as_ : List A) (k l : ℕ) → SoundTokens u → EachCounted (Matched 64 g) u as_ k l → list_all p as_ ≡ true
each_given g p one u [] k l s r = refl
each_given g p one u (a ∷ as_) k l s (v, w, split, n, r, more) =
    both_yes (p a) (list_all p as_) (one.gives v a k n (sound_left u v w split s) r) (each_given g p one w as_ n l (sound_right u v w split s) more)

gives_many : {A : Type 0} {g : Grammar A} {p : A → Bool} → Gives g p → Gives (many g) (list_all p)
gives_many {g = g} {p = p} one = record { gives = λ u as_ k l s r. each_given g p one u as_ k l s r }

gives_behind : {A : Type 0} {g : Grammar A} {p : A → Bool} (w : OneMark) → Gives g p → Gives (w ▸ g) p
gives_behind w one = gives_made (gives_both {g = key w} gives_any one) (λ c passes. passes)

and_true : (b : Bool) → (b && true) ≡ true → b ≡ true
and_true true is = refl
and_true false is = is

gives_ahead : {A : Type 0} {g : Grammar A} {p : A → Bool} (w : OneMark) → Gives g p → Gives (g ◂ w) p
gives_ahead {p = p} w one = gives_made (gives_both {h = key w} one gives_any) (λ c passes. and_true (p c.0) passes)

gives_stands : {A : Type 0} {p : A → Bool} (w : OneMark) (x : A) → p x ≡ true → Gives (stands w x) p
gives_stands w x passes = gives_made {g = key w} gives_any (λ a _. passes)

gives_optional : {A : Type 0} {g : Grammar A} {p : A → Bool} → Gives g p → Gives (optional g) (λ o. option_map_or p o true)
gives_optional one = gives_either (gives_made one (λ a passes. passes)) (gives_empty refl)

gives_listed : {A : Type 0} {g : Grammar A} {p : A → Bool} → Gives g p → Gives (listed g) (are_listed p)
gives_listed one = gives_made (gives_both one (gives_many (gives_behind m.Comma one))) (λ c passes. passes)

gives_name : Gives a_name is_grammar_name
gives_name = record { gives = λ u a k l s r. name_read 64 u a k l s r }

gives_named : Gives (optional (m.As ▸ a_name)) is_optional_name
gives_named = gives_optional (gives_behind m.As gives_name)

-- ---- queries

gives_whole : Gives whole (is_expression 0)
unfolding whole
gives_whole =
    record { gives = λ u e k l s r. seated_written 0 l e (all_seated 64 (inner_within 64) u e 0 l s r) }

gives_sum : Gives (outermost sum) (is_expression 4)
gives_sum =
    record { gives = λ u e k l s r. seated_written 4 l e (sums_seated 64 (inner_within 64) u e 0 l s r) }

gives_item : Gives item is_item
unfolding item
gives_item = gives_made (gives_both gives_whole gives_named) (λ c passes. passes)

gives_totalled : Gives totalled is_total
unfolding totalled
gives_totalled =
    gives_either (gives_made (gives_behind m.Sum (gives_behind m.Open (gives_ahead m.Close gives_whole))) (λ e passes. passes)) (gives_made (gives_behind m.Count (gives_behind m.Open (gives_behind m.Star gives_any))) (λ x passes. refl))

gives_total : Gives total is_item
unfolding total
gives_total = gives_either (gives_made (gives_both gives_totalled gives_named) (λ c passes. passes)) gives_item

gives_source : Gives source is_origin
unfolding source
gives_source =
    gives_either (gives_made (gives_behind m.Before gives_name) (λ a passes. passes)) (gives_either (gives_stands m.Inserted origin.Inserted refl) (gives_either (gives_stands m.Deleted origin.Deleted refl) (gives_either (gives_stands m.Old origin.Old refl) (gives_either (gives_stands m.New origin.New refl) (gives_made gives_name (λ a passes. passes))))))

gives_entry : Gives entry is_entry
unfolding entry
gives_entry = gives_made (gives_both gives_source (gives_optional gives_name)) (λ c passes. passes)

gives_filter : Gives filter is_filter
unfolding filter
gives_filter = gives_optional (gives_behind m.Where gives_whole)

gives_rest : Gives rest (λ c. are_listed is_entry c.0 && is_filter c.1)
unfolding rest
gives_rest = gives_both (gives_behind m.From (gives_listed gives_entry)) gives_filter

-- the names of a column
abbrev is_dotted : List ℕ × Option (List ℕ) → Bool
is_dotted c = is_grammar_name c.0 && is_optional_name c.1

gives_dotted : Gives dotted is_dotted
gives_dotted =
    record {
      gives = λ u c k l s r. let names = dotted_read 64 u c k l s r in both_yes (is_grammar_name c.0) (is_optional_name c.1) names.0 names.1;
    }

column_given : (c : List ℕ × Option (List ℕ)) → is_dotted c ≡ true → (let column : ColTree = col_of (λ of a. record { of = of; name = a }) c in is_col column ≡ true)
column_given (a, None) passes = and_true (is_grammar_name a) passes
column_given (a, Some b) passes = passes

gives_col : Gives col is_col
unfolding col
gives_col = gives_made gives_dotted column_given

gives_group : Gives (optional (m.Group ▸ (m.By ▸ listed col))) is_group
gives_group = gives_optional (gives_behind m.Group (gives_behind m.By (gives_listed gives_col)))

regrouped : (a b c d : Bool) → (a && ((b && c) && d)) ≡ true → (a && (b && (c && d))) ≡ true
regrouped true true c d is = is
regrouped true false c d is = is
regrouped false b c d is = is

gives_query : Gives query is_query
unfolding query
gives_query =
    gives_made (gives_both (gives_behind m.Select (gives_listed gives_total)) (gives_both gives_rest gives_group)) (λ c passes. regrouped (are_listed is_item c.0) (are_listed is_entry c.1.0.0) (is_filter c.1.0.1) (is_group c.1.1) passes)

-- ---- acts

gives_natural : Gives a_number (λ n. has_digits (pos n))
gives_natural = record { gives = λ u n k l s r. digits_natural n (number_read 64 u n k l s r) }

gives_negative : Gives a_number (λ n. has_digits (neg_ℤ (pos n)))
gives_negative = record { gives = λ u n k l s r. digits_negative n (number_read 64 u n k l s r) }

gives_text : Gives (terminal grammar.text) is_line
gives_text = record { gives = λ u t k l s r. text_read 64 u t k l s r }

gives_value : Gives a_value is_value
unfolding a_value
gives_value =
    gives_either (gives_made (gives_behind m.Minus gives_negative) (λ n passes. passes)) (gives_either (gives_made gives_natural (λ n passes. passes)) (gives_made gives_text (λ t passes. passes)))

gives_row : Gives row is_row
unfolding row
gives_row = gives_behind m.Open (gives_ahead m.Close (gives_listed gives_value))

gives_set : Gives set is_set
unfolding set
gives_set = gives_made (gives_both gives_name (gives_behind m.Equal gives_sum)) (λ c passes. passes)

gives_insert : Gives insert is_written
unfolding insert
gives_insert = gives_made (gives_both (gives_behind m.Insert gives_name) (gives_listed gives_row)) (λ c passes. passes)

gives_put : Gives put is_written
unfolding put
gives_put = gives_made (gives_both (gives_behind m.Put gives_name) gives_row) (λ c passes. passes)

gives_update : Gives update is_written
unfolding update
gives_update =
    gives_made (gives_both (gives_behind m.Update gives_name) (gives_both (gives_behind m.Set (gives_listed gives_set)) gives_filter)) (λ c passes. passes)

gives_delete : Gives delete is_written
unfolding delete
gives_delete = gives_made (gives_both (gives_behind m.Delete gives_name) gives_filter) (λ c passes. passes)

gives_act : Gives act is_written
unfolding act
gives_act =
    gives_either gives_insert (gives_either gives_put (gives_either gives_update (gives_either gives_delete (gives_made gives_query (λ q passes. passes)))))

-- ---- statements

-- what is shown is a table, where the deed is an act
show_given : (u : List Placed) (d : Deed) (k l : ℕ) → IsAct d → SoundTokens u → Matched 64 show u d k l → is_written d ≡ true
unfolding show
show_given u d k l acts s (c, (v, w, split, n, one, inl (x, r, same)), is) =
    absurd (subst IsAct (is ∙ same) acts)
show_given u d k l acts s (c, (v, w, split, n, one, inr (a, r, same)), is) =
    ap is_written (is ∙ same) ∙ name_read 64 w a n l (sound_right u v w split s) r

deed_given : (u : List Placed) (d : Deed) (k l : ℕ) → IsAct d → SoundTokens u → Matched 64 deed u d k l → is_written d ≡ true
unfolding deed begin
deed_given u d k l acts s (inl (c, r, is)) = absurd (subst IsAct is acts)
deed_given u d k l acts s (inr (inl (x, r, is))) = absurd (subst IsAct is acts)
deed_given u d k l acts s (inr (inr (inl (x, r, is)))) = absurd (subst IsAct is acts)
deed_given u d k l acts s (inr (inr (inr (inl (x, r, is))))) = absurd (subst IsAct is acts)
deed_given u d k l acts s (inr (inr (inr (inr (inl (n, r, is)))))) = absurd (subst IsAct is acts)
deed_given u d k l acts s (inr (inr (inr (inr (inr (inl (n, r, is))))))) = absurd (subst IsAct is acts)
deed_given u d k l acts s (inr (inr (inr (inr (inr (inr (inl (x, r, is)))))))) = absurd (subst IsAct is acts)
deed_given u d k l acts s (inr (inr (inr (inr (inr (inr (inr (inl r)))))))) = show_given u d k l acts s r
deed_given u d k l acts s (inr (inr (inr (inr (inr (inr (inr (inr r)))))))) = gives_act.gives u d k l s r

-- a statement that is a deed is that of some caller
called_given : (u : List Placed) (d : Deed) (k l : ℕ) → IsAct d → SoundTokens u → Matched 64 called u (st.Deed None d) k l → is_written d ≡ true
unfolding called
called_given u d k l acts s (c, (v, w, split, n, r, t), is) =
    let same : d ≡ c.1 = cc in
    ap is_written same ∙ deed_given w c.1 n l (subst IsAct same acts) (sound_right u v w split s) t

pub statement_given : (u : List Placed) (d : Deed) (k l : ℕ) → IsAct d → SoundTokens u → Matched 64 statement u (st.Deed None d) k l → is_written d ≡ true
unfolding statement table stream derive function rule maintain
statement_given u d k l acts s (inl (c, r, is)) = cc
statement_given u d k l acts s (inr (inl (c, r, is))) = cc
statement_given u d k l acts s (inr (inr (inl (c, r, is)))) = cc
statement_given u d k l acts s (inr (inr (inr (inl (c, r, is))))) = cc
statement_given u d k l acts s (inr (inr (inr (inr (inl (c, r, is)))))) = cc
statement_given u d k l acts s (inr (inr (inr (inr (inr (inl (c, r, is))))))) = cc
statement_given u d k l acts s (inr (inr (inr (inr (inr (inr (inl (c, r, is)))))))) = cc
statement_given u d k l acts s (inr (inr (inr (inr (inr (inr (inr (inl (c, r, is))))))))) = cc
statement_given u d k l acts s (inr (inr (inr (inr (inr (inr (inr (inr r)))))))) = called_given u d k l acts s r
