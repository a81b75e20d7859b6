-- Numbers that may grow too wide, by the parts of an expression.
use Rattle.std.proofs.Common.{◌≡◌, ◌++◌, Bool, true, false, not, nat_le, List, [], ◌∷◌, map, filter, Option, None, option_map, Result, Err, refl, sym, ap, ◌∙◌, flat_map}
use Rattle.std.proofs.lemmas.List.{append-nil, map-append}
use Rattle.std.proofs.lemmas.List.Concat.{flat_map-append}
use Rattle.std.proofs.lemmas.List.Elements.{filter-append}
use Rattle.strip_value.specs.declared.kinds.Kind.{Kind}
use Rattle.strip_value.specs.declared.tables.TableDef.{TableDef}
use Rattle.strip_value.specs.Bounds.{magnitude_of}
use Rattle.strip_ast.specs.declared.deeds.Deed.{Deed}
use Rattle.strip_ast.specs.declared.deeds.Deed.TheVariants as deed
use Rattle.strip_ast.specs.declared.deeds.SetTree.{SetTree}
use Rattle.strip_ast.specs.declared.expressions.Expr.{Expr, Number, Text, Column}
use Rattle.strip_ast.specs.declared.expressions.Expr.TheVariants as expr
use Rattle.strip_ast.specs.declared.expressions.Op.{Op}
use Rattle.strip_ast.specs.declared.queries.ItemTree.{ItemTree}
use Rattle.strip_ast.specs.declared.queries.QueryTree.{QueryTree}
use Rattle.strip_setup.specs.declared.errors.SetupError.{SetupError}
use Rattle.strip_setup.specs.declared.errors.SetupError.TheVariants.{TooWide}
use Rattle.strip_setup.specs.declared.scope.Entry.{Entry}
use Rattle.strip_setup.specs.Catalog.{first}
use Rattle.strip_setup.specs.Checks.{Checks}
use Rattle.strip_setup.specs.Parts.{class_of, filter_wholes, is_truth, item_wholes, joins_truth, Part, parts, query_wholes, sum, total_wholes, truth, update_wholes, value, Whole}
use Rattle.strip_kinds.specs.Walks.{part_exprs, wide_computed, wide_exprs, wide_wholes}
use Rattle.strip_setup.specs.Queries.{Scope, calc_of, kinds_of}
use Rattle.strip_setup.specs.Resolve.{outside_rules}
use Rattle.strip_setup.specs.Trees.{Two, Not, Two-is, Not-is}
use Rattle.strip_kinds.specs.Width.{bounded_in, is_computed, least_wide, magnitudes_in_all, magnitudes_in_deed, magnitudes_in_query, summed_column}
use Rattle.strip_setup.proofs.Firsts.{carried, passed-append, refused-append}

-- ---- parts

computed_two : (o : Op) (a b : Expr) → is_computed (expr.Two o a b) ≡ not (is_truth (expr.Two o a b))
computed_two o a b = rw (Two-is o a b) refl

pub is_computed_two : (e a b : Expr) (o : Op) (r : Bool) → e ≡ expr.Two o a b → r ≡ is_truth e → not r ≡ is_computed e
is_computed_two e a b o r is r_is = ap not (r_is ∙ ap is_truth is) ∙ sym (ap is_computed is ∙ computed_two o a b)

pub is_computed_not : (e a : Expr) → e ≡ expr.Not a → false ≡ is_computed e
is_computed_not e a is = sym (ap is_computed (is ∙ Not-is a))

exprs-append : (ps qs : List Part) → map (λ (part : Part). part.expr) (ps ++ qs) ≡ map (λ (part : Part). part.expr) ps ++ map (λ (part : Part). part.expr) qs
exprs-append ps qs = map-append (λ (part : Part). part.expr) ps qs

-- the parts, whatever is wanted
pub exprs_of_parts : (wants : Bool) (e : Expr) → map (λ (part : Part). part.expr) (parts wants e) ≡ part_exprs e
exprs_of_parts wants (Number n) = refl
exprs_of_parts wants (Text t) = refl
exprs_of_parts wants (Column of name) = refl
exprs_of_parts wants (Two o a b) =
    let joins = joins_truth (class_of o) in
    let whole : List Part = record { expr = Two o a b; wants_truth = wants } ∷ [] in
    exprs-append (parts joins a) (parts joins b ++ whole)
    ∙ ap (λ es. es ++ map (λ (part : Part). part.expr) (parts joins b ++ whole)) (exprs_of_parts joins a)
    ∙ ap (λ es. part_exprs a ++ es) (exprs-append (parts joins b) whole ∙ ap (λ es. es ++ Two o a b ∷ []) (exprs_of_parts joins b))
exprs_of_parts wants (Not a) =
    exprs-append (parts true a) (record { expr = Not a; wants_truth = wants } ∷ []) ∙ ap (λ es. es ++ Not a ∷ []) (exprs_of_parts true a)

exprs-apart : (kinds : List (List Kind)) (entries : List Entry) (xs ys : List Expr) → wide_exprs kinds entries (xs ++ ys) ≡ wide_exprs kinds entries xs ++ wide_exprs kinds entries ys
exprs-apart kinds entries xs ys =
    ap (filter (nat_le least_wide)) (map-append (λ e. magnitude_of kinds (calc_of entries e)) xs ys)
    ∙ filter-append (nat_le least_wide) (map (λ e. magnitude_of kinds (calc_of entries e)) xs) (map (λ e. magnitude_of kinds (calc_of entries e)) ys)

computed-apart : (kinds : List (List Kind)) (entries : List Entry) (xs ys : List Expr) → wide_computed kinds entries (xs ++ ys) ≡ wide_computed kinds entries xs ++ wide_computed kinds entries ys
computed-apart kinds entries xs ys = ap (wide_exprs kinds entries) (filter-append is_computed xs ys) ∙ exprs-apart kinds entries (filter is_computed xs) (filter is_computed ys)

two_parts : (kinds : List (List Kind)) (entries : List Entry) (e a b p q : Expr) (o : Op) → e ≡ expr.Two o a b → p ≡ a → q ≡ b → wide_computed kinds entries (part_exprs e) ≡ wide_computed kinds entries (part_exprs p) ++ (wide_computed kinds entries (part_exprs q) ++ wide_computed kinds entries (e ∷ []))
two_parts kinds entries e a b p q o is p_is q_is =
    let split : part_exprs (expr.Two o a b) ≡ part_exprs a ++ (part_exprs b ++ expr.Two o a b ∷ []) = rw (Two-is o a b) refl in
    ap (λ es. wide_computed kinds entries es)
    (ap part_exprs is ∙ split
    ∙ ap (λ of. part_exprs of ++ (part_exprs b ++ expr.Two o a b ∷ [])) (sym p_is)
    ∙ ap (λ of. part_exprs p ++ (part_exprs of ++ expr.Two o a b ∷ [])) (sym q_is)
    ∙ ap (λ of. part_exprs p ++ (part_exprs q ++ of ∷ [])) (sym is))
    ∙ computed-apart kinds entries (part_exprs p) (part_exprs q ++ e ∷ [])
    ∙ ap (λ ms. wide_computed kinds entries (part_exprs p) ++ ms) (computed-apart kinds entries (part_exprs q) (e ∷ []))

not_parts : (kinds : List (List Kind)) (entries : List Entry) (e a p : Expr) → e ≡ expr.Not a → p ≡ a → wide_computed kinds entries (part_exprs e) ≡ wide_computed kinds entries (part_exprs p) ++ wide_computed kinds entries (e ∷ [])
not_parts kinds entries e a p is p_is =
    let split : part_exprs (expr.Not a) ≡ part_exprs a ++ expr.Not a ∷ [] = rw (Not-is a) refl in
    ap (λ es. wide_computed kinds entries es)
    (ap part_exprs is ∙ split
    ∙ ap (λ of. part_exprs of ++ expr.Not a ∷ []) (sym p_is)
    ∙ ap (λ of. part_exprs p ++ of ∷ []) (sym is))
    ∙ computed-apart kinds entries (part_exprs p) (e ∷ [])

-- the cause of expressions
abbrev cause : List (List Kind) → List Entry → List Expr → Option SetupError
cause kinds entries es = option_map TooWide (first (wide_computed kinds entries es))

pub left_refused : (kinds : List (List Kind)) (entries : List Entry) (e a b p : Expr) (o : Op) (error : SetupError) → e ≡ expr.Two o a b → p ≡ a → Checks (cause kinds entries (part_exprs p)) (Err error) → Checks (cause kinds entries (part_exprs e)) (Err error)
left_refused kinds entries e a b p o error is p_is checks =
    carried _ _ (Err error) (ap (λ ms. option_map TooWide (first ms)) (two_parts kinds entries e a b p b o is p_is refl))
    (refused-append TooWide (wide_computed kinds entries (part_exprs p)) _ error checks)

pub right_refused : (kinds : List (List Kind)) (entries : List Entry) (e a b p q : Expr) (o : Op) (error : SetupError) → e ≡ expr.Two o a b → p ≡ a → q ≡ b → cause kinds entries (part_exprs p) ≡ None → Checks (cause kinds entries (part_exprs q)) (Err error) → Checks (cause kinds entries (part_exprs e)) (Err error)
right_refused kinds entries e a b p q o error is p_is q_is none checks =
    carried _ _ (Err error) (ap (λ ms. option_map TooWide (first ms)) (two_parts kinds entries e a b p q o is p_is q_is))
    (passed-append TooWide (wide_computed kinds entries (part_exprs p)) _ (Err error) none (refused-append TooWide (wide_computed kinds entries (part_exprs q)) _ error checks))

pub both_passed : (kinds : List (List Kind)) (entries : List Entry) (e a b p q : Expr) (o : Op) (r : Result Unit SetupError) → e ≡ expr.Two o a b → p ≡ a → q ≡ b → cause kinds entries (part_exprs p) ≡ None → cause kinds entries (part_exprs q) ≡ None → Checks (cause kinds entries (e ∷ [])) r → Checks (cause kinds entries (part_exprs e)) r
both_passed kinds entries e a b p q o r is p_is q_is none none_ checks =
    carried _ _ r (ap (λ ms. option_map TooWide (first ms)) (two_parts kinds entries e a b p q o is p_is q_is))
    (passed-append TooWide (wide_computed kinds entries (part_exprs p)) _ r none (passed-append TooWide (wide_computed kinds entries (part_exprs q)) _ r none_ checks))

pub inner_refused : (kinds : List (List Kind)) (entries : List Entry) (e a p : Expr) (error : SetupError) → e ≡ expr.Not a → p ≡ a → Checks (cause kinds entries (part_exprs p)) (Err error) → Checks (cause kinds entries (part_exprs e)) (Err error)
inner_refused kinds entries e a p error is p_is checks =
    carried _ _ (Err error) (ap (λ ms. option_map TooWide (first ms)) (not_parts kinds entries e a p is p_is))
    (refused-append TooWide (wide_computed kinds entries (part_exprs p)) _ error checks)

pub inner_passed : (kinds : List (List Kind)) (entries : List Entry) (e a p : Expr) (r : Result Unit SetupError) → e ≡ expr.Not a → p ≡ a → cause kinds entries (part_exprs p) ≡ None → Checks (cause kinds entries (e ∷ [])) r → Checks (cause kinds entries (part_exprs e)) r
inner_passed kinds entries e a p r is p_is none checks =
    carried _ _ r (ap (λ ms. option_map TooWide (first ms)) (not_parts kinds entries e a p is p_is))
    (passed-append TooWide (wide_computed kinds entries (part_exprs p)) _ r none checks)

-- ---- bare columns that are summed up

pub no_sum_two : (kinds : List (List Kind)) (entries : List Entry) (e a b : Expr) (o : Op) (r : Result Unit SetupError) → e ≡ expr.Two o a b → Checks None r → Checks (option_map TooWide (first (wide_exprs kinds entries (summed_column sum e)))) r
no_sum_two kinds entries e a b o r is checks =
    let none : summed_column sum (expr.Two o a b) ≡ [] = refl in
    carried _ _ r (ap (λ es. option_map TooWide (first (wide_exprs kinds entries es))) (ap (summed_column sum) is ∙ none)) checks

pub no_sum_not : (kinds : List (List Kind)) (entries : List Entry) (e a : Expr) (r : Result Unit SetupError) → e ≡ expr.Not a → Checks None r → Checks (option_map TooWide (first (wide_exprs kinds entries (summed_column sum e)))) r
no_sum_not kinds entries e a r is checks =
    carried _ _ r (ap (λ es. option_map TooWide (first (wide_exprs kinds entries es))) (ap (summed_column sum) (is ∙ Not-is a))) checks

-- ---- wholes

wholes-apart : (kinds : List (List Kind)) (entries : List Entry) (xs ys : List Whole) → wide_wholes kinds entries (xs ++ ys) ≡ wide_wholes kinds entries xs ++ wide_wholes kinds entries ys
wholes-apart kinds entries xs ys =
    let f = λ (whole : Whole). map (λ e. magnitude_of kinds (calc_of entries e)) (bounded_in whole) in
    ap (filter (nat_le least_wide)) (flat_map-append f xs ys) ∙ filter-append (nat_le least_wide) (flat_map f xs) (flat_map f ys)

one_whole : (kinds : List (List Kind)) (entries : List Entry) (whole : Whole) → wide_wholes kinds entries (whole ∷ []) ≡ wide_exprs kinds entries (bounded_in whole)
one_whole kinds entries whole = ap (filter (nat_le least_wide)) (append-nil (map (λ e. magnitude_of kinds (calc_of entries e)) (bounded_in whole)))

pub value_alone : (kinds : List (List Kind)) (entries : List Entry) (e : Expr) → wide_wholes kinds entries (record { expr = e; purpose = value } ∷ []) ≡ wide_computed kinds entries (part_exprs e)
value_alone kinds entries e =
    one_whole kinds entries (record { expr = e; purpose = value })
    ∙ ap (wide_exprs kinds entries) (append-nil (filter is_computed (map (λ (part : Part). part.expr) (parts false e))) ∙ ap (filter is_computed) (exprs_of_parts false e))

pub truth_alone : (kinds : List (List Kind)) (entries : List Entry) (e : Expr) → wide_wholes kinds entries (record { expr = e; purpose = truth } ∷ []) ≡ wide_computed kinds entries (part_exprs e)
truth_alone kinds entries e =
    one_whole kinds entries (record { expr = e; purpose = truth })
    ∙ ap (wide_exprs kinds entries) (append-nil (filter is_computed (map (λ (part : Part). part.expr) (parts true e))) ∙ ap (filter is_computed) (exprs_of_parts true e))

pub sum_alone : (kinds : List (List Kind)) (entries : List Entry) (e : Expr) → wide_wholes kinds entries (record { expr = e; purpose = sum } ∷ []) ≡ wide_computed kinds entries (part_exprs e) ++ wide_exprs kinds entries (summed_column sum e)
sum_alone kinds entries e =
    one_whole kinds entries (record { expr = e; purpose = sum })
    ∙ exprs-apart kinds entries (filter is_computed (map (λ (part : Part). part.expr) (parts false e))) (summed_column sum e)
    ∙ ap (λ es. wide_computed kinds entries es ++ wide_exprs kinds entries (summed_column sum e)) (exprs_of_parts false e)

pub ruleset alone = (value_alone, truth_alone, sum_alone)

wide_items : (kinds : List (List Kind)) (entries : List Entry) (items : List ItemTree) → wide_wholes kinds entries (item_wholes items) ≡ flat_map (λ item. wide_wholes kinds entries (total_wholes item.what)) items
wide_items kinds entries [] = refl
wide_items kinds entries (item ∷ items) =
    wholes-apart kinds entries (total_wholes item.what) (item_wholes items)
    ∙ ap (λ ms. wide_wholes kinds entries (total_wholes item.what) ++ ms) (wide_items kinds entries items)

-- the items of a query and then its filter
pub wide_query : (kinds : List (List Kind)) (entries : List Entry) (query : QueryTree) → wide_wholes kinds entries (query_wholes query) ≡ flat_map (λ item. wide_wholes kinds entries (total_wholes item.what)) query.items ++ wide_wholes kinds entries (filter_wholes query.filter)
wide_query kinds entries query =
    wholes-apart kinds entries (item_wholes query.items) (filter_wholes query.filter)
    ∙ ap (λ ms. ms ++ wide_wholes kinds entries (filter_wholes query.filter)) (wide_items kinds entries query.items)

wide_sets : (kinds : List (List Kind)) (entries : List Entry) (sets : List SetTree) → wide_wholes kinds entries (map (λ s. record { expr = s.value; purpose = value }) sets) ≡ flat_map (λ s. wide_wholes kinds entries (record { expr = s.value; purpose = value } ∷ [])) sets
wide_sets kinds entries [] = refl
wide_sets kinds entries (s ∷ sets) =
    wholes-apart kinds entries (record { expr = s.value; purpose = value } ∷ []) (map (λ (s : SetTree). record { expr = s.value; purpose = value }) sets)
    ∙ ap (λ ms. wide_wholes kinds entries (record { expr = s.value; purpose = value } ∷ []) ++ ms) (wide_sets kinds entries sets)

-- what an update sets, and then its filter
pub wide_update : (kinds : List (List Kind)) (entries : List Entry) (sets : List SetTree) (filter : Option Expr) → wide_wholes kinds entries (update_wholes sets filter) ≡ flat_map (λ s. wide_wholes kinds entries (record { expr = s.value; purpose = value } ∷ [])) sets ++ wide_wholes kinds entries (filter_wholes filter)
wide_update kinds entries sets filter =
    wholes-apart kinds entries (map (λ (s : SetTree). record { expr = s.value; purpose = value }) sets) (filter_wholes filter)
    ∙ ap (λ ms. ms ++ wide_wholes kinds entries (filter_wholes filter)) (wide_sets kinds entries sets)

-- a refusal of the items refuses the query
pub items_refused : (kinds : List (List Kind)) (entries : List Entry) (query : QueryTree) (items : List ItemTree) (error : SetupError) → items ≡ query.items → Checks (option_map TooWide (first (flat_map (λ item. wide_wholes kinds entries (total_wholes item.what)) items))) (Err error) → Checks (option_map TooWide (first (wide_wholes kinds entries (query_wholes query)))) (Err error)
items_refused kinds entries query items error is checks =
    carried _ _ (Err error)
    (ap (λ ms. option_map TooWide (first ms)) (wide_query kinds entries query ∙ ap (λ of. flat_map (λ (item : ItemTree). wide_wholes kinds entries (total_wholes item.what)) of ++ wide_wholes kinds entries (filter_wholes query.filter)) (sym is)))
    (refused-append TooWide (flat_map (λ (item : ItemTree). wide_wholes kinds entries (total_wholes item.what)) items) (wide_wholes kinds entries (filter_wholes query.filter)) error checks)

-- a refusal of what is set refuses the update
pub sets_refused : (kinds : List (List Kind)) (entries : List Entry) (sets : List SetTree) (filter : Option Expr) (error : SetupError) → Checks (option_map TooWide (first (flat_map (λ s. wide_wholes kinds entries (record { expr = s.value; purpose = value } ∷ [])) sets))) (Err error) → Checks (option_map TooWide (first (wide_wholes kinds entries (update_wholes sets filter)))) (Err error)
sets_refused kinds entries sets filter error checks =
    carried _ _ (Err error)
    (ap (λ ms. option_map TooWide (first ms)) (wide_update kinds entries sets filter))
    (refused-append TooWide (flat_map (λ (s : SetTree). wide_wholes kinds entries (record { expr = s.value; purpose = value } ∷ [])) sets) (wide_wholes kinds entries (filter_wholes filter)) error checks)

-- what the kinds of the entries bound
pub of_kinds : (kinds : List (List Kind)) (entries : List Entry) (wholes : List Whole) (r : Result Unit SetupError) → kinds ≡ kinds_of entries → Checks (option_map TooWide (first (wide_wholes kinds entries wholes))) r → Checks (option_map TooWide (first (filter (nat_le least_wide) (magnitudes_in_all entries wholes)))) r
of_kinds kinds entries wholes r is checks = carried _ _ r (ap (λ of. option_map TooWide (first (wide_wholes of entries wholes))) (sym is)) checks

-- an act that asks a query
pub select_checked : (tables : List TableDef) (d : Deed) (query : QueryTree) (scope : Scope) (r : Result Unit SetupError) → d ≡ deed.Select query → scope ≡ outside_rules tables → Checks (option_map TooWide (first (filter (nat_le least_wide) (magnitudes_in_query scope query)))) r → Checks (option_map TooWide (first (filter (nat_le least_wide) (magnitudes_in_deed tables d)))) r
select_checked tables d query scope r is scope_is checks =
    carried _ _ r (ap (λ of. option_map TooWide (first (filter (nat_le least_wide) (magnitudes_in_deed tables of)))) is ∙ ap (λ of. option_map TooWide (first (filter (nat_le least_wide) (magnitudes_in_query of query)))) (sym scope_is)) checks
