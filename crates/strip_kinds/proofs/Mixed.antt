-- Kinds that don't go together, by the parts of an expression.
use Rattle.std.proofs.Common.{◌≡◌, ◌++◌, ℕ, Bool, true, false, List, [], ◌∷◌, map, filter, Option, Some, None, option_map, Result, Err, refl, sym, ap, ◌∙◌, flat_map}
use Rattle.std.specs.Option.{option_or}
use Rattle.std.proofs.lemmas.List.{append-nil, map-append}
use Rattle.std.proofs.lemmas.List.Concat.{flat_map-append}
use Rattle.std.proofs.lemmas.List.Elements.{filter-append}
use Rattle.strip_ast.specs.declared.expressions.Expr.{Expr}
use Rattle.strip_ast.specs.declared.expressions.Expr.TheVariants as expr
use Rattle.strip_ast.specs.declared.expressions.Op.{Op}
use Rattle.strip_ast.specs.declared.expressions.Op.TheVariants as op
use Rattle.strip_value.specs.declared.tables.TableDef.{TableDef}
use Rattle.strip_ast.specs.declared.deeds.Deed.{Deed}
use Rattle.strip_ast.specs.declared.deeds.Deed.TheVariants as deed
use Rattle.strip_ast.specs.declared.deeds.SetTree.{SetTree}
use Rattle.strip_ast.specs.declared.queries.ItemTree.{ItemTree}
use Rattle.strip_ast.specs.declared.queries.QueryTree.{QueryTree}
use Rattle.strip_setup.specs.declared.errors.SetupError.{SetupError}
use Rattle.strip_setup.specs.declared.errors.SetupError.TheVariants.{KindMismatch}
use Rattle.strip_setup.specs.declared.scope.Entry.{Entry}
use Rattle.strip_setup.specs.Catalog.{first}
use Rattle.strip_setup.specs.Checks.{Checks}
use Rattle.strip_kinds.specs.Mismatch.{first_column, is_joined_badly, is_mismatched, is_text, joins_badly, mismatched_in, mismatched_in_all, mismatched_in_deed, mismatched_in_query}
use Rattle.strip_setup.specs.Parts.{class_of, columns_in, filter_wholes, gives_truth, is_truth, item_wholes, joins_truth, Part, parts, query_wholes, sum, total_wholes, truth, update_wholes, value}
use Rattle.strip_kinds.specs.Walks.{mismatched_parts}
use Rattle.strip_setup.specs.Queries.{Scope}
use Rattle.strip_setup.specs.Resolve.{outside_rules}
use Rattle.strip_setup.specs.Trees.{Two-is, Not-is}
use Rattle.strip_setup.proofs.Firsts.{carried, first-append, option_map-or, passed-append, refused-append}

-- ---- texts

two_no_text : (entries : List Entry) (o : Op) (a b : Expr) → is_text entries (expr.Two o a b) ≡ false
two_no_text entries op.Add a b = rw (Two-is op.Add a b) refl
two_no_text entries op.Sub a b = rw (Two-is op.Sub a b) refl
two_no_text entries op.Mul a b = rw (Two-is op.Mul a b) refl
two_no_text entries op.Eq a b = refl
two_no_text entries op.Ne a b = refl
two_no_text entries op.Lt a b = refl
two_no_text entries op.Le a b = refl
two_no_text entries op.Gt a b = refl
two_no_text entries op.Ge a b = refl
two_no_text entries op.And a b = refl
two_no_text entries op.Or a b = refl

-- what is joined is no text
pub text_of_two : (entries : List Entry) (e a b : Expr) (o : Op) → e ≡ expr.Two o a b → false ≡ is_text entries e
text_of_two entries e a b o is = sym (ap (is_text entries) is ∙ two_no_text entries o a b)

-- ---- truth values

pub truth_of_two : (e a b : Expr) (o : Op) (r : Bool) → e ≡ expr.Two o a b → r ≡ gives_truth (class_of o) → r ≡ is_truth e
truth_of_two e a b o r is r_is = r_is ∙ sym (ap is_truth is ∙ rw (Two-is o a b) refl)

pub truth_of_not : (e a : Expr) → e ≡ expr.Not a → true ≡ is_truth e
truth_of_not e a is = sym (ap is_truth (is ∙ Not-is a))

-- ---- what is joined

pub joined_two : (entries : List Entry) (e a b p q : Expr) (o : Op) (s t r : Bool) → e ≡ expr.Two o a b → p ≡ a → q ≡ b → s ≡ is_text entries p → t ≡ is_text entries q → r ≡ joins_badly (class_of o) s t → r ≡ is_joined_badly entries e
joined_two entries e a b p q o s t r is p_is q_is s_is t_is r_is =
    let badly : is_joined_badly entries (expr.Two o a b) ≡ joins_badly (class_of o) (is_text entries a) (is_text entries b) = rw (Two-is o a b) refl in
    r_is
    ∙ ap (λ text. joins_badly (class_of o) text t) (s_is ∙ ap (is_text entries) p_is)
    ∙ ap (λ text. joins_badly (class_of o) (is_text entries a) text) (t_is ∙ ap (is_text entries) q_is)
    ∙ sym (ap (is_joined_badly entries) is ∙ badly)

-- ---- the first column

first_of_two : (o : Op) (a b : Expr) → first_column (expr.Two o a b) ≡ option_or (first_column a) (first_column b)
first_of_two o a b =
    rw (Two-is o a b) (ap (option_map (λ column. column.name)) (first-append (columns_in a) (columns_in b)) ∙ option_map-or (λ column. column.name) (first (columns_in a)) (first (columns_in b)))

-- the left part has it
pub left_has : (e a b p : Expr) (o : Op) (name : List ℕ) → e ≡ expr.Two o a b → p ≡ a → Some name ≡ first_column p → Some name ≡ first_column e
left_has e a b p o name is p_is has =
    sym (ap first_column is ∙ first_of_two o a b ∙ ap (λ column. option_or column (first_column b)) (sym (has ∙ ap first_column p_is)))

-- only the right one may have it
pub right_has : (e a b p q : Expr) (o : Op) (r : Option (List ℕ)) → e ≡ expr.Two o a b → p ≡ a → q ≡ b → None ≡ first_column p → r ≡ first_column q → r ≡ first_column e
right_has e a b p q o r is p_is q_is none has =
    has ∙ ap first_column q_is ∙ sym (ap first_column is ∙ first_of_two o a b ∙ ap (λ column. option_or column (first_column b)) (sym (none ∙ ap first_column p_is)))

pub first_of_not : (a : Expr) → first_column (expr.Not a) ≡ first_column a
first_of_not a = rw (Not-is a) refl

-- ---- the parts of an expression

pub parts_apart : (entries : List Entry) (ps qs : List Part) → mismatched_parts entries (ps ++ qs) ≡ mismatched_parts entries ps ++ mismatched_parts entries qs
parts_apart entries ps qs =
    ap (map (λ (part : Part). first_column part.expr)) (filter-append (is_mismatched entries) ps qs)
    ∙ map-append (λ (part : Part). first_column part.expr) (filter (is_mismatched entries) ps) (filter (is_mismatched entries) qs)

two_parts : (entries : List Entry) (e a b p q : Expr) (o : Op) (wants joins : Bool) → e ≡ expr.Two o a b → p ≡ a → q ≡ b → joins ≡ joins_truth (class_of o) → mismatched_parts entries (parts wants e) ≡ mismatched_parts entries (parts joins p) ++ (mismatched_parts entries (parts joins q) ++ mismatched_parts entries (record { expr = e; wants_truth = wants } ∷ []))
two_parts entries e a b p q o wants joins is p_is q_is j_is =
    let j = joins_truth (class_of o) in
    let whole : List Part = record { expr = expr.Two o a b; wants_truth = wants } ∷ [] in
    let split : parts wants (expr.Two o a b) ≡ parts j a ++ (parts j b ++ whole) = rw (Two-is o a b) refl in
    ap (λ of. mismatched_parts entries (parts wants of)) is
    ∙ ap (mismatched_parts entries) split
    ∙ parts_apart entries (parts j a) (parts j b ++ whole)
    ∙ ap (λ columns. mismatched_parts entries (parts j a) ++ columns) (parts_apart entries (parts j b) whole)
    ∙ ap (λ of. mismatched_parts entries (parts of a) ++ (mismatched_parts entries (parts of b) ++ mismatched_parts entries whole)) (sym j_is)
    ∙ ap (λ of. mismatched_parts entries (parts joins of) ++ (mismatched_parts entries (parts joins b) ++ mismatched_parts entries whole)) (sym p_is)
    ∙ ap (λ of. mismatched_parts entries (parts joins p) ++ (mismatched_parts entries (parts joins of) ++ mismatched_parts entries whole)) (sym q_is)
    ∙ ap (λ of. mismatched_parts entries (parts joins p) ++ (mismatched_parts entries (parts joins q) ++ mismatched_parts entries (record { expr = of; wants_truth = wants } ∷ []))) (sym is)

not_parts : (entries : List Entry) (e a p : Expr) (wants : Bool) → e ≡ expr.Not a → p ≡ a → mismatched_parts entries (parts wants e) ≡ mismatched_parts entries (parts true p) ++ mismatched_parts entries (record { expr = e; wants_truth = wants } ∷ [])
not_parts entries e a p wants is p_is =
    let whole : List Part = record { expr = expr.Not a; wants_truth = wants } ∷ [] in
    let split : parts wants (expr.Not a) ≡ parts true a ++ whole = rw (Not-is a) refl in
    ap (λ of. mismatched_parts entries (parts wants of)) is
    ∙ ap (mismatched_parts entries) split
    ∙ parts_apart entries (parts true a) whole
    ∙ ap (λ of. mismatched_parts entries (parts true of) ++ mismatched_parts entries whole) (sym p_is)
    ∙ ap (λ of. mismatched_parts entries (parts true p) ++ mismatched_parts entries (record { expr = of; wants_truth = wants } ∷ [])) (sym is)

-- the cause of parts
abbrev cause : List Entry → List Part → Option SetupError
cause entries ps = option_map KindMismatch (first (mismatched_parts entries ps))

pub left_refused : (entries : List Entry) (e a b p : Expr) (o : Op) (wants joins : Bool) (error : SetupError) → e ≡ expr.Two o a b → p ≡ a → joins ≡ joins_truth (class_of o) → Checks (cause entries (parts joins p)) (Err error) → Checks (cause entries (parts wants e)) (Err error)
left_refused entries e a b p o wants joins error is p_is j_is checks =
    carried _ _ (Err error) (ap (λ columns. option_map KindMismatch (first columns)) (two_parts entries e a b p b o wants joins is p_is refl j_is))
    (refused-append KindMismatch (mismatched_parts entries (parts joins p)) _ error checks)

pub right_refused : (entries : List Entry) (e a b p q : Expr) (o : Op) (wants joins : Bool) (error : SetupError) → e ≡ expr.Two o a b → p ≡ a → q ≡ b → joins ≡ joins_truth (class_of o) → cause entries (parts joins p) ≡ None → Checks (cause entries (parts joins q)) (Err error) → Checks (cause entries (parts wants e)) (Err error)
right_refused entries e a b p q o wants joins error is p_is q_is j_is none checks =
    carried _ _ (Err error) (ap (λ columns. option_map KindMismatch (first columns)) (two_parts entries e a b p q o wants joins is p_is q_is j_is))
    (passed-append KindMismatch (mismatched_parts entries (parts joins p)) _ (Err error) none (refused-append KindMismatch (mismatched_parts entries (parts joins q)) _ error checks))

pub both_passed : (entries : List Entry) (e a b p q : Expr) (o : Op) (wants joins : Bool) (r : Result Unit SetupError) → e ≡ expr.Two o a b → p ≡ a → q ≡ b → joins ≡ joins_truth (class_of o) → cause entries (parts joins p) ≡ None → cause entries (parts joins q) ≡ None → Checks (cause entries (record { expr = e; wants_truth = wants } ∷ [])) r → Checks (cause entries (parts wants e)) r
both_passed entries e a b p q o wants joins r is p_is q_is j_is none none_ checks =
    carried _ _ r (ap (λ columns. option_map KindMismatch (first columns)) (two_parts entries e a b p q o wants joins is p_is q_is j_is))
    (passed-append KindMismatch (mismatched_parts entries (parts joins p)) _ r none (passed-append KindMismatch (mismatched_parts entries (parts joins q)) _ r none_ checks))

pub inner_refused : (entries : List Entry) (e a p : Expr) (wants : Bool) (error : SetupError) → e ≡ expr.Not a → p ≡ a → Checks (cause entries (parts true p)) (Err error) → Checks (cause entries (parts wants e)) (Err error)
inner_refused entries e a p wants error is p_is checks =
    carried _ _ (Err error) (ap (λ columns. option_map KindMismatch (first columns)) (not_parts entries e a p wants is p_is))
    (refused-append KindMismatch (mismatched_parts entries (parts true p)) _ error checks)

pub inner_passed : (entries : List Entry) (e a p : Expr) (wants : Bool) (r : Result Unit SetupError) → e ≡ expr.Not a → p ≡ a → cause entries (parts true p) ≡ None → Checks (cause entries (record { expr = e; wants_truth = wants } ∷ [])) r → Checks (cause entries (parts wants e)) r
inner_passed entries e a p wants r is p_is none checks =
    carried _ _ r (ap (λ columns. option_map KindMismatch (first columns)) (not_parts entries e a p wants is p_is))
    (passed-append KindMismatch (mismatched_parts entries (parts true p)) _ r none checks)

-- ---- wholes

pub value_alone : (entries : List Entry) (e : Expr) → mismatched_in_all entries (record { expr = e; purpose = value } ∷ []) ≡ mismatched_parts entries (parts false e)
value_alone entries e = append-nil (mismatched_parts entries (parts false e) ++ []) ∙ append-nil (mismatched_parts entries (parts false e))

pub truth_alone : (entries : List Entry) (e : Expr) → mismatched_in_all entries (record { expr = e; purpose = truth } ∷ []) ≡ mismatched_parts entries (parts true e)
truth_alone entries e = append-nil (mismatched_parts entries (parts true e) ++ []) ∙ append-nil (mismatched_parts entries (parts true e))

pub sum_alone : (entries : List Entry) (e : Expr) → mismatched_in_all entries (record { expr = e; purpose = sum } ∷ []) ≡ mismatched_parts entries (parts false e) ++ map first_column (filter (is_text entries) (e ∷ []))
sum_alone entries e = append-nil (mismatched_parts entries (parts false e) ++ map first_column (filter (is_text entries) (e ∷ [])))

pub ruleset alone = (value_alone, truth_alone, sum_alone)

mismatched_items : (entries : List Entry) (items : List ItemTree) → mismatched_in_all entries (item_wholes items) ≡ flat_map (λ item. mismatched_in_all entries (total_wholes item.what)) items
mismatched_items entries [] = refl
mismatched_items entries (item ∷ items) =
    flat_map-append (mismatched_in entries) (total_wholes item.what) (item_wholes items)
    ∙ ap (λ columns. mismatched_in_all entries (total_wholes item.what) ++ columns) (mismatched_items entries items)

-- the items of a query and then its filter
pub mismatched_wholes : (entries : List Entry) (query : QueryTree) → mismatched_in_all entries (query_wholes query) ≡ flat_map (λ item. mismatched_in_all entries (total_wholes item.what)) query.items ++ mismatched_in_all entries (filter_wholes query.filter)
mismatched_wholes entries query =
    flat_map-append (mismatched_in entries) (item_wholes query.items) (filter_wholes query.filter)
    ∙ ap (λ columns. columns ++ mismatched_in_all entries (filter_wholes query.filter)) (mismatched_items entries query.items)

-- what an update sets, and then its filter
mismatched_sets : (entries : List Entry) (sets : List SetTree) → mismatched_in_all entries (map (λ s. record { expr = s.value; purpose = value }) sets) ≡ flat_map (λ s. mismatched_in_all entries (record { expr = s.value; purpose = value } ∷ [])) sets
mismatched_sets entries [] = refl
mismatched_sets entries (s ∷ sets) =
    ap (λ columns. mismatched_in entries (record { expr = s.value; purpose = value }) ++ columns) (mismatched_sets entries sets)
    ∙ ap (λ columns. columns ++ flat_map (λ (s : SetTree). mismatched_in_all entries (record { expr = s.value; purpose = value } ∷ [])) sets) (sym (append-nil (mismatched_in entries (record { expr = s.value; purpose = value }))))

pub mismatched_update : (entries : List Entry) (sets : List SetTree) (filter : Option Expr) → mismatched_in_all entries (update_wholes sets filter) ≡ flat_map (λ s. mismatched_in_all entries (record { expr = s.value; purpose = value } ∷ [])) sets ++ mismatched_in_all entries (filter_wholes filter)
mismatched_update entries sets filter =
    flat_map-append (mismatched_in entries) (map (λ (s : SetTree). record { expr = s.value; purpose = value }) sets) (filter_wholes filter)
    ∙ ap (λ columns. columns ++ mismatched_in_all entries (filter_wholes filter)) (mismatched_sets entries sets)

-- a refusal of the items refuses the query
pub items_refused : (entries : List Entry) (query : QueryTree) (items : List ItemTree) (error : SetupError) → items ≡ query.items → Checks (option_map KindMismatch (first (flat_map (λ item. mismatched_in_all entries (total_wholes item.what)) items))) (Err error) → Checks (option_map KindMismatch (first (mismatched_in_all entries (query_wholes query)))) (Err error)
items_refused entries query items error is checks =
    carried _ _ (Err error)
    (ap (λ columns. option_map KindMismatch (first columns)) (mismatched_wholes entries query ∙ ap (λ of. flat_map (λ (item : ItemTree). mismatched_in_all entries (total_wholes item.what)) of ++ mismatched_in_all entries (filter_wholes query.filter)) (sym is)))
    (refused-append KindMismatch (flat_map (λ (item : ItemTree). mismatched_in_all entries (total_wholes item.what)) items) (mismatched_in_all entries (filter_wholes query.filter)) error checks)

-- a refusal of what is set refuses the update
pub sets_refused : (entries : List Entry) (sets : List SetTree) (filter : Option Expr) (error : SetupError) → Checks (option_map KindMismatch (first (flat_map (λ s. mismatched_in_all entries (record { expr = s.value; purpose = value } ∷ [])) sets))) (Err error) → Checks (option_map KindMismatch (first (mismatched_in_all entries (update_wholes sets filter)))) (Err error)
sets_refused entries sets filter error checks =
    carried _ _ (Err error)
    (ap (λ columns. option_map KindMismatch (first columns)) (mismatched_update entries sets filter))
    (refused-append KindMismatch (flat_map (λ (s : SetTree). mismatched_in_all entries (record { expr = s.value; purpose = value } ∷ [])) sets) (mismatched_in_all entries (filter_wholes filter)) error checks)

-- an act that asks a query
pub select_checked : (tables : List TableDef) (d : Deed) (query : QueryTree) (scope : Scope) (r : Result Unit SetupError) → d ≡ deed.Select query → scope ≡ outside_rules tables → Checks (option_map KindMismatch (first (mismatched_in_query scope query))) r → Checks (option_map KindMismatch (first (mismatched_in_deed tables d))) r
select_checked tables d query scope r is scope_is checks =
    carried _ _ r (ap (λ of. option_map KindMismatch (first (mismatched_in_deed tables of))) is ∙ ap (λ of. option_map KindMismatch (first (mismatched_in_query of query))) (sym scope_is)) checks
