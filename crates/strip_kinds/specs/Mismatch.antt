-- Kinds that don't go together.
use Rattle.std.specs.Prelude.{ℕ, Bool, true, false, not, ◌||◌, if◌then◌else◌, List, [], ◌∷◌, ◌++◌, map, Option, Some, None, option_map, unwrap_or, flat_map, filter_map, filter}
use Rattle.std.specs.List.{list_all}
use Rattle.strip_value.specs.declared.kinds.Kind.{Kind}
use Rattle.strip_value.specs.declared.kinds.Kind.TheVariants as kind
use Rattle.strip_value.specs.declared.tables.TableDef.{TableDef}
use Rattle.strip_value.specs.Bounds.{kind_of}
use Rattle.strip_ast.specs.declared.deeds.Deed.{Deed}
use Rattle.strip_ast.specs.declared.deeds.Deed.TheVariants as deed
use Rattle.strip_ast.specs.declared.expressions.Expr.{Expr}
use Rattle.strip_ast.specs.declared.queries.QueryTree.{QueryTree}
use Rattle.strip_ast.specs.declared.statements.Statement.{Statement}
use Rattle.strip_ast.specs.declared.statements.Statement.TheVariants as st
use Rattle.strip_setup.specs.declared.errors.SetupError.{SetupError}
use Rattle.strip_setup.specs.declared.errors.SetupError.TheVariants.{KindMismatch}
use Rattle.strip_setup.specs.Catalog.{Catalog, first}
use Rattle.strip_setup.specs.declared.answers.Answer.{Answer}
use Rattle.strip_setup.specs.declared.answers.Binding.{Binding}
use Rattle.strip_kinds.specs.declared.needs.Fit.{Fit}
use Rattle.strip_kinds.specs.declared.needs.Need.{Need}
use Rattle.strip_setup.specs.declared.scope.Entry.{Entry}
use Rattle.strip_kinds.specs.Needs.{fits_of, answer_named}
use Rattle.strip_setup.specs.Parts.{OpClass, arithmetic, comparison, connective, class_of, columns_in, is_truth, Part, Purpose, sum, Whole, parts_of, filter_wholes, query_wholes, update_wholes}
use Rattle.strip_setup.specs.Queries.{Scope, calc_of, entries_of, own_entry, kinds_of}
use Rattle.strip_setup.specs.Resolve.{outside_rules, in_rule, bindings_of, function_at}
use Rattle.strip_setup.specs.Trees.{Two}

-- the two kinds are one
abbrev pub same_kind : Kind → Kind → Bool
same_kind kind.Int kind.Int = true
same_kind kind.Big kind.Big = true
same_kind kind.Text kind.Text = true
same_kind _ _ = false

-- the kind of texts
abbrev pub is_text_kind : Kind → Bool
is_text_kind k = same_kind k kind.Text

-- one of the two alone is true
abbrev pub differ : Bool → Bool → Bool
differ true b = not b
differ false b = b

-- the expression's value is a text
abbrev pub is_text : List Entry → Expr → Bool
is_text entries e = is_text_kind (kind_of (kinds_of entries) (calc_of entries e))

-- what an operator joins doesn't go together: a text in arithmetic, or a number and a text that are compared
abbrev pub joins_badly : OpClass → Bool → Bool → Bool
joins_badly arithmetic a_is_text b_is_text = a_is_text || b_is_text
joins_badly comparison a_is_text b_is_text = differ a_is_text b_is_text
joins_badly connective a_is_text b_is_text = false

-- what the expression joins doesn't go together
abbrev pub is_joined_badly : List Entry → Expr → Bool
is_joined_badly entries (Two o a b) = joins_badly (class_of o) (is_text entries a) (is_text entries b)
is_joined_badly entries _ = false

-- the part is a truth value where a value is wanted, or the reverse, or what it joins doesn't go together
abbrev pub is_mismatched : List Entry → Part → Bool
is_mismatched entries part = differ (is_truth part.expr) part.wants_truth || is_joined_badly entries part.expr

-- the name of the first column in an expression
abbrev pub first_column : Expr → Option (List ℕ)
first_column e = option_map (λ column. column.name) (first (columns_in e))

-- what is summed up, if it is a text
abbrev pub summed_text : List Entry → Purpose → Expr → List Expr
summed_text entries sum e = filter (is_text entries) (e ∷ [])
summed_text entries _ e = []

-- the first columns of the parts of an expression that are mismatched
abbrev pub mismatched_in : List Entry → Whole → List (Option (List ℕ))
mismatched_in entries whole =
    map (λ part. first_column part.expr) (filter (is_mismatched entries) (parts_of whole))
    ++ map first_column (summed_text entries whole.purpose whole.expr)

-- the same of several expressions
abbrev pub mismatched_in_all : List Entry → List Whole → List (Option (List ℕ))
mismatched_in_all entries wholes = flat_map (mismatched_in entries) wholes

-- the same of a query
abbrev pub mismatched_in_query : Scope → QueryTree → List (Option (List ℕ))
mismatched_in_query scope query = mismatched_in_all (entries_of scope query) (query_wholes query)

-- a bound column has another kind than the key column, or is a text for a total
abbrev pub has_other_kind : Need → Option Answer → Bool
has_other_kind need None = false
has_other_kind need (Some answer) = if need.is_added then is_text_kind answer.kind else not (same_kind answer.kind need.column.kind)

-- the bound columns that steps can't use
abbrev pub mismatched_in_steps : List Fit → List (Option (List ℕ))
mismatched_in_steps fits = map (λ fit. Some fit.need.column.name) (filter (λ fit. has_other_kind fit.need fit.given) fits)

-- the kinds are not all one
abbrev pub are_mixed : List Kind → Bool
are_mixed [] = false
are_mixed (k ∷ kinds) = not (list_all (same_kind k) kinds)

-- the kinds of the bound columns of a name
abbrev pub kinds_bound : List Binding → List ℕ → List Kind
kinds_bound bindings name = filter_map (λ binding. option_map (λ (answer : Answer). answer.kind) (answer_named binding name)) bindings

-- the names of `unique on` that are bound with two kinds
abbrev pub mismatched_in_unique : List Binding → List (List ℕ) → List (Option (List ℕ))
mismatched_in_unique bindings names = map Some (filter (λ name. are_mixed (kinds_bound bindings name)) names)

-- the mismatches in an act
abbrev pub mismatched_in_deed : List TableDef → Deed → List (Option (List ℕ))
mismatched_in_deed tables (deed.Update table sets filter) = mismatched_in_all (own_entry tables table) (update_wholes sets filter)
mismatched_in_deed tables (deed.Delete table filter) = mismatched_in_all (own_entry tables table) (filter_wholes filter)
mismatched_in_deed tables (deed.Select query) = mismatched_in_query (outside_rules tables) query
mismatched_in_deed tables _ = []

-- the mismatches in a statement, each by the first column in what is mismatched
abbrev pub mismatched : Catalog → Statement → List (Option (List ℕ))
mismatched catalog (st.Derive name query) = mismatched_in_query (outside_rules catalog.tables) query
mismatched catalog (st.Rule name table events conditions evaluate function manner) =
    let scope = in_rule catalog.tables table in
    let bindings = bindings_of scope (conditions ++ evaluate) in
    flat_map (λ bound. mismatched_in_query scope bound.query) (conditions ++ evaluate)
    ++ (mismatched_in_steps (fits_of catalog.tables (function_at catalog function) bindings)
    ++ mismatched_in_unique bindings (unwrap_or manner.unique []))
mismatched catalog (st.Deed caller d) = mismatched_in_deed catalog.tables d
mismatched catalog _ = []

-- the first mismatch
abbrev pub kind_mismatch : Catalog → Statement → Option SetupError
kind_mismatch catalog statement = option_map KindMismatch (first (mismatched catalog statement))
