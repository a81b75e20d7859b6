-- Whether a statement is refused, and why: the first cause that applies.
use Rattle.std.specs.Prelude.{ℕ, Bool, true, false, not, List, [], ◌∷◌, ◌++◌, length, Option, Some, None, is_some, option_map, unwrap_or}
use Rattle.std.specs.List.{list_any}
use Rattle.std.specs.Option.{option_or}
use Rattle.strip_value.specs.declared.queries.What.{What}
use Rattle.strip_value.specs.declared.queries.What.TheVariants as what
use Rattle.strip_value.specs.declared.tables.By.{By}
use Rattle.strip_value.specs.declared.tables.By.TheVariants as by
use Rattle.strip_value.specs.declared.tables.ColumnDef.{ColumnDef}
use Rattle.strip_value.specs.declared.tables.TableDef.{TableDef}
use Rattle.strip_ast.specs.declared.rules.Manner.{Manner}
use Rattle.strip_ast.specs.declared.statements.Statement.{Statement}
use Rattle.strip_ast.specs.declared.statements.Statement.TheVariants as st
use Rattle.strip_meaning.specs.Contents.{key_columns}
use Rattle.strip_setup.specs.declared.errors.LimitKind.TheVariants as limit_kind
use Rattle.strip_setup.specs.declared.errors.SetupError.{SetupError}
use Rattle.strip_setup.specs.declared.errors.SetupError.TheVariants.{Closed, Exists, NoCount, NotBound, Unknown}
use Rattle.strip_setup.specs.Catalog.{Catalog, first, function_named, name_if, refused_if, repeated, rule_named, table_named}
use Rattle.strip_setup.specs.Maintain.{function_name, query_in, rule_name}
use Rattle.strip_kinds.specs.Bound.{not_bound, bound_differs}
use Rattle.strip_names.specs.Exists.{exists}
use Rattle.strip_names.specs.Grouped.{not_grouped}
use Rattle.strip_names.specs.Limits.{limit, more_than, most_delay, most_functions, most_rules, one_more_than}
use Rattle.strip_kinds.specs.Mismatch.{kind_mismatch}
use Rattle.strip_names.specs.Unknown.{missing, names_of, unknown, unknown_derived}
use Rattle.strip_kinds.specs.Width.{too_wide}
use Rattle.strip_names.specs.Basics.{closed, no_key, reads_derived}

-- the first cause that is there
abbrev pub first_cause : List (Option SetupError) → Option SetupError
first_cause [] = None
first_cause (cause ∷ causes) = option_or cause (first_cause causes)

-- ---- a derived table is to be kept

-- some step keeps the table
abbrev pub is_kept : Option TableDef → Bool
is_kept None = false
is_kept (Some table) = is_some table.kept

-- the names that are taken: those of the function and the rule that are made, the table's where a step keeps it, and columns
-- of `unique on` that stand twice
abbrev pub taken_by_maintain : Catalog → List ℕ → List (List ℕ) → List (List ℕ)
taken_by_maintain catalog name unique =
    name_if (is_some (function_named catalog.functions (function_name name))) (function_name name)
    ++ (name_if (is_some (rule_named catalog.rules (rule_name name))) (rule_name name)
    ++ (name_if (is_kept (table_named catalog.tables name)) name ++ repeated unique))

-- the limits that are passed
abbrev pub limits_of_maintain : Catalog → ℕ → List SetupError
limits_of_maintain catalog after =
    one_more_than most_functions limit_kind.Functions (length catalog.functions)
    ++ (one_more_than most_rules limit_kind.Rules (length catalog.rules) ++ more_than most_delay limit_kind.Delay after)

-- the item is a count
abbrev pub is_count : What → Bool
is_count what.Count = true
is_count _ = false

-- the table has no count, and is to be kept by sums
abbrev pub lacks_count : By → Option TableDef → Bool
lacks_count by.Sum (Some table) = not (list_any (λ item. is_count item.what) (query_in table).items)
lacks_count _ _ = false

-- the columns that the made rule binds
abbrev pub columns_made : By → Option TableDef → List ColumnDef
columns_made how None = []
columns_made by.Sum (Some table) = table.columns
columns_made by.Key (Some table) = key_columns table

-- all causes of a `maintain` statement in their order, each with the first place where it applies
abbrev pub causes_of_maintain : Catalog → List ℕ → By → Manner → List (Option SetupError)
causes_of_maintain catalog name how manner =
    let unique = unwrap_or manner.unique [] in
    let table = table_named catalog.tables name in
    refused_if catalog.closed Closed
    ∷ option_map Exists (first (taken_by_maintain catalog name unique))
    ∷ option_map Unknown (first (unknown_derived catalog.tables name))
    ∷ first (limits_of_maintain catalog manner.after)
    ∷ refused_if (lacks_count how table) NoCount
    ∷ option_map NotBound (first (missing (names_of (columns_made how table)) unique))
    ∷ []

-- ---- statements

-- the causes of any other statement in their order
abbrev pub causes_of_others : Catalog → Statement → List (Option SetupError)
causes_of_others catalog statement =
    closed catalog statement
    ∷ exists catalog statement
    ∷ unknown catalog statement
    ∷ limit catalog statement
    ∷ kind_mismatch catalog statement
    ∷ too_wide catalog statement
    ∷ no_key statement
    ∷ reads_derived catalog statement
    ∷ not_bound catalog statement
    ∷ bound_differs catalog statement
    ∷ not_grouped catalog statement
    ∷ []

-- all causes in their order, each with the first place where it applies
abbrev pub causes : Catalog → Statement → List (Option SetupError)
causes catalog (st.Maintain name how manner) = causes_of_maintain catalog name how manner
causes catalog statement = causes_of_others catalog statement

-- why a statement is refused: the first cause that applies
unfoldable pub refusal : Catalog → Statement → Option SetupError
refusal catalog statement = first_cause (causes catalog statement)
