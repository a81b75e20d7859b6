-- What is made of derived tables that are to be kept.
use Rattle.std.specs.Prelude.{◌≡◌, ℕ, true, List, ◌∷◌, length, slice_get}
use Rattle.strip_value.specs.declared.rules.Function.{Function}
use Rattle.strip_value.specs.declared.rules.Step.{Step}
use Rattle.strip_value.specs.declared.rules.Step.TheVariants as step
use Rattle.strip_value.specs.declared.tables.By.{By}
use Rattle.strip_value.specs.declared.tables.By.TheVariants as by
use Rattle.strip_ast.specs.declared.statements.Statement.{Statement}
use Rattle.strip_ast.specs.declared.statements.Statement.TheVariants as st
use Rattle.strip_meaning.specs.Contents.{def_at}
use Rattle.strip_meaning.specs.Maintained.{Manner}
use Rattle.strip_setup.specs.Catalog.{Catalog, is_derived}
use Rattle.strip_setup.specs.Maintain.{made_function, made_rule}
use Rattle.strip_catalog.specs.declared.made.Made.{Made}

-- what keeps the derived table of a number so, in this manner
abbrev pub generated : Catalog → By → Manner → ℕ → Made
generated catalog how manner table = record {
  function = made_function how (def_at catalog.tables table) table;
  rule = made_rule how (def_at catalog.tables table) (length catalog.functions) manner;
  table = table;
}

-- a function whose first step computes rows anew keeps its table by keys, any other by sums
abbrev pub how_of_steps : List Step → By
how_of_steps (step.Redo table bound ∷ steps) = by.Key
how_of_steps _ = by.Sum

abbrev pub how_of : Function → By
how_of function = how_of_steps function.steps

-- it is what is generated for a derived table
pub record IsMade (catalog : Catalog) (made : Made) : Type 0 where
  pub derived : is_derived (slice_get catalog.tables made.table) ≡ true
  pub is : made ≡ generated catalog (how_of made.function) (record { unique = made.rule.unique; after = made.rule.after }) made.table

-- the `maintain` statement that it is made of
abbrev pub statement_of : Catalog → Made → Statement
statement_of catalog made =
    st.Maintain (def_at catalog.tables made.table).name (how_of made.function) (record { unique = made.rule.unique; after = made.rule.after })
