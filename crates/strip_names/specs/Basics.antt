-- Setup that is over, tables without a key, and derived tables where only base tables may stand.
use Rattle.std.specs.Prelude.{ℕ, List, [], ◌∷◌, ◌++◌, Option, None, option_map, flat_map, filter}
use Rattle.strip_ast.specs.declared.statements.Statement.{Statement}
use Rattle.strip_ast.specs.declared.statements.Statement.TheVariants as st
use Rattle.strip_setup.specs.declared.errors.SetupError.{SetupError}
use Rattle.strip_setup.specs.declared.errors.SetupError.TheVariants.{Closed, NoKey, ReadsDerived}
use Rattle.strip_setup.specs.Catalog.{Catalog, refused_if, first, is_empty, table_named, is_derived}
use Rattle.strip_setup.specs.Parts.{names_read}

-- setup is over, and the statement belongs to setup
abbrev pub closed : Catalog → Statement → Option SetupError
closed catalog (st.At moment) = None
closed catalog (st.Deed caller deed) = None
closed catalog statement = refused_if catalog.closed Closed

-- a table without a key
abbrev pub no_key : Statement → Option SetupError
no_key (st.Table name columns key limit) = refused_if (is_empty key) NoKey
no_key _ = None

-- the tables that a statement names where only base tables may stand
abbrev pub base_names : Statement → List (List ℕ)
base_names (st.Stream name table marked) = table ∷ []
base_names (st.Derive name query) = names_read query
base_names (st.Rule name table events conditions evaluate function manner) = table ∷ flat_map (λ bound. names_read bound.query) (conditions ++ evaluate)
base_names _ = []

-- the first of them that is a derived table
abbrev pub reads_derived : Catalog → Statement → Option SetupError
reads_derived catalog statement =
    option_map ReadsDerived (first (filter (λ name. is_derived (table_named catalog.tables name)) (base_names statement)))
