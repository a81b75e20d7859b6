-- Which statements are built, and which belong behind the setup.
use Rattle.std.specs.Prelude.{◌==◌, Bool, true, false, ◌&&◌, List, None, is_none, is_some}
use Rattle.std.specs.Option.{option_map_or}
use Rattle.strip_value.specs.declared.tables.TableDef.{TableDef}
use Rattle.strip_value.specs.declared.values.Value.{Value}
use Rattle.strip_value.specs.declared.tables.By.TheVariants as by
use Rattle.strip_ast.specs.declared.deeds.Deed.{Deed}
use Rattle.strip_ast.specs.declared.deeds.Deed.TheVariants as deed
use Rattle.strip_ast.specs.declared.rules.Manner.{Manner}
use Rattle.strip_ast.specs.declared.statements.Statement.{Statement}
use Rattle.strip_ast.specs.declared.statements.Statement.TheVariants as st
use Rattle.strip_setup.specs.Catalog.{Catalog, table_number}
use Rattle.strip_meaning.specs.Contents.{def_at}
use Rattle.strip_meaning.specs.Effect.{misfit}
use Rattle.strip_catalog.specs.First.{first_made}

-- the row may be put into a table: that isn't made by a query, and the row has its columns
abbrev pub takes_row : List Value → TableDef → Bool
takes_row row def = is_none def.query && is_none (misfit def.columns row)

-- puts of a row that fits a base table, queries, shows, starts and finishes are built
abbrev pub is_built_deed : Catalog → Deed → Bool
is_built_deed catalog (deed.Put table row) =
    option_map_or (λ id. takes_row row (def_at catalog.tables id)) (table_number catalog.tables table) false
is_built_deed catalog (deed.Select query) = true
is_built_deed catalog (deed.Show table) = true
is_built_deed catalog deed.Start = true
is_built_deed catalog (deed.Finish number) = true
is_built_deed catalog _ = false

-- each commit makes an action of its own, due at once
abbrev pub is_at_once : Manner → Bool
is_at_once manner = is_none manner.unique && manner.after == 0

-- built are tables, streams and derived tables, the end of the setup, that a table of the first form is kept by sums, and of what is
-- asked without the name of a caller those deeds
abbrev pub is_built : Catalog → Statement → Bool
is_built catalog (st.Table name columns key limit) = true
is_built catalog (st.Stream name table marked) = true
is_built catalog (st.Derive name query) = true
is_built catalog (st.Maintain name by.Sum manner) = is_at_once manner && is_some (first_made catalog name)
is_built catalog st.Ready = true
is_built catalog (st.Deed None d) = is_built_deed catalog d
is_built catalog _ = false

-- the statement belongs behind the setup: what a caller asks for, and a moment
abbrev pub is_late : Statement → Bool
is_late (st.At moment) = true
is_late (st.Deed caller d) = true
is_late _ = false
