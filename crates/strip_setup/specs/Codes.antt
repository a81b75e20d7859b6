-- How the logic stores a scope and a catalog.
use Rattle.std.specs.Prelude.{List, Bool, Option, refl}
use Rattle.std.specs.Coded.{Coded, code_by, coded×, coded_list, coded_option, coded_bool}
use Rattle.strip_value.specs.contracts.rules.Function as function
use Rattle.strip_value.specs.contracts.rules.Rule as rule
use Rattle.strip_value.specs.contracts.streams.Stream as stream
use Rattle.strip_value.specs.contracts.tables.ColumnDef as column
use Rattle.strip_value.specs.contracts.tables.TableDef as table
use Rattle.strip_value.specs.declared.rules.Function.{Function}
use Rattle.strip_value.specs.declared.rules.Rule.{Rule}
use Rattle.strip_value.specs.declared.streams.Stream.{Stream}
use Rattle.strip_value.specs.declared.tables.ColumnDef.{ColumnDef}
use Rattle.strip_value.specs.declared.tables.TableDef.{TableDef}
use Rattle.strip_setup.specs.Catalog.{Catalog}
use Rattle.strip_setup.specs.Queries.{Scope}

abbrev pub scope_code : Coded Scope
scope_code =
    code_by (List TableDef × Option (List ColumnDef)) (coded× (coded_list table.the_row.coded) (coded_option (coded_list column.the_row.coded))) (λ s. (s.tables, s.changed)) (λ p. record { tables = p.0; changed = p.1 }) (λ _. refl)

abbrev pub catalog_code : Coded Catalog
catalog_code =
    code_by (List TableDef × (List Stream × (List Function × (List Rule × Bool)))) (coded× (coded_list table.the_row.coded) (coded× (coded_list stream.the_row.coded) (coded× (coded_list function.the_row.coded) (coded× (coded_list rule.the_row.coded) coded_bool)))) (λ c. (c.tables, (c.streams, (c.functions, (c.rules, c.closed))))) (λ p. record { tables = p.0; streams = p.1.0; functions = p.1.1.0; rules = p.1.1.1.0; closed = p.1.1.1.1 }) (λ _. refl)
