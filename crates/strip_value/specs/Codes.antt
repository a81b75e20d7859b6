-- How the logic stores a table.
use Rattle.std.specs.Prelude.{List, refl}
use Rattle.std.specs.Coded.{Coded, code_by, coded×, coded_list}
use Rattle.strip_value.specs.contracts.rows.Row as row
use Rattle.strip_value.specs.contracts.tables.TableDef as table_def
use Rattle.strip_value.specs.declared.tables.TableDef.{TableDef}
use Rattle.strip_value.specs.declared.values.Value.{Value}
use Rattle.strip_value.specs.Table.{Keyed}

abbrev pub keyed_code : Coded Keyed
keyed_code =
    code_by (TableDef × List (List Value)) (coded× table_def.the_row.coded (coded_list row.the_row.coded)) (λ t. (t.def, t.rows)) (λ p. record { def = p.0; rows = p.1 }) (λ _. refl)
