-- How the logic stores what queries read.
use Rattle.std.specs.Prelude.{List, refl}
use Rattle.std.specs.Coded.{Coded, code_by, coded×, coded_list}
use Rattle.strip_value.specs.contracts.changes.Moved as moved
use Rattle.strip_value.specs.declared.changes.Moved.{Moved}
use Rattle.strip_value.specs.Codes.{keyed_code}
use Rattle.strip_value.specs.Query.{Environment}
use Rattle.strip_value.specs.Table.{Keyed}

abbrev pub environment_code : Coded Environment
environment_code =
    code_by (List Keyed × (List Keyed × Moved)) (coded× (coded_list keyed_code) (coded× (coded_list keyed_code) moved.the_row.coded)) (λ e. (e.now, (e.before, e.moved)))
    (λ p. record { now = p.0; before = p.1.0; moved = p.1.1 }) (λ _. refl)
