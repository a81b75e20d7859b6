-- How the logic stores a bag.
use Rattle.std.specs.Prelude.{ℤ, List, refl}
use Rattle.std.specs.Coded.{Coded, code_by, coded×, coded_list, coded_ℤ}
use Rattle.strip_value.specs.contracts.rows.Row as row
use Rattle.strip_value.specs.declared.values.Value.{Value}
use Rattle.strip_value.specs.Bag.{Counted}

abbrev pub counted_code : Coded Counted
counted_code =
    code_by (List Value × ℤ) (coded× row.the_row.coded coded_ℤ) (λ c. (c.row, c.count)) (λ p. record { row = p.0; count = p.1 }) (λ _. refl)

abbrev pub bag_code : Coded (List Counted)
bag_code = coded_list counted_code
