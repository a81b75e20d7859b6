-- What the functions that make rules by sums are said to make.
use Rattle.std.specs.Prelude.{ℕ, ◌++◌, List, codes, map}
use Rattle.strip_value.specs.declared.expressions.Calc.{Calc}
use Rattle.strip_value.specs.declared.queries.Item.{Item}
use Rattle.strip_meaning.specs.Maintained.{coming, delta_what, going}
use Rattle.strip_catalog.specs.declared.sums.Sign.{Sign}
use Rattle.strip_catalog.specs.declared.sums.Sign.TheVariants.{Coming, Going}

-- a total as it counts
abbrev pub signed_by : Sign → Calc → Calc
signed_by Coming e = coming e
signed_by Going e = going e

-- the items of a query for one row
abbrev pub delta_items : Sign → List Item → List Item
delta_items sign items = map (λ item. record { name = item.name; what = delta_what (signed_by sign) item.what }) items

-- the name of a bound table
abbrev pub bound_name : List ℕ → List ℕ
bound_name table = codes "delta_" ++ table
