-- What is made of a derived table that is kept by sums.
use Rattle.std.proofs.Common.{◌≡◌, ℕ, pos, true, List, slice_get, refl, sym, subst}
use Rattle.strip_value.specs.declared.expressions.Calc.{Calc}
use Rattle.strip_value.specs.declared.expressions.Calc.TheVariants as calc
use Rattle.strip_value.specs.declared.tables.By.TheVariants as by
use Rattle.strip_value.specs.declared.tables.TableDef.{TableDef}
use Rattle.strip_value.specs.Trees.{Add-is, Sub-is}
use Rattle.strip_setup.specs.Catalog.{Catalog, is_derived}
use Rattle.strip_catalog.specs.declared.made.Made.{Made}
use Rattle.strip_catalog.specs.declared.sums.Sign.{Sign}
use Rattle.strip_catalog.specs.declared.sums.Sign.TheVariants.{Coming, Going}
use Rattle.strip_catalog.specs.First.{at_once}
use Rattle.strip_catalog.specs.Made.{IsMade, generated}
use Rattle.strip_catalog.specs.Sums.{signed_by}

-- a total as it comes or goes
pub signed_add : (sign : Sign) (zero given e : Calc) → sign ≡ Coming → zero ≡ calc.Number (pos 0) → given ≡ e → calc.Add zero given ≡ signed_by sign e
signed_add sign zero given e is zero_is given_is = rw (is, zero_is, given_is, Add-is (calc.Number (pos 0)) e) refl

pub signed_sub : (sign : Sign) (zero given e : Calc) → sign ≡ Going → zero ≡ calc.Number (pos 0) → given ≡ e → calc.Sub zero given ≡ signed_by sign e
signed_sub sign zero given e is zero_is given_is = rw (is, zero_is, given_is, Sub-is (calc.Number (pos 0)) e) refl

-- what is generated for a derived table is made of it
pub sums_made : (catalog : Catalog) (tables : List TableDef) (made : Made) (id : ℕ) → tables ≡ catalog.tables → made ≡ generated catalog by.Sum at_once id → is_derived (slice_get tables id) ≡ true → IsMade catalog made
sums_made catalog tables made id tables_are is derived =
    subst (IsMade catalog) (sym is) (record { derived = subst (λ (ts : List TableDef). is_derived (slice_get ts id) ≡ true) tables_are derived; is = refl })
