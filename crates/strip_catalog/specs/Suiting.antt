-- Which acts suit a catalog, and the deeds that stand for them.
use Rattle.std.specs.Prelude.{◌≡◌, Bool, true, false, Ok}
use Rattle.strip_value.specs.declared.acts.Act.{Act}
use Rattle.strip_ast.specs.declared.deeds.Deed.{Deed}
use Rattle.strip_acts.specs.Writable.{is_written}
use Rattle.strip_setup.specs.Catalog.{Catalog}
use Rattle.strip_catalog.specs.Calls.{Resolves}

-- the deed has a text, isn't refused, and its names stand for the act
abbrev pub StandsFor : Catalog → Deed → Act → Type 0
StandsFor catalog d one = (is_written d ≡ true) × Resolves catalog d (Ok one)

-- some deed stands for the act
abbrev pub IsMeant : Catalog → Act → Type 0
IsMeant catalog one = (d : Deed) × StandsFor catalog d one

-- some deed stands for the act exactly where this is true
abbrev pub SuitsWhere : Catalog → Act → Bool → Type 0
SuitsWhere catalog one true = IsMeant catalog one
SuitsWhere catalog one false = IsMeant catalog one → ⊥
