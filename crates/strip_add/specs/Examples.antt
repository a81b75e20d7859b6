-- Small rows on which the definitions compute.
use Rattle.std.specs.Prelude.{◌≡◌, ℕ, ℤ, pos, negsuc, List, [], ◌∷◌, None, false, true, codes, refl}
use Rattle.strip_value.specs.declared.kinds.Kind.TheVariants as kind
use Rattle.strip_value.specs.declared.tables.TableDef.{TableDef}
use Rattle.strip_value.specs.declared.values.Value.{Value}
use Rattle.strip_value.specs.declared.values.Value.TheVariants.{Int, Text}
use Rattle.strip_meaning.specs.Sums.{applied, as_derived, folded, has_total, totals_at}

-- prices and their number by kind of part
abbrev pub prices : TableDef
prices = record {
  name = codes "prices";
  columns = record { name = codes "part"; kind = kind.Text } ∷ record { name = codes "price"; kind = kind.Big } ∷ record { name = codes "parts"; kind = kind.Big } ∷ [];
  key = 0 ∷ [];
  limit = None;
  query = None;
  kept = None;
  declared = false;
}

abbrev row : List ℕ → ℤ → ℤ → List Value
row part price count = Text part ∷ Int price ∷ Int count ∷ []

abbrev bolt : List ℕ
bolt = codes "bolt"

abbrev nut : List ℕ
nut = codes "nut"

-- the named columns, in the order of the names
pub named : as_derived (2 ∷ 0 ∷ []) (Int (pos 7) ∷ Int (pos 8) ∷ Text nut ∷ []) ≡ Text nut ∷ Int (pos 7) ∷ []
named = refl

-- two nuts, a bolt between them: one row of each key, by rising key, negative totals among them
pub sums_per_key : folded prices (row nut (pos 3) (pos 1) ∷ row bolt (negsuc 4) (pos 1) ∷ row nut (negsuc 8) (pos 1) ∷ [])
    ≡ row bolt (negsuc 4) (pos 1) ∷ row nut (negsuc 5) (pos 2) ∷ []
sums_per_key = refl

-- a key whose totals are all zero is folded too
pub zero_folded : folded prices (row nut (pos 3) (pos 1) ∷ row nut (negsuc 2) (negsuc 0) ∷ []) ≡ row nut (pos 0) (pos 0) ∷ []
zero_folded = refl

-- a row goes where all its totals meet in zero, and stays where one of them doesn't
pub gone_and_kept : applied prices (row bolt (pos 5) (pos 1) ∷ row nut (pos 4) (pos 2) ∷ []) (row bolt (negsuc 4) (negsuc 0) ∷ row nut (pos 6) (negsuc 1) ∷ [])
    ≡ row nut (pos 10) (pos 0) ∷ []
gone_and_kept = refl

-- a new key gets a row, where its totals aren't all zero
pub new_rows : applied prices (row nut (pos 4) (pos 2) ∷ []) (row bolt (negsuc 4) (pos 1) ∷ row (codes "rod") (pos 0) (pos 0) ∷ [])
    ≡ row bolt (negsuc 4) (pos 1) ∷ row nut (pos 4) (pos 2) ∷ []
new_rows = refl

-- no row counts as zeros
pub no_row : totals_at prices (row nut (pos 4) (pos 2) ∷ []) (Text bolt ∷ []) ≡ pos 0 ∷ pos 0 ∷ []
no_row = refl

pub one_counts : has_total prices (row nut (pos 0) (negsuc 0)) ≡ true
one_counts = refl
