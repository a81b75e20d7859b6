-- Small inputs on which the definitions compute.
use Rattle.std.specs.Prelude.{◌≡◌, ℕ, List, [], ◌∷◌, Some, None, false, codes, pos, refl}
use Rattle.strip_value.specs.declared.acts.Act.TheVariants.{Put, Select, Show}
use Rattle.strip_value.specs.declared.acts.ActError.TheVariants.{NotHeld, ReadOnly, KindMismatch, OutOfRange, Full}
use Rattle.strip_value.specs.declared.acts.Holds.{Holds}
use Rattle.strip_value.specs.declared.acts.Reply.TheVariants.{Rows, Count, Refused}
use Rattle.strip_value.specs.declared.expressions.Calc.{Column}
use Rattle.strip_value.specs.declared.expressions.Test as test
use Rattle.strip_value.specs.declared.kinds.Kind.TheVariants as kind
use Rattle.strip_value.specs.declared.queries.Input.{Input}
use Rattle.strip_value.specs.declared.queries.Input.TheVariants as input
use Rattle.strip_value.specs.declared.queries.Query.{Query}
use Rattle.strip_value.specs.declared.queries.What.TheVariants.{Plain}
use Rattle.strip_value.specs.declared.values.Value.{Value}
use Rattle.strip_value.specs.declared.values.Value.TheVariants.{Int, Text}
use Rattle.strip_value.specs.Query.{mean, mean_now}
use Rattle.strip_value.specs.Table.{Keyed}
use Rattle.strip_meaning.specs.Effect.{effect, run}

-- a table of stocks by symbol, of at most this many rows
abbrev stocks : ℕ → Keyed
stocks limit = record {
  def = record {
    name = codes "stocks";
    columns = record { name = codes "symbol"; kind = kind.Text } ∷ record { name = codes "price"; kind = kind.Int } ∷ [];
    key = 0 ∷ [];
    limit = Some limit;
    query = None;
    kept = None;
    declared = false;
  };
  rows = [];
}

abbrev to_write : Holds
to_write = record { write = 0 ∷ []; read = [] }

abbrev priced : ℕ → List Value
priced n = Text (codes "IBM") ∷ Int (pos n) ∷ []

abbrev other : List Value
other = Text (codes "HP") ∷ Int (pos 50) ∷ []

-- two puts of one key leave one row, and a third key comes before it
pub put_twice : (run to_write (stocks 2 ∷ []) (Show 0 ∷ Put 0 other ∷ Put 0 (priced 101) ∷ Put 0 (priced 100) ∷ [])).replies
    ≡ Rows (other ∷ priced 101 ∷ []) ∷ Count 1 ∷ Count 1 ∷ Count 1 ∷ []
unfolding effect
put_twice = refl

-- a full table takes a row of a key that stands, and no other
pub full_table : (run to_write (stocks 1 ∷ []) (Put 0 (priced 7) ∷ Put 0 other ∷ Put 0 (priced 100) ∷ [])).replies
    ≡ Count 1 ∷ Refused (Full 0 1) ∷ Count 1 ∷ []
unfolding effect
full_table = refl

-- the order of the causes
pub held_first : (effect (record { write = []; read = [] }) (stocks 2 ∷ []) (Put 0 (Int (pos 1) ∷ []))).reply ≡ Refused (NotHeld 0)
unfolding effect
held_first = refl

pub to_read_alone : (effect (record { write = []; read = 0 ∷ [] }) (stocks 2 ∷ []) (Put 0 (Int (pos 1) ∷ []))).reply ≡ Refused (ReadOnly 0)
unfolding effect
to_read_alone = refl

pub wrong_kind : (effect to_write (stocks 2 ∷ []) (Put 0 (Int (pos 1) ∷ []))).reply ≡ Refused (KindMismatch 1)
unfolding effect
wrong_kind = refl

pub too_short : (effect to_write (stocks 2 ∷ []) (Put 0 (Text [] ∷ []))).reply ≡ Refused (KindMismatch 2)
unfolding effect
too_short = refl

pub too_long : (effect to_write (stocks 2 ∷ []) (Put 0 (Text [] ∷ Int (pos 2147483648) ∷ Int (pos 1) ∷ []))).reply ≡ Refused (KindMismatch 3)
unfolding effect
too_long = refl

pub too_great : (effect to_write (stocks 2 ∷ []) (Put 0 (Text [] ∷ Int (pos 2147483648) ∷ []))).reply ≡ Refused (OutOfRange 2 (pos 2147483648))
unfolding effect
too_great = refl

-- the prices of some tables
abbrev prices_of : List Input → Query
prices_of entries = record { items = record { name = codes "price"; what = Plain (Column 0 1) } ∷ []; entries = entries; filter = test.True; group = None }

-- a query is refused for the smallest table that it may not read, whichever entry is first
pub asked_unheld : (effect (record { write = 2 ∷ []; read = [] }) [] (Select (prices_of (input.Table 2 ∷ input.Table 1 ∷ input.Table 0 ∷ [])))).reply ≡ Refused (NotHeld 0)
unfolding effect
asked_unheld = refl

-- it answers the rows that the tables have by then, and changes nothing
pub asked_rows : (run to_write (stocks 2 ∷ []) (Select (prices_of (input.Table 0 ∷ [])) ∷ Put 0 other ∷ Put 0 (priced 100) ∷ [])).replies
    ≡ Rows ((Int (pos 50) ∷ []) ∷ (Int (pos 100) ∷ []) ∷ []) ∷ Count 1 ∷ Count 1 ∷ []
unfolding effect mean mean_now
asked_rows = refl
