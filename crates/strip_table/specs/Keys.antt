-- The order of keys, column by column.
use Rattle.std.specs.Prelude.{ℕ, List, [], ◌∷◌}
use Rattle.std.specs.declared.cmp.Ordering.{Ordering}
use Rattle.std.specs.declared.cmp.Ordering.TheVariants.{Less, Equal, Greater}
use Rattle.strip_value.specs.declared.values.Value.{Value}
use Rattle.strip_value.specs.Order.{row_cmp}
use Rattle.strip_value.specs.Table.{key_of}

-- two rows by key
abbrev pub compared_keys : List ℕ → List Value → List Value → Ordering
compared_keys columns left right = row_cmp (key_of columns left) (key_of columns right)

-- a row's key against a key
abbrev pub compared_key : List ℕ → List Value → List Value → Ordering
compared_key columns row key = row_cmp (key_of columns row) key
