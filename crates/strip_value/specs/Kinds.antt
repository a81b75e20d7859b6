-- Which values are of a kind, and which rows are of a table's columns.
use Rattle.std.specs.Prelude.{◌^◌, pos, neg_ℤ, ◌≤ℤ◌, ◌<ℤ◌, List, [], ◌∷◌}
use Rattle.strip_value.specs.declared.kinds.Kind.{Kind}
use Rattle.strip_value.specs.declared.kinds.Kind.TheVariants as kind
use Rattle.strip_value.specs.declared.values.Value.{Value}
use Rattle.strip_value.specs.declared.values.Value.TheVariants.{Int, Text}
use Rattle.strip_value.specs.declared.tables.ColumnDef.{ColumnDef}

-- the value is one of the kind
abbrev pub Fits : Kind → Value → Type 0
Fits kind.Int (Int n) = (neg_ℤ (pos (2 ^ 31)) ≤ℤ n) × (n <ℤ pos (2 ^ 31))
Fits kind.Big (Int n) = (neg_ℤ (pos (2 ^ 126)) <ℤ n) × (n <ℤ pos (2 ^ 126))
Fits kind.Text (Text t) = Unit {0}
Fits _ _ = ⊥

-- the row has just one value for each of the kinds, of this kind
abbrev pub FitsKinds : List Kind → List Value → Type 0
FitsKinds [] [] = Unit {0}
FitsKinds (k ∷ ks) (v ∷ vs) = Fits k v × FitsKinds ks vs
FitsKinds _ _ = ⊥

-- the row has just one value for each column, of its kind
abbrev pub FitsColumns : List ColumnDef → List Value → Type 0
FitsColumns [] [] = Unit {0}
FitsColumns (c ∷ cs) (v ∷ vs) = Fits c.kind v × FitsColumns cs vs
FitsColumns _ _ = ⊥
