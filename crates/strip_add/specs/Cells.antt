-- Rows of a key and two totals, each a number of kind `int`: what the tests add up.
use Rattle.std.specs.Prelude.{◌≡◌, List, [], ◌∷◌, None}
use Rattle.strip_value.specs.declared.kinds.Kind.TheVariants as kind
use Rattle.strip_value.specs.declared.tables.ColumnDef.{ColumnDef}
use Rattle.strip_value.specs.declared.tables.TableDef.{TableDef}
use Rattle.strip_value.specs.declared.values.Value.{Value}
use Rattle.strip_value.specs.Kinds.{Fits}

abbrev pub AreInts : List Value → Type 0
AreInts (a ∷ b ∷ c ∷ []) = Fits kind.Int a × Fits kind.Int b × Fits kind.Int c
AreInts _ = ⊥

-- an `int` key and two totals
abbrev pub HaveKinds : List ColumnDef → Type 0
HaveKinds (a ∷ b ∷ c ∷ []) = (a.kind ≡ kind.Int) × (b.kind ≡ kind.Big) × (c.kind ≡ kind.Big)
HaveKinds _ = ⊥

pub record IsCellsDef (def : TableDef) : Type 0 where
  pub key : def.key ≡ 0 ∷ []
  pub columns : HaveKinds def.columns
  pub unlimited : def.limit ≡ None
