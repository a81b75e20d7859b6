-- The tables that a transaction holds that asks for these, of so many.
use Rattle.std.specs.Prelude.{ℕ, List}
use Rattle.strip_value.specs.declared.acts.Holds.{Holds}
use Rattle.strip_meaning.specs.Effect.{has_id}
use Rattle.strip_model.specs.Says.{chosen, read_besides}

abbrev pub held_by : ℕ → List ℕ → List ℕ → Holds
held_by count write read = record { write = chosen (has_id write) 0 count; read = chosen (read_besides write read) 0 count }
