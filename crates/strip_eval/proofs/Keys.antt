-- Keys of groups, value by value.
use Rattle.std.proofs.Common.{◌≡◌, ℕ, ◌<◌, List, [], ◌∷◌, length, drop, refl, ap, ◌∙◌, arith, nat_eq, false, true≢false}
use Rattle.std.specs.Prelude.{pos}
use Rattle.std.specs.declared.cmp.Ordering.TheVariants.{Greater}
use Rattle.std.proofs.Math.Seq.{drop-cons}
use Rattle.strip_value.specs.declared.values.Value.{Value}
use Rattle.strip_value.specs.declared.values.Value.TheVariants.{Int}
use Rattle.strip_value.specs.declared.expressions.Calc.{Calc}
use Rattle.strip_value.specs.declared.queries.Place.{Place}
use Rattle.strip_value.specs.Order.{row_cmp}
use Rattle.strip_value.specs.Query.{key_value}

-- a row that goes on is above one that has ended
pub longer_above : (row other : List Value) → nat_eq (length row) 0 ≡ false → other ≡ [] → row_cmp row other ≡ Greater
longer_above [] other goes ended = absurd (true≢false goes)
longer_above (v ∷ row) other goes ended = ap (row_cmp (v ∷ row)) ended

-- a key that has ended has no value for the group columns that are left
pub ended_value : (places : List Place) (at : ℕ) (d : Place) (key : List Value) (e : Calc) → at < length places → key ≡ [] → key_value (drop at places) key e ≡ Int (pos 0)
ended_value places at d key e lt ended = ap (λ k. key_value (drop at places) k e) ended ∙ ap (λ ps. key_value ps [] e) (drop-cons places at d lt)

pub no_length : {A : Type 0} (xs : List A) → length xs ≡ 0 → xs ≡ []
no_length [] e = refl
no_length (x ∷ xs) e = absurd (omega arith)
