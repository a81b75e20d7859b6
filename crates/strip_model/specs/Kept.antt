-- What contracts see of a kept history: its entries, oldest first, and for how many more there is room.
use Rattle.std.specs.Prelude.{ℕ, List, refl}
use Rattle.std.specs.Coded.{Coded, code_by, coded×, coded_ℕ, coded_list}
use Rattle.strip_model.specs.declared.entries.Entry.{Entry}
use Rattle.strip_model.specs.contracts.entries.Entry as entry

pub record Kept : Type 0 where
  pub entries : List Entry
  pub room : ℕ

abbrev pub kept_code : Coded Kept
kept_code =
    code_by (List Entry × ℕ) (coded× (coded_list entry.the_row.coded) coded_ℕ) (λ k. (k.entries, k.room)) (λ p. record { entries = p.0; room = p.1 }) (λ _. refl)
