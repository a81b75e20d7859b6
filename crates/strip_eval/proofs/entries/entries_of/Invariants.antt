use Rattle.std.proofs.Common.{◌≡◌, map, take}
use Rattle.strip_value.specs.Query.{entry_rows}
use Rattle.strip_eval.specs.Near.{EntriesFit}
use Rattle.strip_eval.proofs.entries.entries_of.Given as goal

abbrev pub invariant-loop-input : goal.invariant-loop-input
invariant-loop-input l = record {
  rows : l.entries.items ≡ map (entry_rows l.env) (take l.input-index l.inputs);
  fit : EntriesFit l.env (take l.input-index l.inputs) l.entries.items;
}
