use Rattle.std.proofs.Common.{rules, sym}
use Rattle.std.proofs.lemmas.Fn.{always_returns_same}
use Rattle.strip_engine.specs.declared.queue.Started.{Started}
use Rattle.strip_engine.proofs.QueueSteps.{searched_place, searched_gap}
use Rattle.strip_engine.proofs.queue.place_of.Goals as goal

pub returns-in-Ok : goal.returns-in-Ok
returns-in-Ok c =
    let facts = c.in-Ok.ensures in
    let by_number = facts.position (λ (s : Started). s.number) (always_returns_same _ _ _ (λ a r g called. (search rules, search rules))) in
    sym (searched_place c.args.running.now c.args.number c.in-Ok.at (record { number = 0; caller = 0; place = 0; rule = 0; rows = 0 }) c.requires facts.bound by_number)

pub returns-in-Err : goal.returns-in-Err
returns-in-Err c =
    let facts = c.in-Err.ensures in
    let by_number = facts.position (λ (s : Started). s.number) (always_returns_same _ _ _ (λ a r g called. (search rules, search rules))) in
    sym (searched_gap c.args.running.now c.args.number c.in-Err._gap c.requires by_number)
