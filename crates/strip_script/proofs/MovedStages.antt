-- A stage whose history goes on.
use Rattle.std.proofs.Common.{◌≡◌, true, List, []}
use Rattle.strip_model.specs.declared.entries.Entry.{Entry}
use Rattle.strip_model.specs.History.{live}
use Rattle.strip_model.specs.Legal.{Legal}
use Rattle.strip_script.specs.Script.{Stage, fixed_at}
use Rattle.strip_script.specs.Stages.{IsSound}

-- a sound stage stays one where the history is legal and no session is live in it
pub moved_sound : (stage : Stage) (past : List Entry) → stage.catalog.closed ≡ true → Legal (fixed_at stage) past → live past ≡ [] → IsSound stage → IsSound (record stage { past = past })
moved_sound stage past closed legal none sound = record {
  declared = sound.declared;
  built = sound.built;
  legal = legal;
  none = none;
  clean = λ unclosed. absurd (cc);
}
