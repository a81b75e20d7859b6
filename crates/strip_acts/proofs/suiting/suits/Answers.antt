use Rattle.strip_acts.proofs.ShortActs.{suits_then, suits_else}
use Rattle.strip_acts.proofs.suiting.suits.Goals as goal

pub returns-then-is_sound : goal.returns-then-is_sound
returns-then-is_sound c =
    suits_then c.args.tables.now c.args.act.now c.is_sound.result c.is_short.result c.requires.named c.is_sound.ensures
    c.if-is_sound.true c.is_short.ensures

pub returns-else-is_sound : goal.returns-else-is_sound
returns-else-is_sound c =
    suits_else c.args.tables.now c.args.act.now c.is_sound.result c.requires.named c.is_sound.ensures c.if-is_sound.false
