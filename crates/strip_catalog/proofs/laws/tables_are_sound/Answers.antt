use Rattle.strip_catalog.proofs.Sound.{tables_sound}
use Rattle.strip_catalog.proofs.laws.tables_are_sound.Goals as goal

pub returns : goal.returns
returns c = tables_sound
