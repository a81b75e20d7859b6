use Rattle.strip_script.proofs.EngineTests.{start_gives_next, start_leaves_idle}
use Rattle.strip_script.proofs.engine_tests.take.Goals as goal

pub returns-clause-none : goal.returns-clause-none
returns-clause-none c = start_leaves_idle c.args.engine.now c.start.new.self c.args.caller c.args.moment c.start.result c.start.ensures c.requires

pub returns-clause-given : goal.returns-clause-given
returns-clause-given c = start_gives_next c.args.engine.now c.start.new.self c.args.caller c.args.moment c.start.result c.start.ensures
