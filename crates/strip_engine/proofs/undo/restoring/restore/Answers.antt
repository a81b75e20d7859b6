use Rattle.std.proofs.Common.{ap}
use Rattle.strip_value.specs.Table.{Keyed}
use Rattle.strip_engine.proofs.Restores.{defs_set, logged_there, row_back}
use Rattle.strip_engine.proofs.undo.restoring.restore.Goals as goal

pub returns-in-Inserted-clause-defs : goal.returns-in-Inserted-clause-defs
returns-in-Inserted-clause-defs c =
    defs_set c.args.tables.now.items c.change.inside.0.0.0 c.index_mut.result.now c.take_out-gone.new.self (logged_there c.args.tables.now.items c.change.inside.0.0.0 c.args.logged c.change.view_is c.requires) c.index_mut.ensures.value (ap (λ (t : Keyed). t.def) c.take_out-gone.ensures.1)

pub returns-clause-tables : goal.returns-clause-tables
returns-clause-tables c =
    row_back c.args.tables.now.items c.args.logged c.change.inside.0.0.0 _ c.in-Changed.old c.in-Changed.new _ c.index_mut-in-Changed.result.now c.put_back.new.self c.change.view_is c.in-Changed.is c.in-Changed.old-is (logged_there c.args.tables.now.items c.change.inside.0.0.0 c.args.logged c.change.view_is c.requires) c.index_mut-in-Changed.ensures.value c.put_back.ensures

pub returns-clause-defs : goal.returns-clause-defs
returns-clause-defs c =
    defs_set c.args.tables.now.items c.change.inside.0.0.0 c.index_mut-in-Changed.result.now c.put_back.new.self (logged_there c.args.tables.now.items c.change.inside.0.0.0 c.args.logged c.change.view_is c.requires) c.index_mut-in-Changed.ensures.value (ap (λ (t : Keyed). t.def) c.put_back.ensures)
