use Rattle.server_core.proofs.durable_state.Making.{restored_shown, turned_away_shown}
use Rattle.server_core.proofs.durable_state.durable.Durable.restore.Goals as goal

pub returns-in-Ok : goal.returns-in-Ok
returns-in-Ok c = λ s i h free. restored_shown c.args.self.now c.restore.new.self s c.args.made.now.file
    c.args.made.now.action c.args.new.now
    c.guid_of.result c.guid_of-2.result c.as_str.result.now c.guid_of.ensures c.guid_of-2.ensures c.as_str.ensures h
    (c.in-Ok.ensures s i h.opens).1

pub returns-in-Err : goal.returns-in-Err
returns-in-Err c = turned_away_shown c.turned_away.result c.in-Err.error c.args.self.now c.restore.new.self c.args.made.now.file
    c.args.made.now.action c.args.new.now c.turned_away.ensures c.in-Err.ensures
