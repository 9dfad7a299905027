use Rattle.server_core.proofs.durable_state.ByKind.{restored_some, restored_none}
use Rattle.server_core.proofs.durable_state.durable.Durable.restore_new.Goals as goal

pub returns-in-Some : goal.returns-in-Some
returns-in-Some c = λ s i h. restored_some c.restore.result c.restore.new.self s c.args.made.now.file c.args.made.now.action
    c.args.new.now _ c.in-Some.is (c.restore.ensures s i h)

pub returns-in-None : goal.returns-in-None
returns-in-None c = λ s i h may. restored_none c.args.self.now s c.args.made.now.file c.args.made.now.action c.args.new.now c.in-None.is h
