use Rattle.server_plan.proofs.owed_records.Told.{other_elements}
use Rattle.server_plan.proofs.owed_records.lock.elements_of.Goals as goal

pub returns-in_default : goal.returns-in_default
returns-in_default c = other_elements c.args.m.now.command c.in_default.not-Lock
