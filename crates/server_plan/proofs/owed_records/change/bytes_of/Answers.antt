use Rattle.server_plan.proofs.owed_records.Told.{other_bytes}
use Rattle.server_plan.proofs.owed_records.change.bytes_of.Goals as goal

pub returns-in_default : goal.returns-in_default
returns-in_default c = other_bytes c.args.m.now.command c.in_default.not-Write
