use Rattle.server_plan.proofs.reserving.Requests.{other_path}
use Rattle.server_plan.proofs.reserving.request.path_of.Goals as goal

pub returns-in_default : goal.returns-in_default
returns-in_default c = other_path c.args.m.now.command c.in_default.not-SetInfo
