use Rattle.server_plan.proofs.reserving.Requests.{other_setting}
use Rattle.server_plan.proofs.reserving.request.path_in.Goals as goal

pub returns-in_default : goal.returns-in_default
returns-in_default c = other_setting c.args.setting.now c.in_default.not-Rename
