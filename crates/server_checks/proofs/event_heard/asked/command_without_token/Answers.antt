use Rattle.std.proofs.Common.{refl}
use Rattle.server_checks.proofs.event_heard.Made.{other_same}
use Rattle.server_checks.proofs.event_heard.asked.command_without_token.Goals as goal

pub returns-in_default : goal.returns-in_default
returns-in_default c = other_same c.args.command c.in_default.not-Setup

pub returns-in-Setup : goal.returns-in-Setup
returns-in-Setup c = rw c.in-Setup.is refl
