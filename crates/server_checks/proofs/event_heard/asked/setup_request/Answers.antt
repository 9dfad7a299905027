use Rattle.std.proofs.Common.{refl}
use Rattle.server_checks.proofs.event_heard.Made.{request_told}
use Rattle.server_checks.proofs.event_heard.asked.setup_request.Goals as goal

pub returns-clause-agrees : goal.returns-clause-agrees
returns-clause-agrees c = (c.in_ok-shows.ensures, refl, refl)

pub returns-clause-request : goal.returns-clause-request
returns-clause-request c = λ s L t l users. request_told users L s c.args.setup.now _ _ _
    (c.in_ok-verified.ensures s L t l) c.in_ok-shows.ensures
