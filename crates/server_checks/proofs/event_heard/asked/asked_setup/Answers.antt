use Rattle.std.proofs.Common.{refl}
use Rattle.server_checks.proofs.event_heard.Made.{same_message}
use Rattle.server_checks.proofs.event_heard.asked.asked_setup.Goals as goal

pub returns-clause-event : goal.returns-clause-event
returns-clause-event c = λ s L t l.
    let shown = c.in_ok-shown.ensures.shown s L t l in (
      same_message c.args.users.now L s c.args.setup _ _ (c.in_ok-request.ensures.request s L t l c.args.users.now) shown,
      (shown, c.in_ok-shown.ensures.begun, refl, refl, refl),
    )

pub returns-clause-agrees : goal.returns-clause-agrees
returns-clause-agrees c = c.in_ok-request.ensures.agrees
