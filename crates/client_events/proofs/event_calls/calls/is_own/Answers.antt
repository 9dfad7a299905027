use Rattle.std.proofs.Common.{◌==◌, ap}
use Rattle.client_events.proofs.event_calls.calls.is_own.Goals as goal

pub returns : goal.returns
returns c = λ d s. ap (λ z. c.args.session == z) (c.id-own.ensures d s.table.session)
