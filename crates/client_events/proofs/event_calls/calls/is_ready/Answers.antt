use Rattle.std.proofs.Common.{arith}
use Rattle.client_events.proofs.event_calls.calls.is_ready.Goals as goal

-- the channel is below 256, as a number of 8 bits
pub returns : goal.returns
returns c =
    record {
      shown = λ d s. c.is_ready.ensures.shown d s.table.session;
      here = c.is_ready.ensures.here (omega arith);
    }
