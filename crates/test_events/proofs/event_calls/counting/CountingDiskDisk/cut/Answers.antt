use Rattle.base_outside.proofs.streams.Written.{uncut}
use Rattle.test_events.proofs.event_calls.counting.CountingDiskDisk.cut.Goals as goal

pub returns-clause-crash : goal.returns-clause-crash
returns-clause-crash c = λ left now. (left, tt, uncut c.args.length left)
