use Rattle.std.proofs.Common.{◌-◌, length}
use Rattle.journal_bytes.proofs.record_bytes.Walk.{Walked}
use Rattle.journal_bytes.proofs.record_bytes.reading.read_records.Given as goal

abbrev pub invariant-loop-at : goal.invariant-loop-at
invariant-loop-at l = Walked l.version l.body l.at l.reached l.records

abbrev pub decreases-loop-at : goal.decreases-loop-at
decreases-loop-at l = length l.body - l.at
