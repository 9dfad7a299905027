use Rattle.std.proofs.Common.{take, All}
use Rattle.journal_bytes.specs.record_bytes.Grammar.{WrittenRecordFits}
use Rattle.journal_bytes.proofs.record_bytes.fitting.can_write.Given as goal

abbrev pub invariant-loop-r : goal.invariant-loop-r
invariant-loop-r l = All WrittenRecordFits (take l.r-index l.records)
