use Rattle.std.proofs.Common.{◌≡◌, length}
use Rattle.spec_journal.specs.Castagnoli.{behind_bytes}
use Rattle.journal.proofs.checksum.sums.behind_few.Given as goal

abbrev pub invariant-loop-byte : goal.invariant-loop-byte
invariant-loop-byte l = behind_bytes l.left l.rest ≡ behind_bytes l.first l.bytes

abbrev pub decreases-loop-byte : goal.decreases-loop-byte
decreases-loop-byte l = length l.rest
