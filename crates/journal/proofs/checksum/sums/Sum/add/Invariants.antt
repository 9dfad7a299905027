use Rattle.std.proofs.Common.{◌≡◌, length}
use Rattle.spec_journal.specs.Castagnoli.{behind_bytes}
use Rattle.journal.proofs.checksum.sums.Sum.add.Given as goal

abbrev pub invariant-loop-rest : goal.invariant-loop-rest
invariant-loop-rest l = behind_bytes l.left l.rest ≡ behind_bytes l.self-inside.left l.bytes

abbrev pub decreases-loop-rest : goal.decreases-loop-rest
decreases-loop-rest l = length l.rest
