use Rattle.std.proofs.Common.{◌≡◌, take}
use Rattle.spec_wire.specs.journal.Grammar.{magic}
use Rattle.journal.proofs.disk_journal.read.first_difference.Given as goal

abbrev pub invariant-loop-i : goal.invariant-loop-i
invariant-loop-i l = take l.i l.head ≡ take l.i magic
