use Rattle.std.proofs.Common.{take, All}
use Rattle.journal_bytes.specs.record_bytes.Grammar.{IsInRange}
use Rattle.journal_bytes.proofs.record_bodies.typed.are_typed.Given as goal

abbrev pub invariant-loop-one : goal.invariant-loop-one
invariant-loop-one l = All IsInRange (take l.one-index l.records)
