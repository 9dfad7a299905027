use Rattle.std.proofs.Common.{◌≡◌, take, flat_map}
use Rattle.journal_bytes.specs.record_bytes.Grammar.{record_spelling}
use Rattle.journal_bytes.proofs.record_bytes.writing.write_records.Given as goal

abbrev pub invariant-loop-r : goal.invariant-loop-r
invariant-loop-r l = l.out.items ≡ flat_map record_spelling (take l.r-index l.records)
