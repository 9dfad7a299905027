use Rattle.std.proofs.Common.{◌≡◌, take}
use Rattle.spec_wire.specs.messages.Table.{with_fields}
use Rattle.journal_bytes.specs.record_bytes.Putting.{table_of}
use Rattle.journal_bytes.proofs.record_bytes.putting.put_fields.Given as goal

abbrev pub invariant-loop-put : goal.invariant-loop-put
invariant-loop-put l = l.out.items ≡ with_fields l.fn.out.items (table_of (take l.put-index l.puts))
