use Rattle.std.proofs.Common.{◌≡◌, drop, true}
use Rattle.spec_exchange.specs.State.{Server}
use Rattle.journal_bytes.specs.record_bytes.Meaning.{records_of}
use Rattle.law_server.specs.tables.Fits.{Fits, all_sound}
use Rattle.server_core.specs.durable_state.Durable.{DurableShown}
use Rattle.server_core.proofs.durable_state.Following.{Follows}
use Rattle.server_core.proofs.durable_state.durable.Durable.with_records.Given as goal

abbrev pub invariant-loop-record : goal.invariant-loop-record
invariant-loop-record l = (s : Server) → Fits s → DurableShown l.fn.self s → all_sound (records_of l.records) ≡ true
    → Follows l.self s l.records (drop l.record-index l.records)
