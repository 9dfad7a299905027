use Rattle.std.proofs.Common.{◌≡◌, drop}
use Rattle.journal_bytes.specs.record_bytes.Meaning.{records_of}
use Rattle.law_server.specs.tables.Fits.{all_sound}
use Rattle.server_core.proofs.folding.are_sound.Given as goal

abbrev pub invariant-loop-record : goal.invariant-loop-record
invariant-loop-record l = all_sound (records_of (drop l.record-index l.records)) ≡ all_sound (records_of l.records)
