use Rattle.std.proofs.Common.{ℕ, take}
use Rattle.spec_exchange.specs.State.{Server}
use Rattle.journal_bytes.specs.record_bytes.Meaning.{records_of}
use Rattle.law_server.specs.tables.Fits.{Fits}
use Rattle.store_files.specs.file_tree.Shown.{ShowsFiles}
use Rattle.store_opens.specs.open_table.Shown.{ShowsOpens}
use Rattle.server_checks.specs.session_table.Shown.{ShowsSessions}
use Rattle.server_effects.proofs.leaving_opens.Lost.{AreOut}
use Rattle.server_effects.proofs.leaving_opens.connections.all_end_records.Given as goal

abbrev pub invariant-loop-i : goal.invariant-loop-i
invariant-loop-i l = (now : ℕ) (s : Server) → Fits s → ShowsOpens l.opens s → ShowsFiles l.tree s → ShowsSessions l.sessions s
    → AreOut l.leaving s now (take l.i s.connections) (records_of l.records)
