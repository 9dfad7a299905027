use Rattle.std.proofs.Common.{◌≡◌, true, take}
use Rattle.spec_exchange.specs.State.{Server}
use Rattle.journal_bytes.specs.record_bytes.Meaning.{records_of}
use Rattle.law_server.specs.tables.Fits.{Fits, is_ascending}
use Rattle.store_files.specs.file_tree.Shown.{ShowsFiles}
use Rattle.store_opens.specs.open_table.Shown.{ShowsOpens}
use Rattle.law_records.specs.leaving_opens.Since.{AllStand}
use Rattle.server_effects.specs.leaving_opens.Left.{HasLeft}
use Rattle.server_effects.proofs.leaving_opens.Each.{HaveLeft}
use Rattle.server_effects.proofs.leaving_opens.records.leave_each.Given as goal

abbrev pub invariant-loop-id : goal.invariant-loop-id
invariant-loop-id l = (s u : Server) → Fits s → ShowsOpens l.opens s → ShowsFiles l.tree s → HasLeft l.initial.leaving s u
    → is_ascending l.ids ≡ true → AllStand u l.ids
    → HaveLeft l.leaving s u l.origin (take l.id-index l.ids) (records_of l.initial.records) (records_of l.records)
