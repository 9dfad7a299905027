use Rattle.std.proofs.Common.{◌≡◌, ◌++◌}
use Rattle.spec_exchange.specs.State.{Server}
use Rattle.journal_bytes.specs.record_bytes.Meaning.{records_of}
use Rattle.store_files.specs.file_tree.Shown.{ShowsFiles}
use Rattle.store_opens.specs.open_table.Shown.{ShowsOpens}
use Rattle.law_records.specs.fold.Order.{marks_of}
use Rattle.server_core.proofs.durable_state.durable.push_each.Given as goal

abbrev pub invariant-loop-file : goal.invariant-loop-file
invariant-loop-file l =
    (goal.iterator-loop-file).can_next l.file-iterator ×
    (goal.iterator-loop-file).is_finite l.file-iterator ×
    ((s : Server) → ShowsFiles l.tree s → ShowsOpens l.opens s
    → records_of l.records ++ marks_of s l.file-iterator ≡ records_of l.fn.records ++ marks_of s l.initial.file-iterator)
