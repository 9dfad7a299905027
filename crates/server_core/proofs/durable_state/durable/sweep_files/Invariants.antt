use Rattle.std.proofs.Common.{◌≡◌}
use Rattle.spec_exchange.specs.State.{Server}
use Rattle.store_files.specs.file_tree.Shown.{ShowsFiles}
use Rattle.store_opens.specs.open_table.Shown.{ShowsOpens}
use Rattle.law_records.specs.fold.Order.{swept_of}
use Rattle.server_core.proofs.durable_state.durable.sweep_files.Given as goal

abbrev pub invariant-loop-file : goal.invariant-loop-file
invariant-loop-file l =
    (goal.iterator-loop-file).can_next l.file-iterator ×
    (goal.iterator-loop-file).is_finite l.file-iterator ×
    ((s : Server) → ShowsFiles l.fn.tree s → ShowsOpens l.opens s → (u : Server) × ShowsFiles l.tree u × ShowsOpens l.opens u
    × (swept_of s l.initial.file-iterator ≡ swept_of u l.file-iterator))
