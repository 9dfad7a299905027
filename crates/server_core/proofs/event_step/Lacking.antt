-- Where memory runs out, and nothing was written, the server holds the state as before.
use Rattle.std.proofs.Common.{◌≡◌, inl, ℕ, List, Some, None, sym, ◌∙◌}
use Rattle.spec_exchange.specs.State as model
use Rattle.law_snapshots.specs.snapshots.Pieces.{SnapshotPiece}
use Rattle.server_core.proofs.journaled_tables.Behind.{held_still, holds_shown}
use Rattle.journal.specs.disk_journal.Journal.{OnlyRoom}
use Rattle.server_checks.specs.declared.setups.error.EventError.{EventError}
use Rattle.server_checks.specs.declared.setups.error.EventError.TheVariants.{Memory, DiskFault, Stopped}
use Rattle.server_core.specs.journaled_tables.Holds.{EventRefused, JournaledHeld}
use Rattle.server_core.specs.journaled_tables.Shown.{ServerShown}
use Rattle.server_core.specs.declared.journaled_tables.state.ServerState.{ServerState}
use Rattle.server_core.specs.body_writing.Bodies.{IsLack}
use Rattle.spec_world.specs.Ends.{Logons}

pub lacked : {D : Type 0} (told : Type 0) (seen : D → List ℕ) (may_leave : D → List ℕ → Type 0)
    (base : List SnapshotPiece) (faults : D → ℕ) (old new : ServerState D)
    (s : model.Server) (L M : Logons) (records : List model.Record) (now : ℕ) (ev : model.ServerEvent) (x : EventError)
    → JournaledHeld told seen may_leave base old s records → OnlyRoom old.journal new.journal → new.stopped ≡ old.stopped
    → ServerShown new.tables s L
    → IsLack old.journal x → EventRefused told seen may_leave base faults x old new s L records now ev M
lacked told seen may_leave base faults old new s L M records now ev Memory h o e shown l = (
  e ∙ h.goes_on,
  inl (holds_shown told seen may_leave base new s L records (held_still told seen may_leave base old new s records o e h) shown),
)
lacked told seen may_leave base faults old new s L M records now ev (DiskFault n) h o e shown l = absurd l
lacked told seen may_leave base faults old new s L M records now ev (Stopped n) h o e shown l =
    absurd (let k : None ≡ Some n = sym h.goes_on ∙ (h.stopped_is ∙ l) in cc)
