-- An event behind an open that was taken out: carried out, or the open comes back.
use Rattle.std.proofs.Common.{◌≡◌, ℕ, List, sym, subst, ◌∙◌}
use Rattle.spec_exchange.specs.State as model
use Rattle.law_snapshots.specs.snapshots.Pieces.{SnapshotPiece}
use Rattle.server_core.proofs.journaled_tables.Behind.{held_still, holds_shown}
use Rattle.journal.specs.disk_journal.Journal.{JournalState, OnlyRoom}
use Rattle.server_checks.specs.Shown.{TablesShown}
use Rattle.server_core.specs.journaled_tables.Holds.{JournaledHeld, HoldsOver}
use Rattle.server_core.specs.declared.journaled_tables.state.ServerState.{ServerState}
use Rattle.server_checks.specs.session_table.Logons.{LogonsShown}
use Rattle.server_checks.specs.declared.session_table.table.Sessions.{Sessions}
use Rattle.spec_world.specs.Ends.{Logons}

-- the open came back
pub back_holds : {D : Type 0} (told : Type 0) (seen : D → List ℕ) (may_leave : D → List ℕ → Type 0)
    (base : List SnapshotPiece) (old mid new : ServerState D)
    (s : model.Server) (L : Logons) (records : List model.Record) → JournaledHeld told seen may_leave base old s records
    → OnlyRoom old.journal mid.journal
    → mid.stopped ≡ old.stopped → new.journal ≡ mid.journal → new.stopped ≡ mid.stopped → TablesShown new.tables s
    → new.tables.sessions ≡ mid.tables.sessions → LogonsShown mid.tables.sessions L.keys L.pending
    → HoldsOver told seen may_leave base new s L records
back_holds {D} told seen may_leave base old mid new s L records h room stops same back shown sessions logons =
    holds_shown told seen may_leave base new s L records (held_still told seen may_leave base old new s records
    (subst (λ (j : JournalState D). OnlyRoom old.journal j) (sym same) room) (back ∙ stops) h) (record {
      tables = shown;
      logons = subst (λ (t : Sessions). LogonsShown t L.keys L.pending) (sym sessions) logons;
    })
