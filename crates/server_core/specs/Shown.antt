-- A server as its callers' clauses speak of it: what it holds, its configuration, its journal with the disk, and where it stopped.
use Rattle.std.specs.Prelude.{ℕ, Bool, true, false, List, Option}
use Rattle.spec_exchange.specs.State as model
use Rattle.spec_journal.specs.declared.form.Form.{Form}
use Rattle.spec_journal.specs.declared.form.Form.TheVariants.{Plain, Summed}
use Rattle.law_snapshots.specs.snapshots.Pieces.{SnapshotPiece}
use Rattle.journal.specs.disk_journal.Journal.{JournalState}
use Rattle.server_checks.specs.declared.tables.Config.{Config}
use Rattle.server_core.specs.declared.server.Server.{Server}
use Rattle.server_core.specs.journaled_tables.Holds.{HoldsOver, JournaledHolds}
use Rattle.server_core.specs.declared.journaled_tables.state.ServerState.{ServerState}
use Rattle.spec_world.specs.Ends.{Logons}

abbrev pub state_of : {D : Type 0} → Server D → ServerState D
state_of x = x.state

abbrev pub journal_of : {D : Type 0} → Server D → JournalState D
journal_of x = x.state.journal

abbrev pub disk_of : {D : Type 0} → Server D → D
disk_of x = x.state.journal.disk

-- entries without checksums
abbrev pub has_no_sums : Form → Bool
has_no_sums Plain = true
has_no_sums Summed = false

abbrev pub config_of : {D : Type 0} → Server D → Config
config_of x = x.state.tables.config

-- the count of faults at which a call of the disk failed
abbrev pub stopped_of : {D : Type 0} → Server D → Option ℕ
stopped_of x = x.state.stopped

-- it shows this state of the model with these logons, and its disk stands for a base and these records
abbrev pub HoldsServerOver : {D : Type 0} → Type 0 → (D → List ℕ) → (D → List ℕ → Type 0) → List SnapshotPiece → Server D → model.Server
    → Logons → List model.Record → Type 0
HoldsServerOver told seen may_leave base x s L records = HoldsOver told seen may_leave base x.state s L records

-- the same of a server whose journal was never written anew
abbrev pub HoldsServer : {D : Type 0} → Type 0 → (D → List ℕ) → (D → List ℕ → Type 0) → Server D → model.Server → Logons
    → List model.Record → Type 0
HoldsServer told seen may_leave x s L records = JournaledHolds told seen may_leave x.state s L records
