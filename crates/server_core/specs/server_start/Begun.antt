-- A server that begins on the disk that an earlier one left.
use Rattle.std.specs.Prelude.{◌≡◌, ℕ, ◌+◌, List, length, None}
use Rattle.spec_exchange.specs.State as model
use Rattle.spec_wire.specs.journal.Grammar.{front}
use Rattle.spec_journal.specs.Forms.{StandsFor}
use Rattle.law_snapshots.specs.snapshots.Pieces.{SnapshotPiece}
use Rattle.server_checks.specs.declared.tables.Config.{Config}
use Rattle.server_core.specs.journaled_tables.Holds.{HoldsOver}
use Rattle.server_core.specs.declared.journaled_tables.state.ServerState.{ServerState}
use Rattle.server_core.specs.Over.{begun_over, opened_over}
use Rattle.server_core.specs.Reading.{SpellOver}
use Rattle.server_core.specs.restart_tables.Restart.{HasEpochRoom, configuration_of}
use Rattle.spec_world.specs.Ends.{Logons}

-- the base and the records of which the disk's bytes are
abbrev pub ServerTold : List ℕ → ℕ → List SnapshotPiece → List model.Record → Type 0
ServerTold bytes count base records = (bodies : List (List ℕ)) × StandsFor bytes bodies × SpellOver base bodies records
    × (count ≡ length (front bodies) + 1)

-- No call of the disk has failed. It holds the state that a start makes of a base and these records, with the records that the start adds
-- behind them, for which the journal had room; where the disk tells its bytes, they are all that it stands for. No session is there and
-- nothing is in the making, so it holds with whatever is remembered of logons.
abbrev pub ServerBegins : {D : Type 0} → Type 0 → (D → List ℕ) → (D → List ℕ → Type 0) → (D → ℕ) → Config → D → ServerState D → Type 0
ServerBegins told seen may_leave faults z disk c = (c.stopped ≡ None) × (faults c.journal.disk ≡ faults disk)
    × (bytes : ℕ) × (records : List model.Record) × (base : List SnapshotPiece)
    × ((L : Logons)
    → HoldsOver told seen may_leave base c (begun_over (configuration_of z) bytes base records) L (opened_over base records))
    × (told → ServerTold (seen disk) bytes base records) × HasEpochRoom bytes base records
