-- A snapshot at a journal's front, its base, and the records behind it. No file is stored beside the journal.
use Rattle.std.specs.Prelude.{ℕ, List, [], ◌++◌}
use Rattle.spec_exchange.specs.Fold.{Configuration}
use Rattle.spec_exchange.specs.State as model
use Rattle.law_snapshots.specs.behind.Found.{FoundFor, found}
use Rattle.law_snapshots.specs.restarts.Reopened.{reopened, reopening_records}
use Rattle.law_snapshots.specs.snapshots.Pieces.{SnapshotPiece, unfolded}

-- what pieces stand for
abbrev pub based : List SnapshotPiece → model.Server
based base = unfolded base (λ f. [])

-- and with the records behind them
abbrev pub found_over : List SnapshotPiece → List model.Record → model.Server
found_over base since = found base (λ f. []) since

-- they stand for the server: column by column, in what outlives a restart
abbrev pub StandsOver : List SnapshotPiece → List model.Record → model.Server → Type 0
StandsOver base since s = FoundFor base (λ f. []) since s

-- what a start adds to the records, in one body, and what stands then behind the base
abbrev pub opening_over : List SnapshotPiece → List model.Record → List model.Record
opening_over base since = reopening_records base (λ f. []) since

abbrev pub opened_over : List SnapshotPiece → List model.Record → List model.Record
opened_over base since = since ++ opening_over base since

-- the state that a start makes of them under a configuration, behind a journal of so many bytes
abbrev pub begun_over : Configuration → ℕ → List SnapshotPiece → List model.Record → model.Server
begun_over z bytes base since = reopened z bytes base (λ f. []) since
