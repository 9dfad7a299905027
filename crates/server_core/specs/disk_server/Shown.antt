-- What a server shows to its connections.
use Rattle.std.specs.Prelude.{◌≡◌, ℕ, List}
use Rattle.spec_exchange.specs.State as model
use Rattle.server_core.specs.declared.disk_server.book.Book.{Book}
use Rattle.law_snapshots.specs.snapshots.Pieces.{SnapshotPiece}
use Rattle.server_core.specs.Shown.{HoldsServer, HoldsServerOver, config_of}
use Rattle.spec_crypto.specs.tokens.Tokens.{Users}
use Rattle.spec_world.specs.Ends.{Logons}

-- with its users, it holds this state and these logons, and its disk stands for these records
abbrev pub ShowsBook : {D : Type 0} → Type 0 → (D → List ℕ) → (D → List ℕ → Type 0) → Book D → Users → model.Server → Logons
    → List model.Record → Type 0
ShowsBook told seen may_leave b users s L records =
    ((config_of b.server).users ≡ users) × HoldsServer told seen may_leave b.server s L records

-- the same over a snapshot, the base, behind which the disk stands for these records
abbrev pub ShowsOver : {D : Type 0} → Type 0 → (D → List ℕ) → (D → List ℕ → Type 0) → List SnapshotPiece → Book D → Users → model.Server
    → Logons → List model.Record → Type 0
ShowsOver told seen may_leave base b users s L records =
    ((config_of b.server).users ≡ users) × HoldsServerOver told seen may_leave base b.server s L records

-- over some snapshot, or none
abbrev pub ShowsDisk : {D : Type 0} → Type 0 → (D → List ℕ) → (D → List ℕ → Type 0) → Book D → Users → model.Server → Logons
    → List model.Record → Type 0
ShowsDisk told seen may_leave b users s L records =
    (base : List SnapshotPiece) × ShowsOver told seen may_leave base b users s L records
