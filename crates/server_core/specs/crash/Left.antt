-- What a crash at any moment of an event leaves, as a restart finds it.
use Rattle.std.specs.Prelude.{◌≡◌, ◌⊎◌, ℕ, List, ◌++◌, true}
use Rattle.spec_exchange.specs.Fold.{Configuration, recovered}
use Rattle.spec_exchange.specs.State.{Record, Server, ServerEvent}
use Rattle.spec_exchange.specs.Step.{step}
use Rattle.spec_journal.specs.Forms.{StandsFor}
use Rattle.law_records.specs.recovery.Recovers.{RecordRecovers}
use Rattle.law_records.specs.recovery.Restarted.{EntriesLeft, Restarted}
use Rattle.law_snapshots.specs.restarts.Reopened.{RestartKept}
use Rattle.law_snapshots.specs.snapshots.Pieces.{SnapshotPiece}
use Rattle.law_server.specs.tables.Fits.{Fits, all_sound}
use Rattle.server_core.specs.Over.{StandsOver, begun_over}
use Rattle.server_core.specs.Reading.{BodiesSpell, SpellOver}
use Rattle.spec_world.specs.Lacking.{Expires, alone_records}

-- these bodies spell the records of a server, and their fold agrees with it
pub record IsRecorded (s : Server) (records : List Record) (bodies : List (List ℕ)) : Type 0 where
  pub fits : Fits s
  pub version : s.version ≡ 2
  pub sound : all_sound records ≡ true
  pub spelled : BodiesSpell bodies records
  pub for_state : RecordRecovers records s

-- a state before an event, behind it, or behind an expiry in front of it that stands alone, with its records
abbrev pub IsBeside : Server → ℕ → ServerEvent → List Record → Server → List Record → Type 0
IsBeside s now e records t kept = ((t ≡ s) × (kept ≡ records))
    ⊎ ((t ≡ (step s now e).server) × (kept ≡ records ++ (step s now e).records))
    ⊎ ((o : ℕ) × Expires s now e t o × (kept ≡ records ++ alone_records s now e o))

-- the bytes stand for such a state and its records
pub record LeftOf (s : Server) (now : ℕ) (e : ServerEvent) (records : List Record) (bytes : List ℕ) : Type 0 where
  pub state : Server
  pub kept : List Record
  pub bodies : List (List ℕ)
  pub beside : IsBeside s now e records state kept
  pub stands : StandsFor bytes bodies
  pub recorded : IsRecorded state kept bodies

-- a restart on records that stand for such a state stands where it stood
pub record AgainOf (s : Server) (now : ℕ) (e : ServerEvent) (records kept : List Record) (z : Configuration) (count : ℕ) : Type 0 where
  pub state : Server
  pub beside : IsBeside s now e records state kept
  pub stands : Restarted state (recovered z count kept)
  pub entries : EntriesLeft state (recovered z count kept)

-- ---- the same over a snapshot

-- these bodies are a base and records behind it, which stand for a server
pub record IsRecordedOver (base : List SnapshotPiece) (s : Server) (records : List Record) (bodies : List (List ℕ)) : Type 0 where
  pub fits : Fits s
  pub version : s.version ≡ 2
  pub sound : all_sound records ≡ true
  pub spelled : SpellOver base bodies records
  pub for_state : StandsOver base records s

-- bytes stand for a server by them
abbrev pub BytesStand : List ℕ → List SnapshotPiece → List Record → Server → Type 0
BytesStand bytes base records s = (bodies : List (List ℕ)) × StandsFor bytes bodies × IsRecordedOver base s records bodies

-- the bytes stand for a state beside an event, by the same base and its records
pub record LeftOver (base : List SnapshotPiece) (s : Server) (now : ℕ) (e : ServerEvent) (records : List Record) (bytes : List ℕ)
    : Type 0 where
  pub state : Server
  pub kept : List Record
  pub beside : IsBeside s now e records state kept
  pub stands : BytesStand bytes base kept state

-- a start over what stands for a server stands where it stood
pub record StartsAgain (s : Server) (base : List SnapshotPiece) (records : List Record) (z : Configuration) (count : ℕ) : Type 0 where
  pub stands : RestartKept s (begun_over z count base records)
  pub entries : EntriesLeft s (begun_over z count base records)

-- and over a state beside an event
pub record AgainOver (base : List SnapshotPiece) (s : Server) (now : ℕ) (e : ServerEvent) (records kept : List Record)
    (z : Configuration) (count : ℕ) : Type 0 where
  pub state : Server
  pub beside : IsBeside s now e records state kept
  pub again : StartsAgain state base kept z count
