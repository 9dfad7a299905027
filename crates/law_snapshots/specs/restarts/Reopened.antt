-- A start over a snapshot and the records behind it, and what it leaves of the server that they stand for.
use Rattle.std.specs.Prelude.{◌≡◌, ℕ, ◌+◌, ◌<◌, ◌≤◌, true, List, ◌++◌}
use Rattle.spec_exchange.specs.State.{Server, Record}
use Rattle.spec_exchange.specs.Files.{root, exists_in}
use Rattle.spec_exchange.specs.Records.{entry_bytes}
use Rattle.spec_exchange.specs.Fold.{Configuration, opening_records, persistent_in, stays, stays_by_guid, ranges_that_stay}
use Rattle.law_records.specs.recovery.Restarted.{Bare}
use Rattle.law_snapshots.specs.snapshots.Pieces.{SnapshotPiece}
use Rattle.law_snapshots.specs.behind.Found.{found}

-- what a start writes behind them, in one body: its epoch, and the marks that it clears
abbrev pub reopening_records : List SnapshotPiece → (ℕ → List ℕ) → List Record → List Record
reopening_records base stored since = opening_records (found base stored since)

-- Nothing but the configuration, the journal's bytes, the snapshot, the files beside it and the records behind it decide where a server
-- stands.
abbrev pub reopened : Configuration → ℕ → List SnapshotPiece → (ℕ → List ℕ) → List Record → Server
reopened z bytes base stored since = record (found base stored (since ++ reopening_records base stored since)) {
  share = z.share;
  room = z.room;
  encrypts = z.encrypts;
  address = z.address;
  journal = bytes + entry_bytes (reopening_records base stored since);
}

-- u stands where s stood before the restart: of files in all that are there, of opens in those that are persistent
pub record RestartKept (s u : Server) : Type 0 where
  pub epoch : u.epoch ≡ s.epoch + 1
  pub open_ids_given : u.open_ids_given ≡ 0
  pub session_ids_given : u.session_ids_given ≡ 0
  pub opens : u.opens ≡ persistent_in s.opened s.opens
  pub standing : (o : ℕ) → u.standing o ≡ stays s o
  pub opened : (o : ℕ) → stays s o ≡ true → u.opened o ≡ s.opened o
  pub lock_sequences : (o i : ℕ) → stays s o ≡ true → 0 < i → i ≤ 64 → u.lock_sequences o i ≡ s.lock_sequences o i
  pub by_guid : (c g : ℕ) → u.by_guid c g ≡ stays_by_guid s (s.by_guid c g)
  pub ranges : (f : ℕ) → u.ranges f ≡ ranges_that_stay s (s.ranges f)
  pub next_file : u.next_file ≡ s.next_file
  pub root_times : u.basic root ≡ s.basic root
  pub directory : (f : ℕ) → exists_in s.entries f ≡ true → u.directory f ≡ s.directory f
  pub delete_pending : (f : ℕ) → exists_in s.entries f ≡ true → u.delete_pending f ≡ true → s.delete_pending f ≡ true
  pub basic : (f : ℕ) → exists_in s.entries f ≡ true → u.basic f ≡ s.basic f
  pub content : (f : ℕ) → exists_in s.entries f ≡ true → u.content f ≡ s.content f
  pub expired_guids : (c g : ℕ) → u.expired_guids c g ≡ s.expired_guids c g
  pub expired_count : u.expired_count ≡ s.expired_count
  pub bare : Bare u
