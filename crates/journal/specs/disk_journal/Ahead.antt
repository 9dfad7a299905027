-- Bytes that are put behind a closed gate, in pieces, before a sync.
use Rattle.std.specs.Prelude.{◌≡◌, ℕ, ◌<◌, ◌≤◌, List, ◌∷◌, ◌++◌, length}
use Rattle.base_outside.specs.streams.Disk.{Only}
use Rattle.spec_wire.specs.journal.Moments.{LeavesOnly}
use Rattle.journal.specs.disk_journal.Entry.{ClosedAt, StaysClosed}

-- A read gives the front, the closed gate and any bytes; so does a crash, now and at each moment since, but for which closed gate it is.
pub record StaysBehind {D : Type 0} (seen : D → List ℕ) (may_leave : D → List ℕ → Type 0) (moment : D → ℕ)
    (left_since : D → ℕ → List ℕ → Type 0) (front : List ℕ) (shut : ℕ) (old new : D) : Type 0 where
  pub left : List ℕ
  pub file : seen new ≡ front ++ shut ∷ left
  pub each : (c : List ℕ) → may_leave new c → StaysClosed front c
  pub run : LeavesOnly moment left_since old new (StaysClosed front)

-- What pieces from one place up to another come to so far.
pub record PutSoFar {D : Type 0} (told : Type 0) (seen : D → List ℕ) (may_leave : D → List ℕ → Type 0) (moment : D → ℕ)
    (left_since : D → ℕ → List ℕ → Type 0) (faults : D → ℕ) (gate first : ℕ) (old new : D) (at : ℕ) : Type 0 where
  pub later : gate < at
  pub stays : told → (front rest : List ℕ) (shut : ℕ) → ClosedAt gate front shut rest (seen old) → Only (seen old) (may_leave old)
      → StaysBehind seen may_leave moment left_since front shut old new
  pub long : told → first ≤ length (seen old) → at ≤ length (seen new)
  pub no_fault : faults new ≡ faults old
