-- An event that found no memory leaves the server as before, or changed by one expiry alone (this project's).
use Rattle.std.specs.Prelude.{◌≡◌, ℕ, ◌+◌, nat_le, true, false, List, Some, ◌⊎◌}
use Rattle.spec_exchange.specs.Records.{origin_at, entry_bytes, fits}
use Rattle.spec_exchange.specs.State.{Server, ServerEvent, Record}
use Rattle.spec_exchange.specs.Step.{with_deadlines, due, expire, expire_records, connection_of, max_expired_guids}

-- the records of an expiry in a body of their own, and the state behind it
abbrev pub alone_records : Server → ℕ → ServerEvent → ℕ → List Record
alone_records s now e o = expire_records (with_deadlines s now) (origin_at (connection_of e)) o

abbrev pub expired_alone : Server → ℕ → ServerEvent → ℕ → Server
expired_alone s now e o = record (expire (with_deadlines s now) o) { journal = s.journal + entry_bytes (alone_records s now e o) }

-- It expires where one does in front of the event itself: an open is due, guids of expired opens may still be kept, its records fit.
pub record Expires (s : Server) (now : ℕ) (e : ServerEvent) (t : Server) (o : ℕ) : Type 0 where
  pub is_due : due (with_deadlines s now) now ≡ Some o
  pub kept : nat_le max_expired_guids s.expired_count ≡ false
  pub room : fits s (alone_records s now e o) ≡ true
  pub behind : t ≡ expired_alone s now e o

abbrev pub IsAsBefore : Server → ℕ → ServerEvent → Server → Type 0
IsAsBefore s now e t = (t ≡ s) ⊎ ((o : ℕ) × Expires s now e t o)
