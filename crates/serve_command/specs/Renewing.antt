-- When a server writes its journal anew, and what that makes of it.
use Rattle.std.specs.Prelude.{◌≡◌, ℕ, ◌+◌, ◌-◌, ◌*◌, ◌/◌, min, max, Bool, true, false, ◌&&◌, ◌||◌, nat_lt, nat_le, List, if◌then◌else◌}
use Rattle.std.specs.Prelude.{Result, Ok, Err, IfOk, None, Some, ◌<◌, ◌≤◌}
use Rattle.law_snapshots.specs.snapshots.Pieces.{SnapshotPiece}
use Rattle.spec_exchange.specs.State as model
use Rattle.spec_world.specs.Ends.{Logons}
use Rattle.server_checks.specs.declared.setups.error.EventError.{EventError}
use Rattle.server_core.specs.Shown.{HoldsServerOver, config_of, disk_of, has_no_sums, journal_of, state_of, stopped_of}
use Rattle.server_core.specs.compaction.Compacts.{Compacts}
use Rattle.server_core.specs.space_ahead.Space.{TakesSpace}
use Rattle.serve_command.specs.declared.lasting_book.book.LastingBook.{LastingBook}

-- ---- numbers of bytes

-- behind a snapshot of so many: twice that, between 64 MiB and half of what changes may use
abbrev pub mark_behind : ℕ → ℕ
mark_behind size = min (max (size * 2) 67108864) 469762048

-- a quarter more, until 32 MiB below the limit, behind which each event looks
abbrev pub grown : ℕ → ℕ
grown used = min (used + used / 4) 905969664

-- behind a look that found that a snapshot of so many isn't worth its while
abbrev pub look_again : ℕ → ℕ → ℕ
look_again used size = max (mark_behind size) (grown used)

-- behind one that was given up: 16 MiB on, or half of the way to the limit, and at the limit never
abbrev pub try_again : ℕ → ℕ
try_again used = if nat_lt used 939524096 then used + min 16777216 ((939524096 - used) / 2 + 1) else 18446744073709551615

-- the first form is always due, and else a journal of more than 1 MiB that a snapshot would make at least a third smaller
abbrev pub is_due : Bool → ℕ → ℕ → Bool
is_due is_first used size = is_first || (nat_lt 1048576 used && nat_le (size * 3) (used * 2))

-- where it is looked at next, by what writing it anew came to, its mark before, and how many bytes it used before and behind: it is
-- written, or that was given up, or the server has stopped
abbrev pub mark_after : Result Bool EventError → (mark before after : ℕ) → ℕ
mark_after (Ok true) mark before after = mark_behind after
mark_after (Ok false) mark before after = try_again before
mark_after (Err error) mark before after = mark

-- a journal of 1 MiB or more takes space ahead where it uses as many bytes as was said, or far fewer since it was written anew
abbrev pub is_short : (used ahead : ℕ) → Bool
is_short used ahead = nat_le 1048576 used && (nat_le ahead used || nat_lt 6291456 (ahead - used))

-- how many bytes it uses when it takes space ahead again, by what that came to: it had 16 MiB or was left some, the disk has no room, or
-- nothing was taken
abbrev pub ahead_after : Result Bool EventError → (ahead used : ℕ) → ℕ
ahead_after (Ok true) ahead used = min (used + 6291456) 1073741824
ahead_after (Ok false) ahead used = min (used + 1048576) 1073741824
ahead_after (Err error) ahead used = ahead

-- ---- the server

abbrev pub used_by : {D : Type 0} → LastingBook D → ℕ
used_by b = (journal_of b.disk_book.book.server).used

module _ {D : Type 0} (told : Type 0) (seen : D → List ℕ) (may_leave : D → List ℕ → Type 0) (faults : D → ℕ) where
  -- its journal was written anew, or that was given up, or its disk failed in that
  pub record WritesAnew (old new : LastingBook D) (result : Result Bool EventError) : Type 0 where
    pub compacts : (base : List SnapshotPiece) (s : model.Server) (L : Logons) (records : List model.Record)
        → HoldsServerOver told seen may_leave base old.disk_book.book.server s L records
        → Compacts told seen may_leave faults base (state_of old.disk_book.book.server) (state_of new.disk_book.book.server) s L records
        result
    pub config : config_of new.disk_book.book.server ≡ config_of old.disk_book.book.server
    pub calm : IfOk result (λ (done : Bool). faults (disk_of new.disk_book.book.server) ≡ faults (disk_of old.disk_book.book.server))
    pub mark : new.mark ≡ mark_after result old.mark (used_by old) (used_by new)

  -- it is written anew where that is due, and else only looked at again later
  abbrev pub LooksWhere : Bool → (old new : LastingBook D) → ℕ → Type 0
  LooksWhere true old new size = (result : Result Bool EventError) × WritesAnew old new result
  LooksWhere false old new size = new ≡ record old { mark = look_again (used_by old) size }

  -- a look at its journal, where a snapshot is said to take so many bytes
  abbrev pub LooksAt : (old new : LastingBook D) → ℕ → Type 0
  LooksAt old new size = LooksWhere (is_due (has_no_sums (journal_of old.disk_book.book.server).form) (used_by old) size) old new size

  -- its journal took space ahead, or the disk has no room for it, or no memory was found, or the disk failed in that
  pub record FillsAhead (old new : LastingBook D) : Type 0 where
    pub result : Result Bool EventError
    pub takes : (base : List SnapshotPiece) (s : model.Server) (L : Logons) (records : List model.Record)
        → HoldsServerOver told seen may_leave base old.disk_book.book.server s L records
        → TakesSpace told seen may_leave faults base (state_of old.disk_book.book.server) (state_of new.disk_book.book.server) s L records
        result
    pub config : config_of new.disk_book.book.server ≡ config_of old.disk_book.book.server
    pub used : used_by new ≡ used_by old
    pub calm : stopped_of new.disk_book.book.server ≡ None
        → faults (disk_of new.disk_book.book.server) ≡ faults (disk_of old.disk_book.book.server)
    pub mark : new.mark ≡ old.mark
    pub ahead : new.ahead ≡ ahead_after result old.ahead (used_by old)

  abbrev pub FillsWhere : Bool → (old new : LastingBook D) → Type 0
  FillsWhere true old new = FillsAhead old new
  FillsWhere false old new = new ≡ old

  abbrev pub Fills : (old new : LastingBook D) → Type 0
  Fills old new = FillsWhere (is_short (used_by old) old.ahead) old new

  -- what is done in front of an event of a server that goes on: space is taken ahead, and then the journal is looked at
  pub record Readies (old new : LastingBook D) : Type 0 where
    pub mid : LastingBook D
    pub fills : Fills old mid
    pub early : used_by mid < mid.mark → new ≡ mid
    pub halted : (count : ℕ) → stopped_of mid.disk_book.book.server ≡ Some count → new ≡ mid
    pub looks : stopped_of mid.disk_book.book.server ≡ None → mid.mark ≤ used_by mid → (size : ℕ) × LooksAt mid new size
