-- Pieces behind a closed gate, one after the other.
use Rattle.std.proofs.Common.{◌≡◌, ℕ, ◌+◌, ◌<◌, ◌≤◌, List, ◌∷◌, ◌++◌, length, take, drop, ap, ◌∙◌, sym, arith, length-append}
use Rattle.std.proofs.lemmas.List.{length-take-le}
use Rattle.std.specs.Prelude.{Ok}
use Rattle.base_outside.specs.declared.streams.room.DiskStep.{DiskStep}
use Rattle.base_outside.specs.declared.streams.room.DiskStep.TheVariants.{Done, NoRoom}
use Rattle.base_outside.specs.streams.Steps.{IfDone, IfNoRoom}
use Rattle.base_outside.specs.streams.Disk.{WritesAt, Torn, Follows, Only, Elapses}
use Rattle.spec_wire.specs.journal.Grammar.{IsClosed}
use Rattle.spec_wire.specs.journal.Moments.{LeavesOnly}
use Rattle.journal.specs.disk_journal.Ahead.{StaysBehind}
use Rattle.journal.specs.disk_journal.Entry.{ClosedAt, StaysClosed}
use Rattle.journal.proofs.disk_journal.Crash.{still_closed, torn_behind, torn_stays}
use Rattle.journal.proofs.disk_journal.Moments.{started, goes_on, joined}

-- a write from a place within on makes the bytes at least so long
pub longer : (old : List ℕ) (at : ℕ) (piece new : List ℕ) → at ≤ length old → WritesAt old at piece new → at + length piece ≤ length new
longer old at piece new within w =
    omega (
      arith,
      ap length (w.within within),
      length-append (take at old ++ piece) (drop (at + length piece) old),
      length-append (take at old) piece,
      length-take-le at old within,
    )

-- the step that was done, and the one for which there was no room
pub done_of : (E : Type 0) (step : DiskStep) (P : Type 0) → step ≡ Done → IfDone {E = E} (Ok step) P → P
done_of E Done P is holds = holds
done_of E NoRoom P is holds = absurd (cc is)

pub no_room_of : (E : Type 0) (step : DiskStep) (P : Type 0) → step ≡ NoRoom → IfNoRoom {E = E} (Ok step) P → P
no_room_of E Done P is holds = absurd (cc is)
no_room_of E NoRoom P is holds = holds

-- the front and its gate come before any place behind the gate
pub shorter : (gate : ℕ) (front : List ℕ) (shut : ℕ) (rest bytes : List ℕ) → ClosedAt gate front shut rest bytes → gate + 1 ≤ length bytes
shorter gate front shut rest bytes ends = omega (arith, ap length ends.file, length-append front (shut ∷ rest), ends.place)

-- a call that only reads, in front of it
pub read_ahead : {D : Type 0} (seen : D → List ℕ) (may_leave : D → List ℕ → Type 0) (front rest : List ℕ) (gate shut : ℕ) (d0 d : D)
    → ClosedAt gate front shut rest (seen d0) → Only (seen d0) (may_leave d0) → seen d ≡ seen d0
    → ((c : List ℕ) → may_leave d c → may_leave d0 c) → ClosedAt gate front shut rest (seen d) × Only (seen d) (may_leave d)
read_ahead seen may_leave front rest gate shut d0 d ends only same crash = (
  record { file = same ∙ ends.file; place = ends.place; closed = ends.closed },
  λ c left. only c (crash c left) ∙ sym same,
)

module _ {D : Type 0} (seen : D → List ℕ) (may_leave : D → List ℕ → Type 0) (moment : D → ℕ) (left_since : D → ℕ
    → List ℕ → Type 0) (only_now : (d : D) (c : List ℕ) → left_since d (moment d) c → may_leave d c) where
  abbrev Behind : List ℕ → ℕ → D → D → Type 0
  Behind front shut old new = StaysBehind seen may_leave moment left_since front shut old new

  abbrev Goes : D → D → Type 0
  Goes d e = Elapses (moment d) (moment e) (left_since d) (left_since e) (may_leave e)

  pub begun : (front rest : List ℕ) (gate shut : ℕ) (d0 : D) → ClosedAt gate front shut rest (seen d0) → Only (seen d0) (may_leave d0)
      → Behind front shut d0 d0
  begun front rest gate shut d0 ends only =
      let each : (c : List ℕ) → may_leave d0 c → StaysClosed front c = λ c now. record {
        gate = shut;
        rest = rest;
        file = only c now ∙ ends.file;
        closed = ends.closed;
      } in
      record {
        left = rest;
        file = ends.file;
        each = each;
        run = started moment left_since d0 (StaysClosed front) (λ c left. each c (only_now d0 c left));
      }

  module _ (front : List ℕ) (gate shut : ℕ) (place : length front ≡ gate) (closed : IsClosed shut) (d0 d : D) (so_far : Behind front shut d0 d)
      (at n : ℕ) (later : gate < at) (d1 : D) (crash : Follows (Torn at n) (may_leave d) (may_leave d1)) (time : Goes d d1) where
    now : ClosedAt gate front shut so_far.left (seen d)
    now = record { file = so_far.file; place = place; closed = closed }

    each_more : (c : List ℕ) → may_leave d1 c → StaysClosed front c
    each_more c left =
        let from = crash c left in
        let was = so_far.each from.0 from.1 in
        torn_behind front was.rest gate was.gate from.0 (record { file = was.file; place = place; closed = was.closed }) at n c later from.2

    pub run_more : LeavesOnly moment left_since d0 d1 (StaysClosed front)
    run_more = goes_on moment left_since d0 d d1 (StaysClosed front) (may_leave d1) so_far.run time each_more

    -- a piece that was written
    pub put_more : (piece : List ℕ) → WritesAt (seen d) at piece (seen d1) → Behind front shut d0 d1
    put_more piece writes = record {
      left = drop (gate + 1) (seen d1);
      file = still_closed front so_far.left gate shut (seen d) now at piece (seen d1) later writes;
      each = each_more;
      run = run_more;
    }

    -- and one that was written in part
    pub put_part : Torn at n (seen d) (seen d1) → Behind front shut d0 d1
    put_part torn = record {
      left = drop (gate + 1) (seen d1);
      file = torn_stays front so_far.left gate shut (seen d) now at n (seen d1) later torn;
      each = each_more;
      run = run_more;
    }

  -- a call that only reads, the pieces, and a sync
  pub run_behind : (front : List ℕ) (shut : ℕ) (d0 d1 d2 d3 : D) → Behind front shut d0 d0
      → ((c : List ℕ) → may_leave d1 c → may_leave d0 c) → Goes d0 d1 → Behind front shut d1 d2
      → ((c : List ℕ) → may_leave d3 c → may_leave d2 c) → Goes d2 d3 → LeavesOnly moment left_since d0 d3 (StaysClosed front)
  run_behind front shut d0 d1 d2 d3 first crash1 time1 put crash3 time3 =
      goes_on moment left_since d0 d2 d3 (StaysClosed front) (may_leave d3)
      (joined moment left_since d0 d1 d2 (StaysClosed front)
      (goes_on moment left_since d0 d0 d1 (StaysClosed front) (may_leave d1) first.run time1 (λ c now. first.each c (crash1 c now))) put.run)
      time3 (λ c now. put.each c (crash3 c now))
