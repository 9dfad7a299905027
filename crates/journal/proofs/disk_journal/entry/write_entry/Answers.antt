use Rattle.std.proofs.Common.{inl, List, ℕ, drop, length, ◌++◌}
use Rattle.journal.specs.disk_journal.Entry.{ClosedAt, StaysClosed, IsClosedOrOpened}
use Rattle.journal.proofs.disk_journal.Moments.{joined, weakened}
use Rattle.journal.proofs.disk_journal.entry.write_entry.Goals as goal

pub returns-in_err-stage_entry-clause-any_moment : goal.returns-in_err-stage_entry-clause-any_moment
returns-in_err-stage_entry-clause-any_moment g c = λ told front rest shut ends only.
    weakened g.D.Disk.moment g.D.Disk.left_since c.args.disk.now c.stage_entry.new.disk (StaysClosed front)
    (IsClosedOrOpened front c.args.behind.now) (λ b here. inl here) (c.stage_entry.ensures.any_moment told front rest shut ends only)

pub returns-clause-any_moment : goal.returns-clause-any_moment
returns-clause-any_moment g c = λ told front rest shut ends only.
    let behind : List ℕ = c.args.behind.now in
    let left : List ℕ = drop (length behind) rest in
    let first = c.in_ok-stage_entry.ensures.done told front rest shut ends only in
    let again : ClosedAt c.args.gate front shut (behind ++ left) (g.D.Disk.seen c.stage_entry.new.disk) = record {
      file = first.0;
      place = ends.place;
      closed = ends.closed;
    } in
    joined g.D.Disk.moment g.D.Disk.left_since c.args.disk.now c.stage_entry.new.disk c.open_gate.new.disk (IsClosedOrOpened front behind)
    (weakened g.D.Disk.moment g.D.Disk.left_since c.args.disk.now c.stage_entry.new.disk (StaysClosed front)
    (IsClosedOrOpened front behind) (λ b here. inl here) (c.stage_entry.ensures.any_moment told front rest shut ends only))
    (c.open_gate.ensures.any_moment told front behind left shut again first.1)

pub returns-clause-done : goal.returns-clause-done
returns-clause-done g c = λ told front rest shut ends only.
    let behind : List ℕ = c.args.behind.now in
    let left : List ℕ = drop (length behind) rest in
    let first = c.in_ok-stage_entry.ensures.done told front rest shut ends only in
    let again : ClosedAt c.args.gate front shut (behind ++ left) (g.D.Disk.seen c.stage_entry.new.disk) = record {
      file = first.0;
      place = ends.place;
      closed = ends.closed;
    } in
    c.open_gate.ensures.done told front behind left shut again first.1
