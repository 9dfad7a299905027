use Rattle.std.proofs.Common.{◌<◌, length, map, subst}
use Rattle.serve_turns.specs.shared_book.Words.{view_of}
use Rattle.serve_turns.proofs.link_threads.Covering.{left_covered, swapped}
use Rattle.serve_turns.proofs.link_serving.Rolls.{leaves, swapped_less, swapped_stays, swapped_was}
use Rattle.serve_turns.proofs.link_threads.crew.join_one.Goals as goal

pub returns-in-Some-clause-served : goal.returns-in-Some-clause-served
returns-in-Some-clause-served g c = λ before others sent n was.
    let crew = c.args.crew.now in
    let taken = c.swap_remove-child in
    let s = taken.ensures in
    let e = c.finished.ensures in
    let low = subst (λ l. c.in-Some.at < length l) c.as_slice.ensures.value c.in-Some.ensures in
    e.served before others sent
    (map (λ r. (r.place, (view_of r.handle.promise.seat.value).number, r.handle.promise.link.value)) crew.running.items)
    (map (λ r. (r.place, (view_of r.handle.promise.seat.value).number, r.handle.promise.link.value)) taken.new.self.items) n
    (leaves (λ r. (
      r.place,
      (view_of r.handle.promise.seat.value).number,
      r.handle.promise.link.value,
    )) crew.running.items taken.new.self.items taken.result
    (swapped_was crew.running.items c.in-Some.at taken.result low s.value)
    (swapped crew.running.items taken.new.self.items c.in-Some.at taken.result low s.value s.items)
    (swapped_stays crew.running.items taken.new.self.items c.in-Some.at taken.result low s.value s.items)
    (swapped_less crew.running.items taken.new.self.items c.in-Some.at taken.result low s.value s.items)) was

pub returns-in-Some-clause-covered : goal.returns-in-Some-clause-covered
returns-in-Some-clause-covered g c = λ n was at low inside.
    let crew = c.args.crew.now in
    let taken = c.swap_remove-child in
    let s = taken.ensures in
    let e = c.finished.ensures in
    left_covered (λ r. r.place) n crew.roll.ends.items c.finished.new.roll.ends.items crew.running.items taken.new.self.items taken.result
    (swapped crew.running.items taken.new.self.items c.in-Some.at taken.result
    (subst (λ l. c.in-Some.at < length l) c.as_slice.ensures.value c.in-Some.ensures) s.value s.items)
    e.told e.others e.count was at low inside
