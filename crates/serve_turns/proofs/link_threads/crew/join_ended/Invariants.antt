use Rattle.std.proofs.Common.{◌≡◌, ℕ, List, length, map}
use Rattle.std.specs.List.{All}
use Rattle.serve_turns.specs.shared_book.Words.{view_of, IsSeatOf}
use Rattle.serve_turns.specs.link_serving.Serving.{IsNewSeat, LinksServed}
use Rattle.serve_turns.specs.link_threads.Covering.{AreCovered}
use Rattle.serve_turns.proofs.link_threads.crew.join_ended.Given as goal

abbrev pub invariant-loop : goal.invariant-loop
invariant-loop g l =
    IsSeatOf l.book l.crew.roll.seat
    × ((view_of l.crew.roll.seat).opening ≡ (view_of l.initial.crew.roll.seat).opening)
    × (length l.crew.roll.ends.items ≡ length l.initial.crew.roll.ends.items)
    × ((n : ℕ) → AreCovered (λ c. c.place) n l.initial.crew.roll.ends.items l.initial.crew.running.items
    → AreCovered (λ c. c.place) n l.crew.roll.ends.items l.crew.running.items)
    × ((before others : ℕ) (sent : List (List ℕ)) (n : ℕ)
    → LinksServed g.L.Link.told g.L.Link.given g.L.Link.left g.L.Link.written g.L.Link.faults g.L.Link.ended g.L.Link.number
    (g.S.Service.serves l.service) before others sent
    (map (λ c. (c.place, (view_of c.handle.promise.seat.value).number, c.handle.promise.link.value)) l.initial.crew.running.items) n
    l.initial.crew.roll.ends.items (view_of l.initial.crew.roll.seat)
    → LinksServed g.L.Link.told g.L.Link.given g.L.Link.left g.L.Link.written g.L.Link.faults g.L.Link.ended g.L.Link.number
    (g.S.Service.serves l.service) before others sent
    (map (λ c. (c.place, (view_of c.handle.promise.seat.value).number, c.handle.promise.link.value)) l.crew.running.items) n
    l.crew.roll.ends.items (view_of l.crew.roll.seat))
    × All (λ c. IsSeatOf l.book c.handle.promise.seat.value × (c.handle.promise.service.value ≡ l.service)
    × IsNewSeat (view_of l.crew.roll.seat).opening (view_of c.handle.promise.seat.value)) l.crew.running.items
