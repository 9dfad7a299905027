use Rattle.std.proofs.Common.{◌≡◌, ◌+◌, ◌<◌, ◌≤◌, ◌^◌, ◌++◌, ℕ, List, length, map}
use Rattle.std.specs.List.{All}
use Rattle.serve_turns.specs.shared_book.Words.{view_of, IsSeatOf}
use Rattle.serve_turns.specs.link_serving.Serving.{IsNewSeat, LinksServed}
use Rattle.serve_turns.specs.link_threads.Covering.{AreCovered}
use Rattle.serve_turns.proofs.link_threads.links.accept_each.Given as goal

abbrev pub invariant-loop-place : goal.invariant-loop-place
invariant-loop-place g l =
    IsSeatOf l.book l.crew.roll.seat
    × ((view_of l.crew.roll.seat).opening ≡ (view_of l.initial.crew.roll.seat).opening)
    × (length l.crew.roll.ends.items ≡ length l.initial.crew.roll.ends.items)
    × AreCovered (λ c. c.place) l.place l.crew.roll.ends.items l.crew.running.items
    × ((sent more : List (List ℕ)) → (g.N.L.Link.told → sent ≡ g.N.Net.sent l.net ++ more)
    → LinksServed g.N.L.Link.told g.N.L.Link.given g.N.L.Link.left g.N.L.Link.written g.N.L.Link.faults g.N.L.Link.ended g.N.L.Link.number
    (g.S.Service.serves l.service) (g.N.Net.accepted l.initial.net) (length (g.N.Net.sent l.initial.net)) sent
    (map (λ c. (c.place, (view_of c.handle.promise.seat.value).number, c.handle.promise.link.value)) l.crew.running.items)
    l.place l.crew.roll.ends.items (view_of l.crew.roll.seat))
    × All (λ c. IsSeatOf l.book c.handle.promise.seat.value × (c.handle.promise.service.value ≡ l.service)
    × IsNewSeat (view_of l.crew.roll.seat).opening (view_of c.handle.promise.seat.value)) l.crew.running.items
    × (g.N.Net.faults l.net ≡ g.N.Net.faults l.initial.net)
    × (g.N.Net.listens_at l.net ≡ g.N.Net.listens_at l.initial.net)
    × (g.N.Net.accepted l.initial.net + l.place < 2 ^ 64 → g.N.Net.accepted l.net ≡ g.N.Net.accepted l.initial.net + l.place)
    × (l.place ≤ l.count)
    × (g.N.L.Link.told → length (g.N.Net.sent l.net) ≡ length (g.N.Net.sent l.initial.net) + l.place)
