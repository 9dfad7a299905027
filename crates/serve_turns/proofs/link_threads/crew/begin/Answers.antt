use Rattle.std.proofs.Common.{◌≡◌, ◌+◌, ℕ, List, [], ◌∷◌, ◌++◌, ◌∙◌, ap, map, refl}
use Rattle.std.proofs.lemmas.List.Elements.{All-push, All-same}
use Rattle.serve_turns.specs.link_serving.Serving.{IsNewSeat, LinksServed}
use Rattle.serve_turns.specs.shared_book.Words.{view_of, IsSeatOf}
use Rattle.serve_turns.proofs.connection_turns.Calls.{on_err}
use Rattle.serve_turns.proofs.link_serving.Rolls.{at_once_served, new_seat, one_more_served, those_served}
use Rattle.serve_turns.proofs.link_threads.Covering.{begun_covered, ended_covered, same_covered}
use Rattle.serve_turns.specs.link_serving.Passage.{IsLinkAt, IsOfLink, ServesOver}
use Rattle.serve_turns.proofs.link_threads.crew.begin.Goals as goal

pub returns-then-full-clause-covered : goal.returns-then-full-clause-covered
returns-then-full-clause-covered g c = λ was.
    let crew = c.args.crew.now in
    let e = c.serve_briefly-halts.ensures in
    ended_covered (λ r. r.place) c.args.place crew.roll.ends.items c.serve_briefly-halts.new.roll.ends.items crew.running.items
    (λ within. (e.told.0, e.told.2 within)) e.others e.count was

pub returns-in_ok-push-in-Ok-clause-covered : goal.returns-in_ok-push-in-Ok-clause-covered
returns-in_ok-push-in-Ok-clause-covered g c = λ was.
    let crew = c.args.crew.now in
    let running = c.reserve.new.self.items in
    let child = c.in-Ok.child in
    same_covered (λ r. r.place) (c.args.place + 1) crew.roll.ends.items (running ++ child ∷ []) c.push.new.self.items
    c.in_ok-push-in-Ok.ensures.items
    (begun_covered (λ r. r.place) c.args.place crew.roll.ends.items running child c.in-Ok.ensures.place
    (same_covered (λ r. r.place) c.args.place crew.roll.ends.items crew.running.items running c.reserve.ensures.items was))

pub returns-in-Err-clause-covered : goal.returns-in-Err-clause-covered
returns-in-Err-clause-covered g c = λ was.
    let crew = c.args.crew.now in
    let e = c.entered.ensures in
    let running = c.reserve.new.self.items in
    ended_covered (λ r. r.place) c.args.place crew.roll.ends.items c.entered.new.roll.ends.items running
    (λ within. (c.in-Err.end, e.told within)) e.others e.count
    (same_covered (λ r. r.place) c.args.place crew.roll.ends.items crew.running.items running c.reserve.ensures.items was)

pub returns-then-full-clause-served : goal.returns-then-full-clause-served
returns-then-full-clause-served g c = λ before others sent here was.
    c.serve_briefly-halts.ensures.served before others sent
    (map (λ r. (r.place, (view_of r.handle.promise.seat.value).number, r.handle.promise.link.value))
    c.args.crew.now.running.items) here was

pub returns-in_err-reserve-clause-let_go : goal.returns-in_err-reserve-clause-let_go
returns-in_err-reserve-clause-let_go g c =
    let crew = c.args.crew.now in
    let stay : (before others : ℕ) (sent : List (List ℕ))
    → LinksServed g.L.Link.told g.L.Link.given g.L.Link.left g.L.Link.written g.L.Link.faults g.L.Link.ended g.L.Link.number
    (g.S.Service.serves c.args.service.now) before others sent
    (map (λ r. (r.place, (view_of r.handle.promise.seat.value).number, r.handle.promise.link.value)) crew.running.items) c.args.place
    crew.roll.ends.items (view_of crew.roll.seat)
    → LinksServed g.L.Link.told g.L.Link.given g.L.Link.left g.L.Link.written g.L.Link.faults g.L.Link.ended g.L.Link.number
    (g.S.Service.serves c.args.service.now) before others sent
    (map (λ r. (r.place, (view_of r.handle.promise.seat.value).number, r.handle.promise.link.value)) c.reserve.new.self.items)
    c.args.place crew.roll.ends.items (view_of crew.roll.seat) = λ before others sent.
    those_served (ServesOver
    (IsOfLink g.L.Link.told g.L.Link.given g.L.Link.left g.L.Link.written g.L.Link.faults g.L.Link.ended g.L.Link.number before others
    sent)
    (g.S.Service.serves c.args.service.now)) (IsLinkAt g.L.Link.told g.L.Link.number g.L.Link.left before others sent)
    (λ r. (r.place, (view_of r.handle.promise.seat.value).number, r.handle.promise.link.value))
    crew.running.items c.reserve.new.self.items c.args.place crew.roll.ends.items (view_of crew.roll.seat) c.reserve.ensures.items in
    on_err _ _ stay

pub returns-in_ok-push-in-Ok-clause-served : goal.returns-in_ok-push-in-Ok-clause-served
returns-in_ok-push-in-Ok-clause-served g c = λ before others sent here was.
    let crew = c.args.crew.now in
    let child = c.in-Ok.child in
    let e = c.in-Ok.ensures in
    let n = (view_of c.seat-seat.result).number in
    one_more_served (ServesOver
    (IsOfLink g.L.Link.told g.L.Link.given g.L.Link.left g.L.Link.written g.L.Link.faults g.L.Link.ended g.L.Link.number before others
    sent)
    (g.S.Service.serves c.args.service.now)) (IsLinkAt g.L.Link.told g.L.Link.number g.L.Link.left before others sent)
    (λ r. (r.place, (view_of r.handle.promise.seat.value).number, r.handle.promise.link.value))
    crew.running.items c.reserve.new.self.items c.push.new.self.items child c.args.place n c.args.link crew.roll.ends.items
    (view_of crew.roll.seat) (view_of c.seat-seat.new.from) c.reserve.ensures.items c.in_ok-push-in-Ok.ensures.items
    (λ i. (e.place i, (e.seat i).number, e.link i)) c.seat-seat.ensures.made here was

pub returns-in_ok-push-in-Ok-clause-running : goal.returns-in_ok-push-in-Ok-clause-running
returns-in_ok-push-in-Ok-clause-running g c =
    let crew = c.args.crew.now in
    let child = c.in-Ok.child in
    let e = c.in-Ok.ensures in
    let o = (view_of crew.roll.seat).opening in
    All-same (λ r. IsSeatOf c.args.book.now r.handle.promise.seat.value × (r.handle.promise.service.value ≡ c.args.service.now)
    × IsNewSeat o (view_of r.handle.promise.seat.value)) c.push.new.self.items (crew.running.items ++ child ∷ [])
    (c.in_ok-push-in-Ok.ensures.items ∙ ap (λ l. l ++ child ∷ []) c.reserve.ensures.items)
    (All-push (λ r. IsSeatOf c.args.book.now r.handle.promise.seat.value × (r.handle.promise.service.value ≡ c.args.service.now)
    × IsNewSeat o (view_of r.handle.promise.seat.value)) crew.running.items child c.requires.running (
      e.runs.0,
      e.runs.1,
      new_seat o (view_of c.seat-seat.result).number (view_of crew.roll.seat)
          (view_of child.handle.promise.seat.value) (e.seat ∙ c.seat-seat.ensures.newcomer) refl,
    ))

pub returns-in-Err-clause-served : goal.returns-in-Err-clause-served
returns-in-Err-clause-served g c = λ before others sent here was.
    let crew = c.args.crew.now in
    let from = view_of c.seat-seat.result in
    let made = view_of c.seat-seat.new.from in
    let done = c.in-Err.ensures.done in
    let running = c.reserve.new.self.items in
    at_once_served (ServesOver
    (IsOfLink g.L.Link.told g.L.Link.given g.L.Link.left g.L.Link.written g.L.Link.faults g.L.Link.ended g.L.Link.number before others
    sent)
    (g.S.Service.serves c.args.service.now)) (IsLinkAt g.L.Link.told g.L.Link.number g.L.Link.left before others sent)
    crew.roll.ends.items c.entered.new.roll.ends.items c.args.place from.number (view_of c.in-Err.seat).number c.args.link
    (view_of crew.roll.seat) made (view_of c.entered.new.roll.seat)
    (c.entered.ensures.served from c.args.link done.2.0
    (new_seat made.opening from.number (view_of crew.roll.seat) from c.seat-seat.ensures.newcomer
    (ap (λ x. x.opening) c.seat-seat.ensures.made))
    done.1 c.requires.fresh done.2.1 before others sent)
    (ap (λ x. x.1.0) done.1) c.seat-seat.ensures.made
    (map (λ r. (r.place, (view_of r.handle.promise.seat.value).number, r.handle.promise.link.value)) running) here
    (those_served (ServesOver
    (IsOfLink g.L.Link.told g.L.Link.given g.L.Link.left g.L.Link.written g.L.Link.faults g.L.Link.ended g.L.Link.number before others sent)
    (g.S.Service.serves c.args.service.now)) (IsLinkAt g.L.Link.told g.L.Link.number g.L.Link.left before others sent)
    (λ r. (r.place, (view_of r.handle.promise.seat.value).number, r.handle.promise.link.value))
    crew.running.items running c.args.place crew.roll.ends.items (view_of crew.roll.seat) c.reserve.ensures.items was)
