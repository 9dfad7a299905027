use Rattle.std.proofs.Common.{◌≡◌, ◌∙◌, Some, map, subst, sym}
use Rattle.std.proofs.lemmas.List.Elements.{All-pop}
use Rattle.std.specs.List.{All}
use Rattle.serve_turns.specs.link_serving.Serving.{IsNewSeat}
use Rattle.serve_turns.specs.shared_book.Words.{view_of, IsSeatOf}
use Rattle.serve_turns.proofs.link_serving.Rolls.{leaves, none_served, popped_less, popped_stays, popped_was}
use Rattle.serve_turns.proofs.link_threads.Covering.{all_ended, left_covered, popped}
use Rattle.serve_turns.specs.link_serving.Passage.{IsLinkAt, IsOfLink, ServesOver}
use Rattle.serve_turns.proofs.link_threads.crew.join_all.Goals as goal

pub loop-child-preserved : goal.loop-child-preserved
loop-child-preserved g c =
    let i = c.loop-child.invariant in
    let e = c.finished.ensures in
    let crew = c.loop-child.crew in
    let child = c.in-Some.child in
    let rest = c.pop.new.self.items in (
      e.same.0 ∙ i.0,
      e.opening ∙ i.1,
      e.count ∙ i.2,
      (λ n was at low inside.
          left_covered (λ r. r.place) n crew.roll.ends.items c.finished.new.roll.ends.items crew.running.items rest child
          (popped crew.running.items rest child c.in-Some.ensures.items) e.told e.others e.count (i.3 n was) at low inside),
      (λ before others sent n was. e.served before others sent
          (map (λ r. (r.place, (view_of r.handle.promise.seat.value).number, r.handle.promise.link.value)) crew.running.items)
          (map (λ r. (r.place, (view_of r.handle.promise.seat.value).number, r.handle.promise.link.value)) rest) n
          (leaves (λ r. (r.place, (view_of r.handle.promise.seat.value).number, r.handle.promise.link.value)) crew.running.items rest child
          (popped_was crew.running.items rest child c.in-Some.ensures.items)
          (popped crew.running.items rest child c.in-Some.ensures.items)
          (popped_stays crew.running.items rest child c.in-Some.ensures.items)
          (popped_less crew.running.items rest child c.in-Some.ensures.items)) (i.4 before others sent n was)),
      subst (λ o. All (λ r. IsSeatOf c.args.book.now r.handle.promise.seat.value × (r.handle.promise.service.value ≡ c.args.service.now)
          × IsNewSeat o (view_of r.handle.promise.seat.value)) rest) (sym e.opening)
          (All-pop (λ r. IsSeatOf c.args.book.now r.handle.promise.seat.value × (r.handle.promise.service.value ≡ c.args.service.now)
          × IsNewSeat (view_of crew.roll.seat).opening (view_of r.handle.promise.seat.value))
          crew.running.items rest (Some child) c.in-Some.ensures.items i.5).0,
    )

pub returns-clause-ends : goal.returns-clause-ends
returns-clause-ends g c = λ n was at low inside.
    let i = c.loop-child.invariant in
    let crew = c.loop-child.crew in
    all_ended (λ r. r.place) n crew.roll.ends.items crew.running.items (sym crew.running.ok.0 ∙ c.in_default.ensures.cases.0) (i.3 n was)
    at low inside

pub returns-clause-served : goal.returns-clause-served
returns-clause-served g c = λ before others sent n was.
    let i = c.loop-child.invariant in
    let crew = c.loop-child.crew in
    none_served (ServesOver
    (IsOfLink g.L.Link.told g.L.Link.given g.L.Link.left g.L.Link.written g.L.Link.faults g.L.Link.ended g.L.Link.number before others
    sent)
    (g.S.Service.serves c.args.service.now)) (IsLinkAt g.L.Link.told g.L.Link.number g.L.Link.left before others sent)
    (λ r. (r.place, (view_of r.handle.promise.seat.value).number, r.handle.promise.link.value)) crew.running.items n crew.roll.ends.items
    (view_of crew.roll.seat) (sym crew.running.ok.0 ∙ c.in_default.ensures.cases.0) (i.4 before others sent n was)
