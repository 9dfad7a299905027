use Rattle.std.proofs.Common.{rules, ap, ◌∙◌}
use Rattle.serve_turns.specs.declared.shared_book.view.Stage.TheVariants.{Idle}
use Rattle.serve_turns.specs.shared_book.Turns.{staged}
use Rattle.serve_turns.proofs.shared_book.Turning.{takes_book}
use Rattle.serve_turns.specs.shared_book.Seats.{is_opened}
use Rattle.serve_turns.proofs.shared_book.Applying.{opened_by, worked, may_advance, advanced_to, may_pass, is_applied, ends_with}
use Rattle.serve_turns.proofs.shared_book.shared.SharedBook+B.apply.Goals as goal

pub load-place-requires : goal.load-place-requires
load-place-requires g c = (
  c.wait.ensures.same.0 ∙ (c.draw-ticket.ensures.same.0 ∙ c.requires.own),
  search rules,
  takes_book g.B.Book.steps _ _ _ c.draw-ticket.result _ (ap (λ m. m.0.stage) c.wait.ensures.called),
)

pub store-requires : goal.store-requires
store-requires g c =
    let steps = g.B.Book.steps in
    let o = opened_by c.args.seat.now.seat.me.0.opening c.args.seat.now.opened in
    let t = c.draw-ticket.result in
    let place = c.load-place.result in
    let reply = c.work-reply.result in
    let v = c.args.seat.now.seat.me.0 in
    let m4 = c.work-reply.new.seat.me in
    let w = worked steps t place c.args.event reply c.args.seat.now.seat.me c.draw-ticket.new.seat.me c.wait.new.seat.me
    c.load-place.new.seat.me m4
    c.args.seat.now.empty c.draw-ticket.ensures.drawn c.wait.ensures.called c.load-place.ensures.2 c.work-reply.ensures.works in (
      c.work-reply.ensures.same.0 ∙ (c.load-place.ensures.0 ∙ (c.wait.ensures.same.0 ∙ (c.draw-ticket.ensures.same.0 ∙ c.requires.own))),
      search rules,
      may_advance steps c.args.self.now.table.shared.key.value c.args.self.now.table.shared.table_id.slots
          c.work-reply.new.seat.id t place o.0 v c.args.event reply m4 w c.args.seat.now.numbered o.1,
    )

pub store-requires-2 : goal.store-requires-2
store-requires-2 g c =
    let steps = g.B.Book.steps in
    let o = opened_by c.args.seat.now.seat.me.0.opening c.args.seat.now.opened in
    let t = c.draw-ticket.result in
    let place = c.load-place.result in
    let reply = c.work-reply.result in
    let v = c.args.seat.now.seat.me.0 in
    let m4 = c.work-reply.new.seat.me in
    let w = worked steps t place c.args.event reply c.args.seat.now.seat.me c.draw-ticket.new.seat.me c.wait.new.seat.me
    c.load-place.new.seat.me m4
    c.args.seat.now.empty c.draw-ticket.ensures.drawn c.wait.ensures.called c.load-place.ensures.2 c.work-reply.ensures.works in
    let m5 = c.store.new.seat.me in
    let a = advanced_to steps t place v c.args.event reply m4 m5 w c.store.ensures.2 in (
      c.store.ensures.0 ∙ (c.work-reply.ensures.same.0
          ∙ (c.load-place.ensures.0 ∙ (c.wait.ensures.same.0 ∙ (c.draw-ticket.ensures.same.0 ∙ c.requires.own)))),
      search rules,
      may_pass steps c.args.self.now.table.shared.key.value c.args.self.now.table.shared.table_id.slots
          c.store.new.seat.id t place o.0 v c.args.event reply m4 m5 w o.1 a,
    )

pub returns-clause-applied : goal.returns-clause-applied
returns-clause-applied g c =
    let steps = g.B.Book.steps in
    let o = opened_by c.args.seat.now.seat.me.0.opening c.args.seat.now.opened in
    let t = c.draw-ticket.result in
    let place = c.load-place.result in
    let reply = c.work-reply.result in
    let v = c.args.seat.now.seat.me.0 in
    let m4 = c.work-reply.new.seat.me in
    let w = worked steps t place c.args.event reply c.args.seat.now.seat.me c.draw-ticket.new.seat.me c.wait.new.seat.me
    c.load-place.new.seat.me m4
    c.args.seat.now.empty c.draw-ticket.ensures.drawn c.wait.ensures.called c.load-place.ensures.2 c.work-reply.ensures.works in
    let a = advanced_to steps t place v c.args.event reply m4 c.store.new.seat.me w c.store.ensures.2 in
    is_applied steps t place o.0 v c.args.event reply m4 c.store-2.new.seat.me.0 w o.1 c.args.seat.now.numbered
    (ap (λ m. m.0) c.store-2.ensures.2 ∙ ap (λ m. staged Idle m.0) a)

pub invariant_of-seat : goal.invariant_of-seat
invariant_of-seat g c =
    let steps = g.B.Book.steps in
    let o = opened_by c.args.seat.now.seat.me.0.opening c.args.seat.now.opened in
    let t = c.draw-ticket.result in
    let place = c.load-place.result in
    let reply = c.work-reply.result in
    let v = c.args.seat.now.seat.me.0 in
    let m4 = c.work-reply.new.seat.me in
    let w = worked steps t place c.args.event reply c.args.seat.now.seat.me c.draw-ticket.new.seat.me c.wait.new.seat.me
    c.load-place.new.seat.me m4
    c.args.seat.now.empty c.draw-ticket.ensures.drawn c.wait.ensures.called c.load-place.ensures.2 c.work-reply.ensures.works in
    let a = advanced_to steps t place v c.args.event reply m4 c.store.new.seat.me w c.store.ensures.2 in
    let e = ap (λ m. m.0) c.store-2.ensures.2 ∙ ap (λ m. staged Idle m.0) a in
    record {
      empty = ap (λ m. m.1) c.store-2.ensures.2;
      idle = ap (λ m. m.0.stage) c.store-2.ensures.2;
      numbered = ap (λ w. w.numbered) e ∙ c.args.seat.now.numbered;
      opened = ap (λ w. is_opened w.opening) e ∙ c.args.seat.now.opened;
      undrawn = ap (λ w. w.drawn) e ∙ c.args.seat.now.undrawn;
      ends = ends_with steps v c.args.event reply place c.store-2.new.seat.me.0
          (is_applied steps t place o.0 v c.args.event reply m4 c.store-2.new.seat.me.0 w o.1 c.args.seat.now.numbered e);
    }
