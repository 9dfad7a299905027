use Rattle.std.proofs.Common.{ap, ◌∙◌, subst}
use Rattle.serve_turns.specs.declared.shared_book.view.Stage.TheVariants.{Called}
use Rattle.serve_turns.specs.shared_book.Turns.{staged}
use Rattle.serve_turns.specs.shared_book.Seats.{Closes}
use Rattle.serve_turns.proofs.shared_book.Seating.{closes, closes_for, same_book}
use Rattle.serve_turns.proofs.shared_book.Applying.{opened_by}
use Rattle.serve_turns.proofs.shared_book.shared.SharedBook+B.close.Goals as goal

pub into_book-requires : goal.into_book-requires
into_book-requires g c =
    let t = c.draw-ticket.result in
    let o = opened_by c.args.seat.seat.me.0.opening c.args.seat.opened in
    let e = ap (λ m. m.0) c.wait.ensures.called ∙ ap (λ m. staged (Called t) m.0) c.draw-ticket.ensures.drawn in
    let x = closes g.B.Book.steps c.args.self.table.shared.key.value _ _ c.wait.new.seat.id t o.0 c.wait.new.seat.me.0
    c.take-slot.result c.close_with-closed.ensures.values.2
    (ap (λ v. v.stage) e) (ap (λ v. v.opening) e ∙ o.1) (ap (λ v. v.numbered) e ∙ c.args.seat.numbered) c.take-slot.ensures.value in
    (x.0, x.1)

pub returns : goal.returns
returns g c =
    let t = c.draw-ticket.result in
    let o = opened_by c.args.seat.seat.me.0.opening c.args.seat.opened in
    let e = ap (λ m. m.0) c.wait.ensures.called ∙ ap (λ m. staged (Called t) m.0) c.draw-ticket.ensures.drawn in
    let x = closes g.B.Book.steps c.args.self.table.shared.key.value _ _ c.wait.new.seat.id t o.0 c.wait.new.seat.me.0
    c.take-slot.result c.close_with-closed.ensures.values.2
    (ap (λ v. v.stage) e) (ap (λ v. v.opening) e ∙ o.1) (ap (λ v. v.numbered) e ∙ c.args.seat.numbered) c.take-slot.ensures.value in
    let same = same_book g.B.Book.steps c.args.self.table.shared.key.value x.0 c.into_book.result c.take-slot.result x.1
    c.into_book.ensures in
    record {
      closes = subst (Closes g.B.Book.steps c.args.seat.seat.me.0) same
          (closes_for g.B.Book.steps c.args.self.table.shared.key.value t c.args.seat.seat.me.0 c.wait.new.seat.me.0 x.0 e
          x.2);
    }
