use Rattle.std.proofs.Common.{ℕ, ap, subst, sym}
use Rattle.serve_turns.specs.link_serving.Serving.{Leaves}
use Rattle.serve_turns.specs.shared_book.Words.{view_of}
use Rattle.serve_turns.proofs.link_serving.Overs.{on_as}
use Rattle.serve_turns.proofs.link_threads.running.finished.Goals as goal

third : {A B C : Type 0} → A × B × C → C
third (a, b, c) = c

pub returns-clause-served : goal.returns-clause-served
returns-clause-served g c = λ before others sent running rest count left old.
    let child = c.args.child in
    let promise = child.handle.promise in
    let kept = c.join-end.ensures in
    c.entered.ensures.served (view_of promise.seat.value) promise.link.value kept.3.0 (third c.requires.runs) kept.1 kept.2
    (on_as g.L.Link.told g.L.Link.given g.L.Link.left g.L.Link.written g.L.Link.faults g.L.Link.ended g.S.Service.serves promise.service.value
    c.args.service.now promise.place child.place _ _ _ _ _ c.requires.runs.1 child.placed kept.3.1) before others sent running rest count
    (subst (λ (n : ℕ). Leaves (child.place, n, promise.link.value) running rest) (sym (ap (λ x. x.1.0) kept.1)) left) old
