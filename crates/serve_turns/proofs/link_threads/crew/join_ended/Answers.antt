use Rattle.std.proofs.Common.{◌≡◌, ◌∙◌, subst, sym}
use Rattle.std.specs.List.{All}
use Rattle.serve_turns.specs.link_serving.Serving.{IsNewSeat}
use Rattle.serve_turns.specs.shared_book.Words.{view_of, IsSeatOf}
use Rattle.serve_turns.proofs.link_threads.crew.join_ended.Goals as goal

pub loop-preserved : goal.loop-preserved
loop-preserved g c =
    let i = c.loop.invariant in
    let j = c.join_one.ensures in (
      j.own,
      j.opening ∙ i.1,
      j.count ∙ i.2,
      (λ n was. j.covered n (i.3 n was)),
      (λ before others sent n was. j.served before others sent n (i.4 before others sent n was)),
      subst (λ o. All (λ r. IsSeatOf c.args.book.now r.handle.promise.seat.value × (r.handle.promise.service.value ≡ c.args.service.now)
          × IsNewSeat o (view_of r.handle.promise.seat.value)) c.join_one.new.crew.running.items) (sym j.opening) j.running,
    )
