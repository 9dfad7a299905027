use Rattle.std.proofs.Common.{◌≡◌, ◌∙◌, ◌∷◌, ◌++◌, [], refl, arith, length, subst, sym}
use Rattle.std.proofs.lemmas.List.{append-nil}
use Rattle.std.specs.List.{All}
use Rattle.serve_turns.specs.link_serving.Serving.{IsNewSeat}
use Rattle.serve_turns.specs.shared_book.Words.{view_of, IsSeatOf}
use Rattle.serve_turns.proofs.link_threads.Accepting.{all_accepted, halted_behind, more_accepted}
use Rattle.serve_turns.proofs.link_threads.Accepting.{no_room_behind, none_accepted, none_further}
use Rattle.serve_turns.proofs.link_threads.Accepting.{accepted_next, longer, none_sent, sent_on}
use Rattle.serve_turns.proofs.link_threads.Covering.{none_covered}
use Rattle.serve_turns.proofs.link_threads.links.accept_each.Goals as goal

pub loop-place-init : goal.loop-place-init
loop-place-init g c =
    let r = c.requires in
    let crew = c.args.crew.now in (
      r.own,
      refl,
      refl,
      none_covered (λ r. r.place) crew.roll.ends.items crew.running.items,
      (λ sent more is. r.served.any (g.N.Net.accepted c.args.net.now) (length (g.N.Net.sent c.args.net.now)) sent),
      r.running,
      refl,
      refl,
      none_accepted (g.N.Net.accepted c.args.net.now),
      omega arith,
      (λ told. none_sent (length (g.N.Net.sent c.args.net.now))),
    )

pub loop-place-preserved : goal.loop-place-preserved
loop-place-preserved g c =
    let i = c.loop-place.invariant in
    let j = c.join_ended.ensures in
    let b = c.begin.ensures in
    let a = c.in-Ok.ensures in
    let before = g.N.Net.accepted c.args.net.now in
    let others = length (g.N.Net.sent c.args.net.now) in
    let place = c.loop-place.place in (
      b.own,
      b.opening ∙ (j.opening ∙ i.1),
      b.count ∙ (j.count ∙ i.2),
      c.in-Ok-begin.ensures.covered (j.covered c.loop-place.place i.3),
      (λ sent more is.
          let on : g.N.L.Link.told → sent ≡ g.N.Net.sent c.loop-place.net ++ g.N.L.Link.left c.in-Ok.link ∷ more = λ told.
          sent_on (g.N.Net.sent c.loop-place.net) (g.N.Net.sent c.accept.new.self) more sent (g.N.L.Link.left c.in-Ok.link) (a.sent told)
          (is told) in
          c.in-Ok-begin.ensures.served before others sent
          (accepted_next g.N.L.Link.told g.N.L.Link.number g.N.L.Link.left before others place (g.N.Net.accepted c.loop-place.net)
          (g.N.Net.sent c.loop-place.net) more sent c.in-Ok.link i.8 a.number i.10 on)
          (j.served before others sent place (i.4 sent (g.N.L.Link.left c.in-Ok.link ∷ more) on))),
      subst (λ o. All (λ r. IsSeatOf c.args.book.now r.handle.promise.seat.value × (r.handle.promise.service.value ≡ c.args.service.now)
          × IsNewSeat o (view_of r.handle.promise.seat.value)) c.begin.new.crew.running.items) (sym b.opening) b.running,
      c.in-Ok.ensures.cause ∙ i.6,
      c.accept.ensures.place ∙ i.7,
      more_accepted (g.N.Net.accepted c.args.net.now) (g.N.Net.accepted c.loop-place.net) (g.N.Net.accepted c.accept.new.self)
          c.loop-place.place i.8 c.in-Ok.ensures.accepted,
      omega (arith, c.loop-place-test.true),
      (λ told. longer (g.N.Net.sent c.loop-place.net) (g.N.Net.sent c.accept.new.self) (g.N.L.Link.left c.in-Ok.link) others place
          (a.sent told) (i.10 told)),
    )

pub returns-clause-covered : goal.returns-clause-covered
returns-clause-covered g c = λ is at low inside.
    c.loop-place.invariant.3 at (omega (arith, low, c.loop-place-test.false)) inside

pub returns-in-Err-clause-served : goal.returns-in-Err-clause-served
returns-in-Err-clause-served g c =
    let i = c.loop-place.invariant in (
      c.loop-place.place,
      none_further c.args.count c.loop-place.place (g.N.Net.accepted c.args.net.now) (g.N.Net.accepted c.loop-place.net)
          (g.N.Net.accepted c.accept.new.self) i.9 i.8 c.in-Err.ensures.failed.0,
      i.4 (g.N.Net.sent c.accept.new.self) [] (λ told. c.in-Err.ensures.failed.1 told ∙ sym (append-nil (g.N.Net.sent c.loop-place.net))),
    )

pub returns-then-is_halted-clause-served : goal.returns-then-is_halted-clause-served
returns-then-is_halted-clause-served g c =
    let i = c.loop-place.invariant in (
      c.loop-place.place,
      halted_behind c.args.count c.loop-place.place (g.N.Net.accepted c.args.net.now) (g.N.Net.accepted c.loop-place.net)
          (g.N.Net.accepted c.accept.new.self) i.9 i.8 c.in-Ok.ensures.accepted,
      i.4 (g.N.Net.sent c.accept.new.self) (g.N.L.Link.left c.in-Ok.link ∷ []) c.in-Ok.ensures.sent,
    )

pub returns-in-Err-begin-clause-served : goal.returns-in-Err-begin-clause-served
returns-in-Err-begin-clause-served g c =
    let i = c.loop-place.invariant in (
      c.loop-place.place,
      no_room_behind c.args.count c.loop-place.place (g.N.Net.accepted c.args.net.now) (g.N.Net.accepted c.loop-place.net)
          (g.N.Net.accepted c.accept.new.self) i.9 i.8 c.in-Ok.ensures.accepted,
      (let before = g.N.Net.accepted c.args.net.now in
          let others = length (g.N.Net.sent c.args.net.now) in
          let sent = g.N.Net.sent c.accept.new.self in
          c.in-Err-begin.ensures.let_go before others sent
          (c.join_ended.ensures.served before others sent c.loop-place.place
          (i.4 sent (g.N.L.Link.left c.in-Ok.link ∷ []) c.in-Ok.ensures.sent))),
    )

pub returns-clause-served : goal.returns-clause-served
returns-clause-served g c =
    let i = c.loop-place.invariant in (
      c.loop-place.place,
      all_accepted c.args.count c.loop-place.place (g.N.Net.accepted c.args.net.now) (g.N.Net.accepted c.loop-place.net)
          (g.N.Net.accepted c.loop-place.net) i.9 i.8 refl c.loop-place-test.false,
      i.4 (g.N.Net.sent c.loop-place.net) [] (λ told. sym (append-nil (g.N.Net.sent c.loop-place.net))),
    )
