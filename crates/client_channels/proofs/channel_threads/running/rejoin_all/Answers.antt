use Rattle.std.proofs.Common.{◌++◌, ◌∙◌, refl, sym, ap, map, reverse}
use Rattle.std.proofs.lemmas.List.{append-nil}
use Rattle.serve_turns.specs.shared_book.Words.{view_of, IsSeatOf}
use Rattle.client_channels.specs.channel_threads.Seating.{IsAlone, seat_told}
use Rattle.client_channels.proofs.channel_threads.Each.{each_pop}
use Rattle.client_channels.proofs.channel_threads.Seated.{keeps_joined, makes_none, takes_in}
use Rattle.client_channels.proofs.channel_threads.Submitting.{none_left}
use Rattle.client_channels.proofs.channel_threads.running.rejoin_all.Goals as goal

pub loop-each-init : goal.loop-each-init
loop-each-init g c = record { own = c.requires.own; kept = ((refl, refl, refl), refl); all = c.requires.all; done = refl }

pub rejoin-requires : goal.rejoin-requires
rejoin-requires g c = record {
  own = (
    c.loop-each.invariant.own,
    (each_pop (λ k w. IsSeatOf c.args.book.now w.seat × IsAlone (view_of w.seat)) c.loop-each.worked.items c.pop.new.self.items c.in-Some.each
        c.in-Some.ensures.items c.loop-each.invariant.all).1.0,
  );
}

pub loop-each-preserved : goal.loop-each-preserved
loop-each-preserved g c =
    let i = c.loop-each.invariant in
    let parts = each_pop (λ k w. IsSeatOf c.args.book.now w.seat × IsAlone (view_of w.seat)) c.loop-each.worked.items
    c.pop.new.self.items c.in-Some.each
    c.in-Some.ensures.items i.all in
    let old = view_of c.loop-each.seat in
    let new = view_of c.rejoin.new.seat in
    let theirs = view_of c.in-Some.each.seat in
    let kept = keeps_joined old new theirs c.rejoin.ensures.rejoined in
    record {
      own = c.rejoin.ensures.same.0 ∙ i.own;
      kept = (
        (kept.0 ∙ i.kept.0.0, kept.1 ∙ i.kept.0.1, kept.2 ∙ i.kept.0.2),
        makes_none old new theirs parts.1.1 c.rejoin.ensures.rejoined ∙ i.kept.1,
      );
      all = parts.0;
      done =
          takes_in (λ w. view_of w.seat) old new c.loop-each.worked.items c.pop.new.self.items c.in-Some.each _ c.in-Some.ensures.items
          parts.1.1
          c.rejoin.ensures.rejoined i.done;
    }

pub returns-clause-ended : goal.returns-clause-ended
returns-clause-ended g c =
    let i = c.loop-each.invariant in
    sym (append-nil (view_of c.loop-each.seat).ended)
    ∙ sym (ap (λ l. (view_of c.loop-each.seat).ended ++ reverse (map (λ w. seat_told (view_of w.seat)) l))
    (none_left c.loop-each.worked.items (sym c.loop-each.worked.ok.0 ∙ c.in_default.ensures.cases.0)))
    ∙ i.done
    ∙ ap (λ l. l ++ reverse (map (λ w. seat_told (view_of w.seat)) c.args.worked.items)) c.requires.none
