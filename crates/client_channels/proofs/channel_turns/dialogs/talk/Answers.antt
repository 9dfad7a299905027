use Rattle.std.proofs.Common.{ℕ, ◌<◌, refl, subst, sym, ◌∙◌}
use Rattle.serve_turns.specs.shared_book.Words.{view_of}
use Rattle.client_channels.proofs.channel_turns.Linking.{pass_none, pass_on}
use Rattle.client_channels.specs.channel_turns.Links.{Passes, on}
use Rattle.client_channels.specs.channel_turns.Sides.{Ends, Runs, Talks}
use Rattle.client_channels.proofs.channel_turns.dialogs.talk.Goals as goal

pub loop-init : goal.loop-init
loop-init g c = record {
  same = (refl, refl, refl);
  kept = (refl, refl, refl);
  passes = pass_none g.L.Link.told g.L.Link.given g.L.Link.left g.L.Link.written g.L.Link.faults g.L.Link.ended
      (g.G.Gate.bars c.args.gate.now) c.args.aim.now c.args.course.now.channel
      (on (Talks c.args.dialog) c.args.wire.now.stream c.args.wire.now.link (view_of c.args.seat.now).own);
}

pub talk_on-requires-clause-own : goal.talk_on-requires-clause-own
talk_on-requires-clause-own g c = λ lifetimes bounds. c.loop.invariant.same.0 ∙ c.requires.own

pub talk_on-requires-clause-room : goal.talk_on-requires-clause-room
talk_on-requires-clause-room g c = λ lifetimes bounds. subst (λ (n : ℕ). 0 < n) (sym c.loop.invariant.kept.2) c.requires.room

pub loop-preserved : goal.loop-preserved
loop-preserved g c =
    let i = c.loop.invariant in
    let same = c.talk_on.ensures.same in
    let kept = c.talk_on.ensures.kept in
    record {
      same = (same.0 ∙ i.same.0, same.1 ∙ i.same.1, same.2 ∙ i.same.2);
      kept = (kept.0 ∙ i.kept.0, kept.1 ∙ i.kept.1, kept.2 ∙ i.kept.2);
      passes =
          pass_on g.L.Link.told g.L.Link.given g.L.Link.left g.L.Link.written g.L.Link.faults g.L.Link.ended
          (g.G.Gate.bars c.args.gate.now) c.args.aim.now c.args.course.now.channel
          (on (Talks c.args.dialog) c.args.wire.now.stream c.args.wire.now.link (view_of c.args.seat.now).own)
          (on (Talks c.loop.dialog) c.loop.wire.stream c.loop.wire.link (view_of c.loop.seat).own)
          (on (Talks c.talk_on.new.dialog) c.talk_on.new.wire.stream c.talk_on.new.wire.link (view_of c.talk_on.new.seat).own)
          c.loop.invariant.passes
          (subst (λ (n : ℕ). Passes g.L.Link.told g.L.Link.given g.L.Link.left g.L.Link.written g.L.Link.faults g.L.Link.ended
          (g.G.Gate.bars c.args.gate.now) c.args.aim.now n
          (on (Talks c.loop.dialog) c.loop.wire.stream c.loop.wire.link (view_of c.loop.seat).own)
          (on (Talks c.talk_on.new.dialog) c.talk_on.new.wire.stream c.talk_on.new.wire.link (view_of c.talk_on.new.seat).own))
          c.loop.invariant.kept.0
          c.in-On.ensures.talks);
    }

pub returns-in-Ready-clause-talks : goal.returns-in-Ready-clause-talks
returns-in-Ready-clause-talks g c =
    pass_on g.L.Link.told g.L.Link.given g.L.Link.left g.L.Link.written g.L.Link.faults g.L.Link.ended
    (g.G.Gate.bars c.args.gate.now) c.args.aim.now c.args.course.now.channel
    (on (Talks c.args.dialog) c.args.wire.now.stream c.args.wire.now.link (view_of c.args.seat.now).own)
    (on (Talks c.loop.dialog) c.loop.wire.stream c.loop.wire.link (view_of c.loop.seat).own)
    (on (Runs c.in-Ready.line) c.talk_on.new.wire.stream c.talk_on.new.wire.link (view_of c.talk_on.new.seat).own)
    c.loop.invariant.passes
    (subst (λ (n : ℕ). Passes g.L.Link.told g.L.Link.given g.L.Link.left g.L.Link.written g.L.Link.faults g.L.Link.ended
    (g.G.Gate.bars c.args.gate.now) c.args.aim.now n
    (on (Talks c.loop.dialog) c.loop.wire.stream c.loop.wire.link (view_of c.loop.seat).own)
    (on (Runs c.in-Ready.line) c.talk_on.new.wire.stream c.talk_on.new.wire.link (view_of c.talk_on.new.seat).own)) c.loop.invariant.kept.0
    c.in-Ready.ensures.talks)

pub returns-in-Ends-clause-talks : goal.returns-in-Ends-clause-talks
returns-in-Ends-clause-talks g c =
    pass_on g.L.Link.told g.L.Link.given g.L.Link.left g.L.Link.written g.L.Link.faults g.L.Link.ended
    (g.G.Gate.bars c.args.gate.now) c.args.aim.now c.args.course.now.channel
    (on (Talks c.args.dialog) c.args.wire.now.stream c.args.wire.now.link (view_of c.args.seat.now).own)
    (on (Talks c.loop.dialog) c.loop.wire.stream c.loop.wire.link (view_of c.loop.seat).own)
    (on Ends c.talk_on.new.wire.stream c.talk_on.new.wire.link (view_of c.talk_on.new.seat).own)
    c.loop.invariant.passes
    (subst (λ (n : ℕ). Passes g.L.Link.told g.L.Link.given g.L.Link.left g.L.Link.written g.L.Link.faults g.L.Link.ended
    (g.G.Gate.bars c.args.gate.now) c.args.aim.now n
    (on (Talks c.loop.dialog) c.loop.wire.stream c.loop.wire.link (view_of c.loop.seat).own)
    (on Ends c.talk_on.new.wire.stream c.talk_on.new.wire.link (view_of c.talk_on.new.seat).own)) c.loop.invariant.kept.0
    c.in-Ends.ensures.talks)
