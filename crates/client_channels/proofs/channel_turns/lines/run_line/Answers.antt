use Rattle.std.proofs.Common.{ℕ, ◌<◌, refl, subst, sym, ◌∙◌}
use Rattle.serve_turns.specs.shared_book.Words.{view_of}
use Rattle.client_channels.proofs.channel_turns.Linking.{pass_none, pass_on}
use Rattle.client_channels.specs.channel_turns.Links.{Passes, on}
use Rattle.client_channels.specs.channel_turns.Sides.{Ends, Runs}
use Rattle.client_channels.proofs.channel_turns.lines.run_line.Goals as goal

pub loop-init : goal.loop-init
loop-init g c = record {
  same = (refl, refl, refl);
  kept = (refl, refl, refl);
  passes = λ a. pass_none g.L.Link.told g.L.Link.given g.L.Link.left g.L.Link.written g.L.Link.faults g.L.Link.ended
      (g.G.Gate.bars c.args.gate.now) a c.args.course.now.channel
      (on (Runs c.args.line) c.args.wire.now.stream c.args.wire.now.link (view_of c.args.seat.now).own);
}

pub push_on-requires-clause-own : goal.push_on-requires-clause-own
push_on-requires-clause-own g c = λ lifetimes bounds. c.loop.invariant.same.0 ∙ c.requires.own

pub push_on-requires-clause-room : goal.push_on-requires-clause-room
push_on-requires-clause-room g c = λ lifetimes bounds. subst (λ (n : ℕ). 0 < n) (sym c.loop.invariant.kept.2) c.requires.room

pub loop-preserved : goal.loop-preserved
loop-preserved g c =
    let i = c.loop.invariant in
    let same = c.push_on.ensures.same in
    let kept = c.push_on.ensures.kept in
    record {
      same = (same.0 ∙ i.same.0, same.1 ∙ i.same.1, same.2 ∙ i.same.2);
      kept = (kept.0 ∙ i.kept.0, kept.1 ∙ i.kept.1, kept.2 ∙ i.kept.2);
      passes = λ a.
          pass_on g.L.Link.told g.L.Link.given g.L.Link.left g.L.Link.written g.L.Link.faults g.L.Link.ended
          (g.G.Gate.bars c.args.gate.now) a c.args.course.now.channel
          (on (Runs c.args.line) c.args.wire.now.stream c.args.wire.now.link (view_of c.args.seat.now).own)
          (on (Runs c.loop.line) c.loop.wire.stream c.loop.wire.link (view_of c.loop.seat).own)
          (on (Runs c.push_on.new.line) c.push_on.new.wire.stream c.push_on.new.wire.link (view_of c.push_on.new.seat).own)
          (c.loop.invariant.passes a)
          (subst (λ (n : ℕ). Passes g.L.Link.told g.L.Link.given g.L.Link.left g.L.Link.written g.L.Link.faults g.L.Link.ended
          (g.G.Gate.bars c.args.gate.now) a n
          (on (Runs c.loop.line) c.loop.wire.stream c.loop.wire.link (view_of c.loop.seat).own)
          (on (Runs c.push_on.new.line) c.push_on.new.wire.stream c.push_on.new.wire.link (view_of c.push_on.new.seat).own))
          c.loop.invariant.kept.0
          (c.in-None-push_on.ensures.pushes a));
    }

pub returns-in-Some-push_on-clause-runs : goal.returns-in-Some-push_on-clause-runs
returns-in-Some-push_on-clause-runs g c = λ a.
    pass_on g.L.Link.told g.L.Link.given g.L.Link.left g.L.Link.written g.L.Link.faults g.L.Link.ended
    (g.G.Gate.bars c.args.gate.now) a c.args.course.now.channel
    (on (Runs c.args.line) c.args.wire.now.stream c.args.wire.now.link (view_of c.args.seat.now).own)
    (on (Runs c.loop.line) c.loop.wire.stream c.loop.wire.link (view_of c.loop.seat).own)
    (on Ends c.push_on.new.wire.stream c.push_on.new.wire.link (view_of c.push_on.new.seat).own)
    (c.loop.invariant.passes a)
    (subst (λ (n : ℕ). Passes g.L.Link.told g.L.Link.given g.L.Link.left g.L.Link.written g.L.Link.faults g.L.Link.ended
    (g.G.Gate.bars c.args.gate.now) a n
    (on (Runs c.loop.line) c.loop.wire.stream c.loop.wire.link (view_of c.loop.seat).own)
    (on Ends c.push_on.new.wire.stream c.push_on.new.wire.link (view_of c.push_on.new.seat).own)) c.loop.invariant.kept.0
    (c.in-Some-push_on.ensures.pushes a))
