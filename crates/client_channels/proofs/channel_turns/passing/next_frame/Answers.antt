use Rattle.std.proofs.Common.{ℕ, inr, refl, subst}
use Rattle.client_channels.proofs.channel_turns.Linking.{comes_if}
use Rattle.client_channels.proofs.channel_turns.passing.next_frame.Goals as goal

pub returns-then-not-passes-clause-comes : goal.returns-then-not-passes-clause-comes
returns-then-not-passes-clause-comes g c =
    inr (
      refl,
      refl,
      (
        c.args.course.now.turns,
        subst (λ (n : ℕ). g.G.Gate.bars c.args.gate.now n c.args.course.now.turns) c.from-channel.ensures
            (c.pass-passes.ensures c.if-not-passes.true),
      ),
    )

pub returns-clause-comes : goal.returns-clause-comes
returns-clause-comes g c =
    comes_if g.L.Link.told g.L.Link.given g.L.Link.left g.L.Link.written g.L.Link.faults g.L.Link.ended
    (g.G.Gate.bars c.args.gate.now) c.args.course.now.channel c.args.wire.now.link c.args.wire.now.stream c.take_frame.new.link
    c.take_frame.new.stream c.take_frame.result c.take_frame.ensures.comes
