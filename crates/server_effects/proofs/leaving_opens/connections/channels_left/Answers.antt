use Rattle.std.proofs.Common.{arith}
use Rattle.server_effects.proofs.leaving_opens.Lost.{left_more, left_end}
use Rattle.server_effects.proofs.leaving_opens.connections.channels_left.Goals as goal

pub loop-connection-init : goal.loop-connection-init
loop-connection-init c = (omega arith, λ s h. omega arith)

pub loop-connection-preserved : goal.loop-connection-preserved
loop-connection-preserved c = (
  omega (arith, c.loop-connection.invariant.0, c.channel_left-count.ensures.few),
  λ s h. left_more s.session_on c.args.lost.now c.args.connections.now c.args.session c.loop-connection.connection-index
      c.loop-connection.count c.channel_left-count.result _ c.loop-connection-test.true (c.loop-connection.invariant.1 s h)
      (c.channel_left-count.ensures.counted s h),
)

pub returns : goal.returns
returns c = λ s h. left_end s.session_on c.args.lost.now c.args.connections.now c.args.session c.loop-connection.connection-index
    c.loop-connection.count _ (omega arith) (c.loop-connection.invariant.1 s h)
