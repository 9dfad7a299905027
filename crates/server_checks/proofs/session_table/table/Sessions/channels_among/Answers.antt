use Rattle.std.proofs.Common.{refl, arith}
use Rattle.std.proofs.lemmas.List.{take_more}
use Rattle.spec_exchange.specs.CheckSetup.{count_channels}
use Rattle.server_checks.proofs.session_table.Counted.{one_more}
use Rattle.server_checks.proofs.session_table.table.Sessions.channels_among.Goals as goal

pub loop-connection-init : goal.loop-connection-init
unfolding count_channels
loop-connection-init c = (omega arith, λ s h. refl)

pub loop-connection-preserved : goal.loop-connection-preserved
loop-connection-preserved c = (
  omega (arith, c.loop-connection.invariant.0, c.channels_on-count.ensures.few),
  λ s h. rw (take_more c.args.connections.now c.loop-connection.connection-index 0 c.loop-connection-test.true)
      (one_more s.session_on c.args.session _ _ _ _ (c.loop-connection.invariant.1 s h) (c.channels_on-count.ensures.counted s h)),
)
