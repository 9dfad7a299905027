use Rattle.world_steps.specs.Lists.{ChangedBelow, ClosesServer}
use Rattle.world_steps.proofs.restarting.close_servers.Given as goal

abbrev pub invariant-loop-channel : goal.invariant-loop-channel
invariant-loop-channel l = ChangedBelow ClosesServer l.channel-index l.initial.channel-items l.channel-items
