use Rattle.world_steps.specs.Lists.{ChangedBelow, ClosesClient}
use Rattle.world_steps.proofs.cutting.close_clients.Given as goal

abbrev pub invariant-loop-channel : goal.invariant-loop-channel
invariant-loop-channel l = ChangedBelow ClosesClient l.channel-index l.initial.channel-items l.channel-items
