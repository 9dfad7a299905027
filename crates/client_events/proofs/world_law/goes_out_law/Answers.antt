use Rattle.client_events.proofs.world_law.Going.{asks_taken, sends_taken}
use Rattle.client_events.proofs.world_law.goes_out_law.Goals as goal

pub returns : goal.returns
returns c = record { sends = sends_taken; asks = asks_taken }
