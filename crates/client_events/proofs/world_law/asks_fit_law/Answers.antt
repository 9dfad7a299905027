use Rattle.client_events.proofs.world_law.Asked.{asking_fits, own_fits}
use Rattle.client_events.proofs.world_law.Events.{asks_alike, asks_first, asks_on}
use Rattle.client_events.proofs.world_law.asks_fit_law.Goals as goal

pub returns : goal.returns
returns c = record {
  first = asks_first;
  next = asks_on;
  alike = asks_alike;
  own = own_fits c.operation_fits_law.ensures.asked;
  asking = asking_fits c.operation_fits_law.ensures.attach;
}
