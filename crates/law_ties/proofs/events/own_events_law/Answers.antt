use Rattle.law_ties.proofs.events.Own.{own_events}
use Rattle.law_ties.proofs.events.own_events_law.Goals as goal

pub returns : goal.returns
returns c = record { own = own_events }
