use Rattle.client_events.proofs.played_client.played.Played.new.Goals as goal

pub invariant_of-result : goal.invariant_of-result
invariant_of-result c = c.first-client.ensures.holds

pub returns : goal.returns
returns c = c.first-client.ensures.shown
