use Rattle.client_events.proofs.played_client.played.is_live.Goals as goal

pub returns : goal.returns
returns c = λ d s. c.is_live.ensures d s.table.session
