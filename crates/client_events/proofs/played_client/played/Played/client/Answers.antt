use Rattle.client_events.proofs.played_client.played.Played.client.Goals as goal

pub returns : goal.returns
returns c = c.self.view_is
