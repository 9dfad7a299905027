use Rattle.client_events.proofs.played_client.Coming.{held_first}
use Rattle.client_events.proofs.played_client.played.first.Goals as goal

pub returns : goal.returns
returns c =
    let e = c.new.ensures in
    record { holds = held_first c.new.result e.fits e.shown; shown = e.shown }
