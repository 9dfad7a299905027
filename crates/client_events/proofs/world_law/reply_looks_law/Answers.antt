use Rattle.client_events.proofs.world_law.Placed.{acts_alike, looks}
use Rattle.client_events.proofs.world_law.reply_looks_law.Goals as goal

pub returns : goal.returns
returns c = record { after = looks; acts = acts_alike }
