use Rattle.law_nonces.proofs.event_nonces.Seals.{answered_along}
use Rattle.law_nonces.proofs.event_nonces.Tables.{alone_draws, heard_draws, other_draws}
use Rattle.law_nonces.proofs.event_nonces.event_nonces_law.Goals as goal

pub returns : goal.returns
returns c = record { heard = heard_draws; other = other_draws; alone = alone_draws; sealed = answered_along }
