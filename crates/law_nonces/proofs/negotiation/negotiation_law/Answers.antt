use Rattle.law_nonces.proofs.negotiation.Searched.{negotiated}
use Rattle.law_nonces.proofs.negotiation.negotiation_law.Goals as goal

pub returns : goal.returns
returns c = record { negotiated = negotiated }
