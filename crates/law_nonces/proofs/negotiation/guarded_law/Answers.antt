use Rattle.law_nonces.proofs.negotiation.Guarded.{guarded}
use Rattle.law_nonces.proofs.negotiation.guarded_law.Goals as goal

pub returns : goal.returns
returns c = record { guarded = guarded }
