use Rattle.law_nonces.proofs.server_nonces.Runs.{to_client}
use Rattle.law_nonces.proofs.server_nonces.nonces_to_client_law.Goals as goal

pub returns : goal.returns
returns c = record { once = to_client }
