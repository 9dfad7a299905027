use Rattle.law_nonces.proofs.client_nonces.Runs.{to_server}
use Rattle.law_nonces.proofs.client_nonces.nonces_to_server_law.Goals as goal

pub returns : goal.returns
returns c = record { once = to_server }
