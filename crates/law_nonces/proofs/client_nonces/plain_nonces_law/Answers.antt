use Rattle.law_nonces.proofs.client_nonces.Untampered.{untampered}
use Rattle.law_nonces.proofs.client_nonces.plain_nonces_law.Goals as goal

pub returns : goal.returns
returns c = record {
  once = untampered c.sessions_law.ensures.fit c.nonces_to_client_law.ensures.once c.nonces_to_server_law.ensures.once;
}
