use Rattle.std.proofs.Common.{refl, ap}
use Rattle.spec_crypto.specs.sessions.Nonces.{NonceState}
use Rattle.client_ends.proofs.dialog_calls.ending.take_keys.Goals as goal

pub returns : goal.returns
returns c = record {
  talk = λ n s. record { purse = s.purse; awaited = s.awaited };
  keys = refl;
  encrypts = refl;
  channel = ap (λ (s : NonceState). s.channel) c.new-line.ensures;
  counter = ap (λ (s : NonceState). s.counter) c.new-line.ensures;
}
