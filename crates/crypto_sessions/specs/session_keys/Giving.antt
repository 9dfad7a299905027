-- One call for a nonce: the nonce of the counter, which goes on by one, or nothing where the counter stands at its last value.
use Rattle.std.specs.Prelude.{◌≡◌, ℕ, ◌+◌, ◌<◌, List, Result, Ok, Err}
use Rattle.spec_crypto.specs.sessions.Nonces.{NonceState, nonce_of, last_counter}
use Rattle.crypto_sessions.specs.declared.session_keys.nonces.Spent.{Spent}

abbrev pub GivesNonce : NonceState → NonceState → Result (List ℕ) Spent → Type 0
GivesNonce old new (Ok nonce) = (old.counter < last_counter) × (nonce ≡ nonce_of old) × (new ≡ record old { counter = old.counter + 1 })
GivesNonce old new (Err e) = (old.counter ≡ last_counter) × (new ≡ old)

-- calls one after the other, from the first state to the second
pub data NonceCalls : NonceState → NonceState → Type 0 where
  NoCall : (s : NonceState) → NonceCalls s s
  OneMore : (s t u : NonceState) (result : Result (List ℕ) Spent) → NonceCalls s t → GivesNonce t u result → NonceCalls s u
