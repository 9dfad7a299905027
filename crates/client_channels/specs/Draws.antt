-- What a channel draws.
use Rattle.std.specs.Prelude.{◌≡◌, ℕ, ◌+◌, List, ◌++◌, take}
use Rattle.sha2.specs.Sha256.{sha256}
use Rattle.spec_wire.specs.messages.Places.{le}
use Rattle.client_ends.specs.declared.ends.config.Fresh.{Fresh}

-- the n-th draw of a channel, n from 0
unfoldable pub channel_draw : List ℕ → ℕ → ℕ → List ℕ
channel_draw seed channel n = sha256 ((seed ++ le 4 channel) ++ le 8 n)

-- three draws, from this one on: the salt of a NEGOTIATE, and the challenge and the key of a logon
pub record IsFreshAt (seed : List ℕ) (channel first : ℕ) (f : Fresh) : Type 0 where
  pub salt : f.salt ≡ channel_draw seed channel first
  pub challenge : f.challenge ≡ take 8 (channel_draw seed channel (first + 1))
  pub key : f.key ≡ take 16 (channel_draw seed channel (first + 2))
