-- What stands in front of pairs of target information.
use Rattle.std.specs.Prelude.{◌≡◌, ℕ, ◌≤◌, ◌<◌, ◌⊎◌, List, length, drop, Option, Some, None}
use Rattle.std.specs.Borrow.{Bor}
use Rattle.spec_wire.specs.messages.Places.{number, bytes_at}
use Rattle.spec_crypto.specs.tokens.Pairs.{pair_size}
use Rattle.crypto_sessions.specs.declared.ntlmv2.pairs.Pair.{Pair}
use Rattle.crypto_sessions.specs.declared.ntlmv2.pairs.Front.{Front}
use Rattle.crypto_sessions.specs.declared.ntlmv2.pairs.Front.TheVariants.{Broken, End, One}

abbrev pub pair_lent : Option (Bor (List ℕ)) → Option (List ℕ)
pair_lent None = None
pair_lent (Some b) = Some b.now

-- a pair stands in front that isn't the end pair and fits
pub record PairStands (bytes : List ℕ) : Type 0 where
  pub told : 4 ≤ length bytes
  pub more : ¬ (number 2 bytes 0 ≡ 0)
  pub fits : pair_size bytes ≤ length bytes

-- no pair stands there that fits
abbrev pub Breaks : List ℕ → Type 0
Breaks bytes = (length bytes < 4) ⊎ (4 ≤ length bytes) × ¬ (number 2 bytes 0 ≡ 0) × (length bytes < pair_size bytes)

abbrev pub PairEnds : List ℕ → Type 0
PairEnds bytes = (4 ≤ length bytes) × (number 2 bytes 0 ≡ 0)

-- the parts of the pair in front
pub record IsPair (bytes : List ℕ) (p : Pair) : Type 0 where
  pub stands : PairStands bytes
  pub id : p.id ≡ number 2 bytes 0
  pub count : length p.value.now ≡ number 2 bytes 2
  pub value : p.value.now ≡ bytes_at (number 2 bytes 2) bytes 4
  pub rest : p.rest.now ≡ drop (pair_size bytes) bytes

abbrev pub IsPairFront : List ℕ → Front → Type 0
IsPairFront bytes Broken = Breaks bytes
IsPairFront bytes End = PairEnds bytes
IsPairFront bytes (One p) = IsPair bytes p
