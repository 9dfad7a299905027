-- An offer that its contexts can tell (MS-SMB2 2.2.3.1).
use Rattle.std.specs.Prelude.{◌≡◌, ℕ, ◌^◌, ◌<◌, true, List, [], ◌∷◌, length}
use Rattle.spec_wire.specs.messages.Offer.{OfferValue}

-- each number fits its two bytes
abbrev pub AreIds : List ℕ → Type 0
AreIds [] = Unit {0}
AreIds (x ∷ xs) = (x < 256 ^ 2) × AreIds xs

-- SHA-512 is named by a preauthentication context, the lists fit theirs, and the salt has 32 bytes
pub record IsWritableOffer (v : OfferValue) (salt : List ℕ) : Type 0 where
  pub hash : v.sha512 ≡ true → v.preauth ≡ true
  pub ciphers : AreIds v.ciphers
  pub few_ciphers : length v.ciphers < 32767
  pub signings : AreIds v.signings
  pub few_signings : length v.signings < 32767
  pub salted : length salt ≡ 32
