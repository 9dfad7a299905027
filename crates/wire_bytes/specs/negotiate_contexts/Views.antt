-- What a reader of contexts answers, and which types it saw.
use Rattle.std.specs.Prelude.{◌≡◌, ℕ, List, Some, None, Result, Ok, Err}
use Rattle.spec_wire.specs.messages.Offer.{OfferValue, has_id, offer_fault, offer_in}
use Rattle.spec_wire.specs.declared.messages.refusal.CtxError.{CtxError}
use Rattle.wire_bytes.specs.declared.negotiate_contexts.offer.Offer.{Offer}
use Rattle.wire_bytes.specs.declared.negotiate_contexts.kinds.Seen.{Seen}

abbrev pub offer : Offer → OfferValue
offer v = record { sha512 = v.sha512; preauth = v.preauth; ciphers = v.ciphers; signings = v.signings }

-- the offer that stands in the bytes, or the first break
abbrev pub ReadsOffer : List ℕ → ℕ → Result Offer CtxError → Type 0
ReadsOffer bytes count (Ok v) = (offer_fault bytes count ≡ None) × (offer v ≡ offer_in bytes count)
ReadsOffer bytes count (Err e) = offer_fault bytes count ≡ Some e

-- these types stood before
pub record Saw (seen : Seen) (before : List ℕ) : Type 0 where
  pub preauth : seen.preauth ≡ has_id 1 before
  pub encryption : seen.encryption ≡ has_id 2 before
  pub signing : seen.signing ≡ has_id 8 before
