-- The client's NEGOTIATE behind its header.
use Rattle.std.proofs.Common.{◌≡◌, ℕ, List, [], ◌∷◌, refl}
use Rattle.spec_wire.specs.messages.Places.{le}
use Rattle.spec_wire.specs.messages.Offer.{offer_count, offer_spelling}
use Rattle.spec_wire.specs.messages.Negotiate.{negotiate_request_spelling}
use Rattle.spec_world.specs.Settings.{ClientSettings}
use Rattle.spec_world.specs.Negotiate.{client_offer, negotiate_request_body}

dialect_is : 17 ∷ 3 ∷ [] ≡ le 2 0x311
unfolding le
dialect_is = refl

pub body_is : (c : ClientSettings) (salt contexts : List ℕ) (count : ℕ) → contexts ≡ offer_spelling (client_offer c) salt
    → count ≡ offer_count (client_offer c)
    → negotiate_request_spelling (record {
      security_mode = 3;
      capabilities = 0x1c;
      client_guid = c.guid;
      negotiate_context_count = count;
      dialects = 17 ∷ 3 ∷ [];
      contexts = contexts;
    }) ≡ negotiate_request_body c salt
unfolding negotiate_request_body
body_is c salt contexts count x n = λ t. negotiate_request_spelling (record {
  security_mode = 3;
  capabilities = 0x1c;
  client_guid = c.guid;
  negotiate_context_count = n t;
  dialects = dialect_is t;
  contexts = x t;
})
