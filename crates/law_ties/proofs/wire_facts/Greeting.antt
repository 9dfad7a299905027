-- The client's NEGOTIATE fits, and is chosen from.
use Rattle.std.proofs.Common.{◌≡◌, ℕ, ◌+◌, ◌<◌, ◌^◌, ◌==◌, Bool, true, false, not}
use Rattle.std.proofs.Common.{if◌then◌else◌, List, [], ◌∷◌, ◌++◌, length, refl, sym, ap, ◌∙◌, subst, arith, None, is_some}
use Rattle.std.proofs.lemmas.List.{append-nil}
use Rattle.std.proofs.lemmas.Bool.Decides.{nat_tests}
use Rattle.spec_wire.specs.messages.Places.{le, number_of, bytes_at, gap_to_8}
use Rattle.spec_wire.specs.messages.Header.{header_spelling}
use Rattle.spec_wire.specs.messages.Contexts.{IsContextList}
use Rattle.spec_wire.specs.messages.Offer.{OfferValue, offer_in, offer_fault, offer_spelling, offer_count, ids_at, has_id}
use Rattle.spec_wire.specs.messages.Negotiate.{NegotiateRequestValue, IsWritableNegotiateRequest, negotiate_request_in}
use Rattle.spec_wire.specs.messages.Negotiate.{negotiate_request_fault}
use Rattle.spec_wire.specs.messages.Negotiate.{negotiate_request_spelling}
use Rattle.law_wire.specs.messages.Offers.{AreIds, IsWritableOffer}
use Rattle.law_wire.proofs.messages.WrittenOffers.{contexts_again, offer_whole, offer_again}
use Rattle.spec_exchange.specs.Status.{success, invalid_parameter, not_supported}
use Rattle.spec_exchange.specs.State.{Message}
use Rattle.spec_crypto.specs.sessions.Choice.{is_cipher, is_signing}
use Rattle.spec_world.specs.Settings.{ClientSettings, chosen_of}
use Rattle.spec_world.specs.Messages.{message_spelling}
use Rattle.spec_world.specs.Negotiate.{client_offer, negotiate_request_body, has_dialect, negotiate_status, negotiated, client_told}
use Rattle.spec_world.specs.Negotiate.{choice_of_offer, choice_status, chosen_or_none}
use Rattle.spec_world.specs.Sending.{request_header, greeting_text}
use Rattle.law_ties.specs.wire_facts.Fitting.{IsFittingClient, AreCiphers, AreSignings}

-- ---- the offer

pub small_cipher : (c : ℕ) → is_cipher c ≡ true → c < 256 ^ 2
small_cipher c e = grind (arith, nat_tests)

pub small_signing : (s : ℕ) → is_signing s ≡ true → s < 256 ^ 2
small_signing s e = grind arith

cipher_ids : (cs : List ℕ) → AreCiphers cs → AreIds cs
cipher_ids [] i = tt
cipher_ids (c ∷ cs) i = (small_cipher c i.0, cipher_ids cs i.1)

signing_ids : (ss : List ℕ) → AreSignings ss → AreIds ss
signing_ids [] i = tt
signing_ids (s ∷ ss) i = (small_signing s i.0, signing_ids ss i.1)

pub offer_fits : (c : ClientSettings) (salt : List ℕ) → IsFittingClient c → length salt ≡ 32 → IsWritableOffer (client_offer c) salt
offer_fits c salt i e = record {
  hash = λ _. refl;
  ciphers = cipher_ids c.ciphers i.ciphers;
  few_ciphers = (let few = i.few_ciphers in omega (arith, few));
  signings = signing_ids c.signings i.signings;
  few_signings = (let few = i.few_signings in omega (arith, few));
  salted = e;
}

-- ---- the request

abbrev pub asked_value : ClientSettings → List ℕ → NegotiateRequestValue
asked_value c salt = record {
  security_mode = 3;
  capabilities = 0x1c;
  client_guid = c.guid;
  negotiate_context_count = offer_count (client_offer c);
  dialects = le 2 0x311;
  contexts = offer_spelling (client_offer c) salt;
}

two_bytes : length (le 2 0x311) ≡ 2
unfolding le
two_bytes = refl

pub few_contexts : (a b : Bool) → 1 + ((if a then 0 else 1) + (if b then 0 else 1)) < 256 ^ 2
few_contexts true true = omega arith
few_contexts true false = omega arith
few_contexts false true = omega arith
few_contexts false false = omega arith

near_place : (b : Bool) (at : ℕ) → at ≡ 2 → (if b then 0 else 100 + at + gap_to_8 (100 + at)) < 256 ^ 4
near_place true at e = omega arith
near_place false at e = omega (arith, e)

pub asked_list : (c : ClientSettings) (salt : List ℕ) → IsWritableOffer (client_offer c) salt
    → IsContextList (offer_spelling (client_offer c) salt) (offer_count (client_offer c))
asked_list c salt w =
    let bare = append-nil (offer_spelling (client_offer c) salt) in
    let facts = contexts_again (client_offer c) salt [] w in
    subst (λ bytes. IsContextList bytes (offer_count (client_offer c))) bare (facts.1 ∙ ap length (sym bare))

pub asked_fits : (c : ClientSettings) (salt : List ℕ) → IsFittingClient c → IsWritableOffer (client_offer c) salt
    → IsWritableNegotiateRequest (asked_value c salt)
asked_fits c salt i w = record {
  fits = (
    omega arith,
    (
      omega (arith, two_bytes),
      (
        omega arith,
        (
          omega arith,
          (
            i.guid,
            (
              near_place (offer_count (client_offer c) == 0) (length (le 2 0x311)) two_bytes,
              (few_contexts (length c.ciphers == 0) (length c.signings == 0), (omega (arith, two_bytes), (refl, tt))),
            ),
          ),
        ),
      ),
    ),
  );
  some = omega (arith, two_bytes);
  contexts = asked_list c salt w;
}

pub greeting_parts : (c : ClientSettings) (salt : List ℕ) (m : Message) → greeting_text c salt m
    ≡ header_spelling (request_header m 1 0 false) ++ (negotiate_request_spelling (asked_value c salt) ++ [])
unfolding greeting_text message_spelling negotiate_request_body
greeting_parts c salt m =
    ap (λ b. header_spelling (request_header m 1 0 false) ++ b) (sym (append-nil (negotiate_request_spelling (asked_value c salt))))

-- ---- what is made of it

dialect_there : has_dialect (le 2 0x311) ≡ true
unfolding has_dialect ids_at has_id bytes_at number_of le
dialect_there = refl

no_fault : (a b c : Bool) (status : ℕ) → a ≡ false → b ≡ true → c ≡ false → status ≡ success
    → (if a then invalid_parameter else if not b then not_supported else if c then invalid_parameter else status) ≡ success
no_fault false true false status ea eb ec e = e
no_fault true b c status ea eb ec e = absurd (cc)
no_fault false false c status ea eb ec e = absurd (cc)
no_fault false true true status ea eb ec e = absurd (cc)

pub record IsRead (m : List ℕ) (c : ClientSettings) (salt : List ℕ) : Type 0 where
  pub whole : negotiate_request_fault m ≡ None
  pub value : negotiate_request_in m ≡ asked_value c salt
  pub offer_whole : offer_fault (offer_spelling (client_offer c) salt) (offer_count (client_offer c)) ≡ None
  pub offer_is : offer_in (offer_spelling (client_offer c) salt) (offer_count (client_offer c)) ≡ client_offer c

pub read_of : (m : List ℕ) (c : ClientSettings) (salt : List ℕ)
    → (negotiate_request_fault m ≡ None) × (negotiate_request_in m ≡ asked_value c salt) → IsWritableOffer (client_offer c) salt
    → IsRead m c salt
read_of m c salt is w =
    let bare = append-nil (offer_spelling (client_offer c) salt) in
    record {
      whole = is.0;
      value = is.1;
      offer_whole = ap (λ b. offer_fault b (offer_count (client_offer c))) (sym bare) ∙ offer_whole (client_offer c) salt [] w;
      offer_is = ap (λ b. offer_in b (offer_count (client_offer c))) (sym bare) ∙ offer_again (client_offer c) salt [] w;
    }

pub status_is : (m : List ℕ) (c : ClientSettings) (salt : List ℕ) → IsRead m c salt → negotiate_status m ≡ success
unfolding negotiate_status
status_is m c salt r =
    no_fault (is_some (negotiate_request_fault m)) (has_dialect (negotiate_request_in m).dialects)
    (is_some (offer_fault (negotiate_request_in m).contexts (negotiate_request_in m).negotiate_context_count)) _
    (ap is_some r.whole)
    (ap (λ (v : NegotiateRequestValue). has_dialect v.dialects) r.value ∙ dialect_there)
    (ap (λ (v : NegotiateRequestValue). is_some (offer_fault v.contexts v.negotiate_context_count)) r.value ∙ ap is_some r.offer_whole)
    (ap (λ (v : NegotiateRequestValue). choice_status (choice_of_offer (offer_in v.contexts v.negotiate_context_count))) r.value
    ∙ ap (λ (o : OfferValue). choice_status (choice_of_offer o)) r.offer_is)

pub negotiated_is : (m : List ℕ) (c : ClientSettings) (salt : List ℕ) → IsRead m c salt → negotiated m ≡ chosen_of c
unfolding negotiated
negotiated_is m c salt r =
    ap (λ (v : NegotiateRequestValue). chosen_or_none (choice_of_offer (offer_in v.contexts v.negotiate_context_count))) r.value
    ∙ ap (λ (o : OfferValue). chosen_or_none (choice_of_offer o)) r.offer_is

pub client_is : (m : List ℕ) (c : ClientSettings) (salt : List ℕ) → IsRead m c salt → client_told m ≡ number_of c.guid
unfolding client_told
client_is m c salt r = ap (λ (v : NegotiateRequestValue). number_of v.client_guid) r.value
