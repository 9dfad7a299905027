-- The server's response to NEGOTIATE fits, and the client takes what it chooses.
use Rattle.std.proofs.Common.{◌≡◌, ℕ, ◌+◌, ◌<◌, ◌^◌, ◌==◌, Bool, true, false, not, ◌&&◌, ◌||◌, if◌then◌else◌}
use Rattle.std.proofs.Common.{List, [], ◌∷◌, length, refl, sym, ap, ◌∙◌, subst, arith, Option, Some, None}
use Rattle.std.specs.Prelude.{is_none}
use Rattle.std.proofs.lemmas.List.{append-nil}
use Rattle.std.proofs.lemmas.Grind.{common_steps}
use Rattle.spec_wire.specs.messages.Places.{le, number_of, bytes_at, gap_to_8}
use Rattle.spec_wire.specs.messages.Contexts.{contexts_in, IsContextList}
use Rattle.spec_wire.specs.messages.Offer.{OfferValue, offer_in, offer_of, offer_fault, offer_spelling, offer_count}
use Rattle.spec_wire.specs.messages.Offer.{offer_contexts, ids_at, ids_in}
use Rattle.spec_wire.specs.messages.Offer.{first_of, has_id}
use Rattle.spec_wire.specs.messages.Negotiate.{NegotiateResponseValue, IsWritableNegotiateResponse}
use Rattle.spec_wire.specs.messages.Negotiate.{negotiate_response_in, negotiate_response_fault}
use Rattle.spec_wire.specs.messages.Negotiate.{negotiate_response_spelling, negotiate_request_in}
use Rattle.law_wire.specs.messages.Offers.{AreIds, IsWritableOffer}
use Rattle.law_wire.proofs.messages.WrittenOffers.{contexts_again, offer_whole, offer_again}
use Rattle.spec_exchange.specs.Operations.{BadChoice, NoSha512}
use Rattle.spec_crypto.specs.sessions.Choice.{is_cipher, is_signing, cipher_of, signing_of, chosen_with}
use Rattle.spec_crypto.specs.tokens.Der.{length_in, element, ends, spelled}
use Rattle.spec_crypto.specs.tokens.Spnego.{byte_is, spnego_named, octets, passed, names_ntlm, begins_with_ntlm}
use Rattle.spec_crypto.specs.tokens.Spnego.{names_in, mech_types, hints}
use Rattle.spec_crypto.specs.tokens.Spnego.{init_fields, init_choice, init_in, init_spelling}
use Rattle.spec_crypto.specs.tokens.Tokens.{hint_token}
use Rattle.spec_world.specs.Settings.{ClientSettings, chosen_of}
use Rattle.spec_world.specs.Negotiate.{client_offer, choice_offer, told_if, negotiated, negotiate_response_body}
use Rattle.spec_world.specs.Dialog.{response_contexts, has_contexts, was_offered, hashes_told, ciphers_told, signings_told, choice_fault}
use Rattle.spec_world.specs.Dialog.{first_or, chosen_told, is_hint}
use Rattle.law_ties.specs.wire_facts.Fitting.{IsFittingClient, AreCiphers, AreSignings}
use Rattle.law_ties.proofs.wire_facts.Greeting.{IsRead, negotiated_is, small_cipher, small_signing, few_contexts}

-- ---- the hint

pub hint_size : length hint_token ≡ 30
unfolding hint_token init_spelling spelled
hint_size = refl

pub hint_reads : is_hint hint_token ≡ true
unfolding is_hint hint_token init_spelling spelled length_in element ends byte_is spnego_named octets passed names_ntlm
    begins_with_ntlm names_in mech_types hints init_fields init_choice init_in number_of le bytes_at
hint_reads = refl

-- ---- what is chosen of lists that are known

chosen_cipher : (x : ℕ) (o : Option ℕ) → (chosen_with x o).cipher ≡ x
chosen_cipher x None = refl
chosen_cipher x (Some s) = refl

first_known : (c : ℕ) (cs : List ℕ) → is_cipher c ≡ true → cipher_of (c ∷ cs) ≡ c
unfolding cipher_of
first_known c cs e = ap (λ b. if b then c else cipher_of cs) e

pub cipher_small : (cs : List ℕ) → AreCiphers cs → cipher_of cs < 256 ^ 2
unfolding cipher_of
cipher_small [] i = omega arith
cipher_small (c ∷ cs) i = subst (λ n. n < 256 ^ 2) (sym (first_known c cs i.0)) (small_cipher c i.0)

same_id : (n : ℕ) → (n == n) ≡ true
same_id n = grind arith

has_cipher : (cs : List ℕ) (x : ℕ) → AreCiphers cs → x ≡ cipher_of cs → not (length cs == 0) ≡ true → has_id x cs ≡ true
unfolding has_id
has_cipher [] x i e filled = absurd (cc)
has_cipher (c ∷ cs) x i e filled =
    let is : x ≡ c = e ∙ first_known c cs i.0 in
    ap (λ n. (c == n) || has_id n cs) is ∙ ap (λ b. b || has_id c cs) (same_id c)

signing_by : (b : Bool) (t s : ℕ) (rest : Option ℕ) (P : Type 0) → (if b then Some t else rest) ≡ Some s
    → (b ≡ true → t ≡ s → P) → (rest ≡ Some s → P) → P
signing_by true t s rest P e f g = f refl (let q : Some t ≡ Some s = e in cc)
signing_by false t s rest P e f g = g e

or_later : (a b : Bool) → b ≡ true → (a || b) ≡ true
or_later true b e = refl
or_later false b e = e

has_signing : (ss : List ℕ) (s : ℕ) → signing_of ss ≡ Some s → has_id s ss ≡ true
unfolding signing_of has_id
has_signing [] s e = absurd (let q : None ≡ Some s = e in cc)
has_signing (t ∷ ss) s e =
    signing_by (is_signing t) t s (signing_of ss) _ e
    (λ _ is. ap (λ n. (t == n) || has_id n ss) (sym is) ∙ ap (λ b. b || has_id t ss) (same_id t))
    (λ later. or_later (t == s) (has_id s ss) (has_signing ss s later))

signing_small : (ss : List ℕ) (s : ℕ) → AreSignings ss → signing_of ss ≡ Some s → s < 256 ^ 2
unfolding signing_of
signing_small [] s i e = absurd (let q : None ≡ Some s = e in cc)
signing_small (t ∷ ss) s i e =
    signing_by (is_signing t) t s (signing_of ss) _ e
    (λ _ is. subst (λ n. n < 256 ^ 2) is (small_signing t i.0)) (λ later. signing_small ss s i.1 later)

-- ---- the offer that the response tells

abbrev pub told_offer : ClientSettings → OfferValue
told_offer c = choice_offer (client_offer c) (chosen_of c)

ids_if : (b : Bool) (x : ℕ) → x < 256 ^ 2 → AreIds (told_if b x)
ids_if true x e = (e, tt)
ids_if false x e = tt

few_if : (b : Bool) (x : ℕ) → length (told_if b x) < 32767
few_if true x = omega arith
few_if false x = omega arith

chosen_signing_small : (ss : List ℕ) (x : ℕ) (o : Option ℕ) → AreSignings ss → signing_of ss ≡ o → (chosen_with x o).signing < 256 ^ 2
chosen_signing_small ss x None i e = omega arith
chosen_signing_small ss x (Some s) i e = signing_small ss s i e

pub told_offer_fits : (c : ClientSettings) (salt : List ℕ) → IsFittingClient c → length salt ≡ 32 → IsWritableOffer (told_offer c) salt
told_offer_fits c salt i e = record {
  hash = λ _. refl;
  ciphers = ids_if (not (length c.ciphers == 0)) (chosen_of c).cipher
      (subst (λ n. n < 256 ^ 2) (sym (chosen_cipher (cipher_of c.ciphers) (signing_of c.signings))) (cipher_small c.ciphers i.ciphers));
  few_ciphers = few_if (not (length c.ciphers == 0)) (chosen_of c).cipher;
  signings = ids_if (chosen_of c).signing_told (chosen_of c).signing
      (chosen_signing_small c.signings (cipher_of c.ciphers) (signing_of c.signings) i.signings refl);
  few_signings = few_if (chosen_of c).signing_told (chosen_of c).signing;
  salted = e;
}

-- ---- the response

abbrev pub told_value : List ℕ → List ℕ → ℕ → OfferValue → NegotiateResponseValue
told_value guid salt now offer = record {
  security_mode = 3;
  dialect_revision = 0x311;
  negotiate_context_count = offer_count offer;
  server_guid = guid;
  capabilities = 0x1c;
  max_transact_size = 1048576;
  max_read_size = 1048576;
  max_write_size = 1048576;
  system_time = now;
  server_start_time = 0;
  security = hint_token;
  contexts = offer_spelling offer salt;
}

far_place : (b : Bool) (at : ℕ) → at ≡ 30 → (if b then 0 else 128 + at + gap_to_8 (128 + at)) < 256 ^ 4
far_place true at e = omega arith
far_place false at e = omega (arith, e)

pub told_list : (c : ClientSettings) (salt : List ℕ) → IsWritableOffer (told_offer c) salt
    → IsContextList (offer_spelling (told_offer c) salt) (offer_count (told_offer c))
told_list c salt w =
    let bare = append-nil (offer_spelling (told_offer c) salt) in
    let facts = contexts_again (told_offer c) salt [] w in
    subst (λ bytes. IsContextList bytes (offer_count (told_offer c))) bare
    (facts.1 ∙ ap length (sym bare))

pub told_fits : (c : ClientSettings) (guid salt : List ℕ) (now : ℕ) → length guid ≡ 16 → now < 256 ^ 8
    → IsWritableOffer (told_offer c) salt → IsWritableNegotiateResponse (told_value guid salt now (told_offer c))
told_fits c guid salt now g n w = record {
  fits = (
    omega arith,
    (
      omega arith,
      (
        omega arith,
        (
          few_contexts (length (told_offer c).ciphers == 0) (length (told_offer c).signings == 0),
          (
            g,
            (
              omega arith,
              (
                omega arith,
                (
                  omega arith,
                  (
                    omega arith,
                    (
                      n,
                      (
                        omega arith,
                        (
                          omega arith,
                          (
                            omega (arith, hint_size),
                            (far_place (offer_count (told_offer c) == 0) (length hint_token) hint_size, (refl, (refl, tt))),
                          ),
                        ),
                      ),
                    ),
                  ),
                ),
              ),
            ),
          ),
        ),
      ),
    ),
  );
  contexts = told_list c salt w;
}

pub told_is : (q : List ℕ) (c : ClientSettings) (salt guid answer_salt : List ℕ) (now : ℕ) → IsRead q c salt
    → negotiate_response_body guid answer_salt now q ≡ negotiate_response_spelling (told_value guid answer_salt now (told_offer c))
unfolding negotiate_response_body
told_is q c salt guid answer_salt now r =
    let offer : offer_in (negotiate_request_in q).contexts (negotiate_request_in q).negotiate_context_count ≡ client_offer c =
    ap (λ v. offer_in v.contexts v.negotiate_context_count) r.value ∙ r.offer_is in
    ap (λ o. negotiate_response_spelling (told_value guid answer_salt now (choice_offer o (negotiated q)))) offer
    ∙ ap (λ k. negotiate_response_spelling (told_value guid answer_salt now (choice_offer (client_offer c) k))) (negotiated_is q c salt r)

-- ---- what the client makes of it

pub record IsTold (r : List ℕ) (c : ClientSettings) (guid salt : List ℕ) (now : ℕ) : Type 0 where
  pub whole : negotiate_response_fault r ≡ None
  pub value : negotiate_response_in r ≡ told_value guid salt now (told_offer c)
  pub offer_fits : IsWritableOffer (told_offer c) salt

contexts_are : (r : List ℕ) (c : ClientSettings) (guid salt : List ℕ) (now : ℕ) → IsTold r c guid salt now
    → response_contexts r ≡ offer_contexts (told_offer c) salt
contexts_are r c guid salt now t =
    let bare = append-nil (offer_spelling (told_offer c) salt) in
    let facts = contexts_again (told_offer c) salt [] t.offer_fits in
    ap (λ (v : NegotiateResponseValue). contexts_in v.contexts 0 v.negotiate_context_count) t.value
    ∙ (ap (λ bytes. contexts_in bytes 0 (offer_count (told_offer c))) (sym bare) ∙ facts.0)

offer_told_is : (r : List ℕ) (c : ClientSettings) (guid salt : List ℕ) (now : ℕ) → IsTold r c guid salt now
    → offer_of (response_contexts r) ≡ told_offer c
offer_told_is r c guid salt now t =
    let facts = contexts_again (told_offer c) salt [] t.offer_fits in
    ap offer_of (contexts_are r c guid salt now t ∙ sym facts.0) ∙ offer_again (told_offer c) salt [] t.offer_fits

both : (a b : Bool) → a ≡ true → b ≡ true → (a && b) ≡ true
both true b e f = f
both false b e f = e

pub contexts_read : (r : List ℕ) (c : ClientSettings) (guid salt : List ℕ) (now : ℕ) → IsTold r c guid salt now → has_contexts r ≡ true
unfolding has_contexts
contexts_read r c guid salt now t =
    let bare = append-nil (offer_spelling (told_offer c) salt) in
    both (is_none (negotiate_response_fault r)) _ (ap is_none t.whole)
    (ap (λ (v : NegotiateResponseValue). is_none (offer_fault v.contexts v.negotiate_context_count)) t.value
    ∙ ap is_none (ap (λ bytes. offer_fault bytes (offer_count (told_offer c))) (sym bare)
    ∙ offer_whole (told_offer c) salt [] t.offer_fits))

-- SHA-512 alone is named
one_hash : (ciphers signings salt : List ℕ) → ids_in (first_of 1 (offer_contexts (record {
  sha512 = true;
  preauth = true;
  ciphers = ciphers;
  signings = signings;
}) salt)) ≡ 1 ∷ []
unfolding first_of ids_at bytes_at number_of le
one_hash ciphers signings salt = refl

hashes_are : (r : List ℕ) (c : ClientSettings) (guid salt : List ℕ) (now : ℕ) → IsTold r c guid salt now → hashes_told r ≡ 1 ∷ []
unfolding hashes_told
hashes_are r c guid salt now t =
    ap (λ cs. ids_in (first_of 1 cs)) (contexts_are r c guid salt now t)
    ∙ one_hash (told_offer c).ciphers (told_offer c).signings salt

pub ciphers_are : (r : List ℕ) (c : ClientSettings) (guid salt : List ℕ) (now : ℕ) → IsTold r c guid salt now
    → ciphers_told r ≡ (told_offer c).ciphers
unfolding ciphers_told
ciphers_are r c guid salt now t = ap (λ (o : OfferValue). o.ciphers) (offer_told_is r c guid salt now t)

pub signings_are : (r : List ℕ) (c : ClientSettings) (guid salt : List ℕ) (now : ℕ) → IsTold r c guid salt now
    → signings_told r ≡ (told_offer c).signings
unfolding signings_told
signings_are r c guid salt now t = ap (λ (o : OfferValue). o.signings) (offer_told_is r c guid salt now t)

any_told : (offered : List ℕ) (x : ℕ) (b : Bool) → (b ≡ true → has_id x offered ≡ true) → was_offered offered (told_if b x) ≡ true
any_told offered x true has = has refl
any_told offered x false has = refl

cipher_offered : (c : ClientSettings) → IsFittingClient c → was_offered c.ciphers (told_offer c).ciphers ≡ true
cipher_offered c i =
    any_told c.ciphers (chosen_of c).cipher (not (length c.ciphers == 0))
    (λ filled. has_cipher c.ciphers (chosen_of c).cipher i.ciphers (chosen_cipher (cipher_of c.ciphers) (signing_of c.signings)) filled)

signing_offered : (ss : List ℕ) (x : ℕ) (o : Option ℕ) → signing_of ss ≡ o
    → was_offered ss (told_if (chosen_with x o).signing_told (chosen_with x o).signing) ≡ true
signing_offered ss x None e = refl
signing_offered ss x (Some s) e = has_signing ss s e

no_choice_fault : (a b d e f : Bool) → a ≡ true → b ≡ true → d ≡ true → e ≡ true → f ≡ true
    → (if not a then Some (BadChoice 1) else if not b then Some NoSha512 else if not d then Some (BadChoice 2)
    else if not e then Some (BadChoice 3) else if not f then Some (BadChoice 4) else None) ≡ None
no_choice_fault true true true true true ea eb ed ee ef = refl
no_choice_fault false b d e f ea eb ed ee ef = absurd (cc)
no_choice_fault true false d e f ea eb ed ee ef = absurd (cc)
no_choice_fault true true false e f ea eb ed ee ef = absurd (cc)
no_choice_fault true true true false f ea eb ed ee ef = absurd (cc)
no_choice_fault true true true true false ea eb ed ee ef = absurd (cc)

one_there : has_id 1 (1 ∷ []) ≡ true
unfolding has_id
one_there = refl

pub choice_is_fine : (r : List ℕ) (c : ClientSettings) (guid salt : List ℕ) (now : ℕ) → IsFittingClient c → IsTold r c guid salt now
    → choice_fault c r ≡ None
unfolding choice_fault
choice_is_fine r c guid salt now i t =
    no_choice_fault ((negotiate_response_in r).dialect_revision == 0x311) (has_id 1 (hashes_told r)) (length (hashes_told r) == 1)
    (was_offered c.ciphers (ciphers_told r)) (was_offered c.signings (signings_told r))
    (ap (λ (v : NegotiateResponseValue). v.dialect_revision == 0x311) t.value)
    (ap (has_id 1) (hashes_are r c guid salt now t) ∙ one_there)
    (ap (λ hs. length hs == 1) (hashes_are r c guid salt now t))
    (ap (was_offered c.ciphers) (ciphers_are r c guid salt now t) ∙ cipher_offered c i)
    (ap (was_offered c.signings) (signings_are r c guid salt now t)
    ∙ signing_offered c.signings (cipher_of c.ciphers) (signing_of c.signings) refl)

pub hint_is_fine : (r : List ℕ) (c : ClientSettings) (guid salt : List ℕ) (now : ℕ) → IsTold r c guid salt now
    → is_hint (negotiate_response_in r).security ≡ true
hint_is_fine r c guid salt now t = ap (λ (v : NegotiateResponseValue). is_hint v.security) t.value ∙ hint_reads

-- ---- what the client has chosen then

filled_is : (c : ℕ) (cs : List ℕ) → not (length (c ∷ cs) == 0) ≡ true
filled_is c cs = grind (arith, common_steps)

first_cipher : (cs : List ℕ) (x : ℕ) → x ≡ cipher_of cs → first_or 0 (told_if (not (length cs == 0)) x) ≡ x
unfolding cipher_of
first_cipher [] x e = sym e
first_cipher (c ∷ cs) x e = ap (λ b. first_or 0 (told_if b x)) (filled_is c cs)

first_signing : (x : ℕ) (o : Option ℕ) → first_or 1 (told_if (chosen_with x o).signing_told (chosen_with x o).signing)
    ≡ (chosen_with x o).signing
first_signing x None = refl
first_signing x (Some s) = refl

pub cipher_is : (r : List ℕ) (c : ClientSettings) (guid salt : List ℕ) (now : ℕ) → IsTold r c guid salt now
    → (chosen_told r).cipher ≡ (chosen_of c).cipher
unfolding chosen_told
cipher_is r c guid salt now t =
    ap (first_or 0) (ciphers_are r c guid salt now t)
    ∙ first_cipher c.ciphers (chosen_of c).cipher (chosen_cipher (cipher_of c.ciphers) (signing_of c.signings))

pub signing_is : (r : List ℕ) (c : ClientSettings) (guid salt : List ℕ) (now : ℕ) → IsTold r c guid salt now
    → (chosen_told r).signing ≡ (chosen_of c).signing
unfolding chosen_told
signing_is r c guid salt now t =
    ap (first_or 1) (signings_are r c guid salt now t) ∙ first_signing (cipher_of c.ciphers) (signing_of c.signings)
