-- How long the response to a NEGOTIATE is at most, and which one it is.
use Rattle.std.proofs.Common.{◌≡◌, ℕ, ◌+◌, ◌-◌, ◌%◌, ◌<◌, ◌≤◌, ◌==◌, Bool, true, false, if◌then◌else◌, List, [], ◌∷◌, ◌++◌}
use Rattle.std.proofs.Common.{length, length-append, refl, ap, ◌∙◌, arith}
use Rattle.spec_wire.specs.messages.Places.{le, gap_to_8}
use Rattle.spec_wire.proofs.messages.Numbers.{length-le}
use Rattle.spec_wire.specs.messages.Contexts.{Context, with_context, with_contexts}
use Rattle.spec_wire.specs.messages.Offer.{OfferValue, offer_contexts, offer_count, offer_spelling, ids_contexts, preauth_context}
use Rattle.spec_wire.specs.messages.Offer.{ids_spelling, preauth_ids}
use Rattle.spec_wire.specs.messages.Negotiate.{NegotiateResponseValue, negotiate_response_spelling, negotiate_response_whole}
use Rattle.spec_commands.proofs.Lengths.{total, length_fields}
use Rattle.spec_crypto.specs.declared.sessions.choice.Chosen.{Chosen}
use Rattle.spec_crypto.specs.tokens.Tokens.{hint_token}
use Rattle.spec_world.specs.Negotiate.{offer_told, negotiated, choice_offer, negotiate_response_body}

-- ---- contexts

gap_few : (n : ℕ) → (8 - n % 8) % 8 ≤ 7
gap_few n = omega arith

one_more : (out : List ℕ) (c : Context) → length (with_context out c) ≤ length out + 15 + length c.bytes
one_more out c =
    let zeros : List ℕ = le (gap_to_8 (length out)) 0 in
    let gap = length-le (gap_to_8 (length out)) 0 in
    let kind = length-le 2 c.kind in
    let size = length-le 2 (length c.bytes) in
    let last = length-le 4 0 in
    let a = length-append out zeros in
    let b = length-append (out ++ zeros) (le 2 c.kind) in
    let d = length-append ((out ++ zeros) ++ le 2 c.kind) (le 2 (length c.bytes)) in
    let e = length-append (((out ++ zeros) ++ le 2 c.kind) ++ le 2 (length c.bytes)) (le 4 0) in
    let f = length-append ((((out ++ zeros) ++ le 2 c.kind) ++ le 2 (length c.bytes)) ++ le 4 0) c.bytes in
    omega (arith, gap_few (length out), gap, kind, size, last, a, b, d, e, f)

-- the bytes of contexts, each with what stands around it
unfoldable most : List Context → ℕ
most [] = 0
most (c ∷ cs) = 15 + length c.bytes + most cs

all_short : (out : List ℕ) (cs : List Context) → length (with_contexts out cs) ≤ length out + most cs
unfolding with_contexts most
all_short out [] = omega arith
all_short out (c ∷ cs) = omega (arith, one_more out c, all_short (with_context out c) cs)

most_append : (cs ds : List Context) → most (cs ++ ds) ≡ most cs + most ds
unfolding most
most_append [] ds = omega arith
most_append (c ∷ cs) ds = omega (arith, most_append cs ds)

ids_few : (kind : ℕ) (ids : List ℕ) → length ids ≤ 1 → most (ids_contexts kind ids) ≤ 19
unfolding most le
ids_few kind [] few = omega arith
ids_few kind (x ∷ []) few = (let size : most (ids_contexts kind (x ∷ [])) ≡ 19 = refl in omega (arith, size))
ids_few kind (x ∷ y ∷ zs) few = absurd (omega (arith, few))

hashes_few : (b : Bool) → length (ids_spelling (if b then 1 ∷ [] else [])) ≤ 2
unfolding le
hashes_few true = (let size : length (ids_spelling (1 ∷ [])) ≡ 2 = refl in omega (arith, size))
hashes_few false = omega arith

preauth_long : (v : OfferValue) (salt : List ℕ) → length salt ≡ 32 → length (preauth_context v salt).bytes ≤ 38
preauth_long v salt e =
    let ids : List ℕ = ids_spelling (preauth_ids v) in
    let count : ℕ = length (preauth_ids v) in
    let few : length ids ≤ 2 = hashes_few v.sha512 in
    let a = length-le 2 count in
    let b = length-le 2 (length salt) in
    let d = length-append (le 2 count) (le 2 (length salt) ++ (ids ++ salt)) in
    let f = length-append (le 2 (length salt)) (ids ++ salt) in
    let g = length-append ids salt in
    omega (arith, e, few, a, b, d, f, g)

if_few : (b : Bool) (c : Context) → length c.bytes ≤ 38 → most (if b then c ∷ [] else []) ≤ 53
unfolding most
if_few true c few = omega (arith, few)
if_few false c few = omega arith

pub contexts_short : (v : OfferValue) (salt contexts : List ℕ) → length salt ≡ 32 → length v.ciphers ≤ 1 → length v.signings ≤ 1
    → contexts ≡ offer_spelling v salt → length contexts ≤ 128
contexts_short v salt contexts e ciphers signings is =
    let first = if_few v.preauth (preauth_context v salt) (preauth_long v salt e) in
    let front : List Context = if v.preauth then preauth_context v salt ∷ [] else [] in
    let behind : List Context = ids_contexts 2 v.ciphers ++ ids_contexts 8 v.signings in
    let sum = most_append front behind in
    let two = most_append (ids_contexts 2 v.ciphers) (ids_contexts 8 v.signings) in
    let all = all_short [] (offer_contexts v salt) in
    let size : length contexts ≡ length (offer_spelling v salt) = ap length is in
    omega (arith, first, sum, two, all, size, ids_few 2 v.ciphers ciphers, ids_few 8 v.signings signings)

-- ---- the response

gap_told : (b : Bool) (n : ℕ) → (if b then 0 else (8 - n % 8) % 8) ≤ 7
gap_told true n = omega arith
gap_told false n = omega arith

pub response_short : (v : NegotiateResponseValue) (body : List ℕ) → length v.server_guid ≡ 16 → length v.security < 65536
    → length v.contexts ≤ 128 → body ≡ negotiate_response_spelling v → length body ≤ 1113984
unfolding total
response_short v body guid security contexts is =
    let size : length body ≡ length (negotiate_response_spelling v) = ap length is in
    let fields = length_fields (negotiate_response_whole v) [] in
    let gap = gap_told (v.negotiate_context_count == 0) (128 + length v.security) in
    omega (arith, guid, security, contexts, size, fields, gap)

abbrev pub response_value : List ℕ → ℕ → ℕ → List ℕ → List ℕ → NegotiateResponseValue
response_value guid now count hint contexts = record {
  security_mode = 3;
  dialect_revision = 0x311;
  negotiate_context_count = count;
  server_guid = guid;
  capabilities = 0x1c;
  max_transact_size = 1048576;
  max_read_size = 1048576;
  max_write_size = 1048576;
  system_time = now;
  server_start_time = 0;
  security = hint;
  contexts = contexts;
}

pub response_is : (guid salt : List ℕ) (now : ℕ) (m : List ℕ) (offer told : OfferValue) (chosen : Chosen) (count : ℕ)
    (hint contexts body : List ℕ) → offer ≡ offer_told m → chosen ≡ negotiated m → told ≡ choice_offer offer chosen
    → count ≡ offer_count told → hint ≡ hint_token → contexts ≡ offer_spelling told salt
    → body ≡ negotiate_response_spelling (response_value guid now count hint contexts)
    → body ≡ negotiate_response_body guid salt now m
unfolding negotiate_response_body
response_is guid salt now m offer told chosen count hint contexts body o k t n h x is =
    let due : OfferValue = choice_offer (offer_told m) (negotiated m) in
    let same : told ≡ due =
    t ∙ (ap (λ (v : OfferValue). choice_offer v chosen) o ∙ ap (λ (v : Chosen). choice_offer (offer_told m) v) k) in
    is
    ∙ (ap (λ (v : ℕ). negotiate_response_spelling (response_value guid now v hint contexts))
    (n ∙ ap (λ (v : OfferValue). offer_count v) same)
    ∙ (ap (λ (v : List ℕ). negotiate_response_spelling (response_value guid now (offer_count due) v contexts)) h
    ∙ ap (λ (v : List ℕ). negotiate_response_spelling (response_value guid now (offer_count due) hint_token v))
    (x ∙ ap (λ (v : OfferValue). offer_spelling v salt) same)))
