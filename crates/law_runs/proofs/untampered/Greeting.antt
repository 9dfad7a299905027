-- The client's NEGOTIATE is short: it offers few algorithms.
use Rattle.std.proofs.Common.{◌≡◌, ℕ, ◌+◌, ◌*◌, ◌≤◌, ◌==◌, Bool, true, false, if◌then◌else◌, List, [], ◌∷◌, ◌++◌, length}
use Rattle.std.proofs.Common.{length-append, refl, arith}
use Rattle.std.proofs.lemmas.List.{length-take-le}
use Rattle.sha2.proofs.Facts256.{length-sha256}
use Rattle.spec_wire.specs.messages.Places.{le, gap_to_8}
use Rattle.spec_wire.specs.messages.Contexts.{Context, with_context, with_contexts, contexts_gap}
use Rattle.spec_wire.specs.messages.Offer.{OfferValue, ids_spelling, ids_contexts, offer_contexts, offer_spelling, preauth_context}
use Rattle.spec_wire.specs.messages.Negotiate.{negotiate_request_whole}
use Rattle.spec_wire.proofs.messages.Numbers.{length-le}
use Rattle.spec_exchange.specs.Client.{Client, SaidNegotiate}
use Rattle.spec_exchange.specs.Dialogs.{dialog_message}
use Rattle.spec_commands.proofs.Lengths.{total, length_fields}
use Rattle.spec_world.specs.Settings.{ClientSettings, WorldSettings, draw}
use Rattle.spec_world.specs.Negotiate.{client_offer, negotiate_request_body}
use Rattle.spec_world.specs.Sending.{request_header, greeting_text}
use Rattle.spec_world.specs.World.{World, salt_of, greeting_of}
use Rattle.law_ties.specs.wire_facts.Fitting.{IsFittingClient, IsFitting, IsSent, Bare}
use Rattle.law_ties.specs.wire_facts.Lawful.{IsLawful}
use Rattle.law_ties.proofs.wire_facts.Greeting.{asked_value}
use Rattle.law_ties.proofs.wire_facts.Setups.{request_fits}

-- ---- contexts

gap_few : (n : ℕ) → gap_to_8 n ≤ 7
gap_few n = omega arith

-- with a gap in front
abbrev weigh : List Context → ℕ
weigh [] = 0
weigh (c ∷ cs) = 15 + length c.bytes + weigh cs

one_context : (out : List ℕ) (c : Context) → length (with_context out c) ≤ length out + (15 + length c.bytes)
one_context out c =
    let gap = le (gap_to_8 (length out)) 0 in
    let a = out ++ gap in
    let b = a ++ le 2 c.kind in
    let d = b ++ le 2 (length c.bytes) in
    let e = d ++ le 4 0 in
    omega (
      arith,
      length-append out gap,
      length-le (gap_to_8 (length out)) 0,
      gap_few (length out),
      length-append a (le 2 c.kind),
      length-le 2 c.kind,
      length-append b (le 2 (length c.bytes)),
      length-le 2 (length c.bytes),
      length-append d (le 4 0),
      length-le 4 0,
      length-append e c.bytes,
    )

add_low : (a b c d e : ℕ) → a ≤ b + d → b ≤ c + e → a ≤ c + (e + d)
add_low a b c d e l m = omega (arith, l, m)

no_more : (n : ℕ) → n ≤ n + 0
no_more n = omega arith

contexts_few : (out : List ℕ) (cs : List Context) → length (with_contexts out cs) ≤ length out + weigh cs
unfolding with_contexts
contexts_few out [] = no_more (length out)
contexts_few out (c ∷ cs) =
    add_low (length (with_contexts (with_context out c) cs)) (length (with_context out c)) (length out) (weigh cs) (15 + length c.bytes)
    (contexts_few (with_context out c) cs) (one_context out c)

ids_long : (ids : List ℕ) → length (ids_spelling ids) ≡ 2 * length ids
ids_long [] = refl
ids_long (x ∷ xs) = omega (arith, length-append (le 2 x) (ids_spelling xs), length-le 2 x, ids_long xs)

ids_few : (kind : ℕ) (ids : List ℕ) → weigh (ids_contexts kind ids) ≤ 17 + 2 * length ids
ids_few kind [] = omega arith
ids_few kind (x ∷ xs) =
    let ids = x ∷ xs in
    omega (arith, length-append (le 2 (length ids)) (ids_spelling ids), length-le 2 (length ids), ids_long ids)

weigh_both : (cs ds : List Context) → weigh (cs ++ ds) ≡ weigh cs + weigh ds
weigh_both [] ds = omega arith
weigh_both (c ∷ cs) ds = omega (arith, weigh_both cs ds)

abbrev hash_ids : Bool → List ℕ
hash_ids b = if b then 1 ∷ [] else []

preauth_by : (salt : List ℕ) (b : Bool) → b ≡ true → length salt ≡ 32
    → length (le 2 (length (hash_ids b)) ++ (le 2 (length salt) ++ (ids_spelling (hash_ids b) ++ salt))) ≡ 38
preauth_by salt true e salted =
    let ids : List ℕ = hash_ids true in
    omega (
      arith,
      length-append (le 2 (length ids)) (le 2 (length salt) ++ (ids_spelling ids ++ salt)),
      length-le 2 (length ids),
      length-append (le 2 (length salt)) (ids_spelling ids ++ salt),
      length-le 2 (length salt),
      length-append (ids_spelling ids) salt,
      ids_long ids,
      salted,
    )
preauth_by salt false e salted = absurd (let h : false ≡ true = e in cc)

preauth_few : (v : OfferValue) (salt : List ℕ) → v.sha512 ≡ true → length salt ≡ 32 → length (preauth_context v salt).bytes ≡ 38
preauth_few v salt is salted = preauth_by salt v.sha512 is salted

offer_few : (c : ClientSettings) (salt : List ℕ) → IsFittingClient c → length salt ≡ 32
    → length (offer_spelling (client_offer c) salt) ≤ 200
offer_few c salt i salted =
    let v = client_offer c in
    let rest = ids_contexts 2 c.ciphers ++ ids_contexts 8 c.signings in
    let few_ciphers = i.few_ciphers in
    let few_signings = i.few_signings in
    omega (
      arith,
      contexts_few [] (offer_contexts v salt),
      preauth_few v salt refl salted,
      weigh_both (ids_contexts 2 c.ciphers) (ids_contexts 8 c.signings),
      ids_few 2 c.ciphers,
      ids_few 8 c.signings,
      few_ciphers,
      few_signings,
    )

-- ---- the request

context_gap_few : (count at : ℕ) → contexts_gap count at ≤ 7
context_gap_few count at = by (count == 0)
  where
    by : (b : Bool) → (if b then 0 else gap_to_8 at) ≤ 7
    by true = omega arith
    by false = gap_few at

two_bytes : length (le 2 0x311) ≡ 2
two_bytes = length-le 2 0x311

body_few : (c : ClientSettings) (salt : List ℕ) → IsFittingClient c → length salt ≡ 32 → length (negotiate_request_body c salt) ≤ 1000
unfolding negotiate_request_body total
body_few c salt i salted =
    let v = asked_value c salt in
    let guid = i.guid in
    omega (
      arith,
      length_fields (negotiate_request_whole v) [],
      two_bytes,
      guid,
      context_gap_few v.negotiate_context_count (100 + length v.dialects),
      offer_few c salt i salted,
    )

-- ---- the frame

draw_length : (seed : List ℕ) (n : ℕ) → length (draw seed n) ≡ 32
unfolding draw
draw_length seed n = length-sha256 (seed ++ le 8 n)

salt_long : (z : WorldSettings) (w : World) → length (salt_of z w) ≡ 32
salt_long z w = length-take-le 32 (draw z.seed w.draws) (let e = draw_length z.seed w.draws in omega (arith, e))

sent : (c : Client) (k : ℕ) → IsSent (dialog_message c k 0 (SaidNegotiate c.live)) 1
sent c k = record {
  charge_fits = omega arith;
  channel_sequence = omega arith;
  message_id = omega arith;
  tree_id = omega arith;
  session_id = omega arith;
}

pub greeting_short : (z : WorldSettings) → IsLawful z → IsFitting z → (w : World) (k : ℕ) → length (greeting_of z w k) ≤ 66000
unfolding greeting_text
greeting_short z law fit w k =
    let c = w.values.client in
    let m = dialog_message c k 0 (SaidNegotiate c.live) in
    let h = request_header m 1 0 false in
    let heads = law.headers in
    let body = negotiate_request_body z.client (salt_of z w) in
    let size : length (greeting_of z w k) ≡ 64 + length body =
    heads.size h body (greeting_of z w k) (request_fits m 0 false (sent c k) (omega arith)) (Bare refl) in
    omega (arith, size, body_few z.client (salt_of z w) fit.client (salt_long z w))
