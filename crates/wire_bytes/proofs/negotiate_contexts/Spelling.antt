-- Ids and contexts that are written.
use Rattle.std.proofs.Common.{◌≡◌, ℕ, ◌*◌, ◌^◌, ◌<◌, ◌≤◌, List, [], ◌∷◌, ◌++◌, length, true, false, Bool, refl, ap, ◌∙◌}
use Rattle.std.proofs.Common.{arith, length-append}
use Rattle.std.specs.Prelude.{if◌then◌else◌}
use Rattle.spec_wire.specs.messages.Places.{le}
use Rattle.spec_wire.specs.messages.Contexts.{Context, with_context, with_contexts}
use Rattle.spec_wire.specs.messages.Offer.{OfferValue, ids_spelling, ids_contexts, ids_context, preauth_ids}
use Rattle.spec_wire.specs.messages.Offer.{preauth_context, offer_spelling}
use Rattle.spec_wire.proofs.messages.Numbers.{length-le}

pub length-ids : (ids : List ℕ) → length (ids_spelling ids) ≡ 2 * length ids
length-ids [] = refl
length-ids (x ∷ xs) = omega (arith, length-append (le 2 x) (ids_spelling xs), length-le 2 x, length-ids xs)

pub ids_fit : (ids : List ℕ) → length ids < 32767 → length (le 2 (length ids) ++ ids_spelling ids) < 2 ^ 16
ids_fit ids few = omega (arith, length-append (le 2 (length ids)) (ids_spelling ids), length-le 2 (length ids), length-ids ids)

-- a list that isn't empty has its context
pub ids_there : (kind : ℕ) (ids : List ℕ) → 0 < length ids → ids_contexts kind ids ≡ ids_context kind ids ∷ []
ids_there kind [] some = absurd (omega (arith, some))
ids_there kind (x ∷ xs) some = refl

pub with_contexts-append : (out : List ℕ) (cs ds : List Context) → with_contexts (with_contexts out cs) ds ≡ with_contexts out (cs ++ ds)
unfolding with_contexts
with_contexts-append out [] ds = refl
with_contexts-append out (c ∷ cs) ds = with_contexts-append (with_context out c) cs ds

few_ids : (v : OfferValue) → length (preauth_ids v) ≤ 1
few_ids v = by_sha512 v.sha512
  where
    by_sha512 : (b : Bool) → length {A = ℕ} (if b then 1 ∷ [] else []) ≤ 1
    by_sha512 true = omega arith
    by_sha512 false = omega arith

pub preauth_fit : (v : OfferValue) (salt : List ℕ) → length salt ≡ 32 → length (preauth_context v salt).bytes < 2 ^ 16
preauth_fit v salt e =
    let ids = preauth_ids v in
    let tail = length-append (ids_spelling ids) salt in
    let salted = length-append (le 2 (length salt)) (ids_spelling ids ++ salt) in
    let all = length-append (le 2 (length ids)) (le 2 (length salt) ++ (ids_spelling ids ++ salt)) in
    omega (arith, e, tail, salted, all, length-le 2 (length ids), length-le 2 (length salt), length-ids ids, few_ids v)

-- the three kinds, one behind the other
pub written : (v : OfferValue) (salt one two three xs ys : List ℕ) → one
    ≡ with_contexts [] (if v.preauth then preauth_context v salt ∷ [] else [])
    → two ≡ with_contexts one (ids_contexts 2 xs) → xs ≡ v.ciphers → three ≡ with_contexts two (ids_contexts 8 ys) → ys
    ≡ v.signings → three ≡ offer_spelling v salt
written v salt one two three xs ys first second e third f =
    let preauth : List Context = if v.preauth then preauth_context v salt ∷ [] else [] in
    third ∙ ap (λ (l : List ℕ). with_contexts two (ids_contexts 8 l)) f
    ∙ ap (λ (o : List ℕ). with_contexts o (ids_contexts 8 v.signings))
    (second ∙ ap (λ (l : List ℕ). with_contexts one (ids_contexts 2 l)) e
    ∙ ap (λ (o : List ℕ). with_contexts o (ids_contexts 2 v.ciphers)) first)
    ∙ with_contexts-append (with_contexts [] preauth) (ids_contexts 2 v.ciphers) (ids_contexts 8 v.signings)
    ∙ with_contexts-append [] preauth (ids_contexts 2 v.ciphers ++ ids_contexts 8 v.signings)
