-- The counter never goes back, so no nonce is given twice.
use Rattle.std.proofs.Common.{◌≡◌, ℕ, ◌+◌, ◌≤◌, ◌<◌, ◌^◌, ◌≢◌, List, Result, Ok, Err, ◌∙◌, refl, sym, ap, arith}
use Rattle.spec_crypto.specs.sessions.Nonces.{NonceState, nonce_of}
use Rattle.crypto_sessions.specs.declared.session_keys.nonces.Spent.{Spent}
use Rattle.crypto_sessions.specs.session_keys.Giving.{GivesNonce, NonceCalls, NoCall, OneMore}
use Rattle.law_crypto.proofs.sealing.Opening.{nonces_differ}

-- the same channel, and a counter that is no lower
record Onward (s t : NonceState) : Type 0 where
  channel : s.channel ≡ t.channel
  counter : s.counter ≤ t.counter

call_onward : (s t : NonceState) (result : Result (List ℕ) Spent) → GivesNonce s t result → Onward s t
call_onward s t (Ok nonce) g =
    let e : t.counter ≡ s.counter + 1 = ap (λ (n : NonceState). n.counter) (g.2) in
    record { channel = sym (ap (λ (n : NonceState). n.channel) (g.2)); counter = omega arith }
call_onward s t (Err e) g =
    let same : t.counter ≡ s.counter = ap (λ (n : NonceState). n.counter) (g.1) in
    record { channel = sym (ap (λ (n : NonceState). n.channel) (g.1)); counter = omega arith }

onward_on : (s t u : NonceState) → Onward s t → Onward t u → Onward s u
onward_on s t u a b = record { channel = a.channel ∙ b.channel; counter = omega (arith, a.counter, b.counter) }

onward : (s t : NonceState) → NonceCalls s t → Onward s t
onward s t (NoCall u) = record { channel = refl; counter = omega arith }
onward s t (OneMore a b u result calls g) = onward_on a b u (onward a b calls) (call_onward b u result g)

pub given_once : (old behind later last : NonceState) (first second : List ℕ) → old.channel < 2 ^ 16 → GivesNonce old
    behind (Ok first) → NonceCalls behind later → GivesNonce later last (Ok second) → first ≢ second
given_once old behind later last first second small g calls h same =
    let on : Onward behind later = onward behind later calls in
    let channel : old.channel ≡ later.channel = sym (ap (λ (n : NonceState). n.channel) (g.2)) ∙ on.channel in
    let counter : behind.counter ≡ old.counter + 1 = ap (λ (n : NonceState). n.counter) (g.2) in
    let one : nonce_of old ≡ nonce_of later = sym (g.1) ∙ (same ∙ h.1) in
    let states : old ≡ later = nonces_differ old later (omega (arith, g.0)) (omega (arith, h.0)) small (omega (
      arith,
      small,
      channel,
    )) one in
    let again : old.counter ≡ later.counter = ap (λ (n : NonceState). n.counter) states in
    absurd (omega (arith, again, counter, on.counter))
