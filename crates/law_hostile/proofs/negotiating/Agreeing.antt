-- The made are searched for an accepted response's base key, chain value and message; from there the law on negotiation.
use Rattle.std.proofs.Common.{◌≡◌, ℕ, zero, suc, ◌+◌, Bool, true, false, ◌&&◌, List, [], ◌∷◌, ◌⊎◌, inl, inr, refl}
use Rattle.std.proofs.Common.{arith, sym, ◌∙◌, subst}
use Rattle.std.proofs.Common.{Some, slice_get, add-one}
use Rattle.spec_exchange.specs.Content.{same_bytes}
use Rattle.spec_exchange.proofs.Content.{same_bytes-true, same_bytes-refl}
use Rattle.spec_crypto.specs.sessions.Chain.{first_value, hashed, Collide}
use Rattle.spec_world.specs.Answering.{Ending}
use Rattle.spec_world.specs.World.{World}
use Rattle.spec_world.specs.Statements.{IsWhole, IsSame, Agreed, AsMade, Collides, IsForged}
use Rattle.law_nonces.specs.negotiation.Keeping.{AreWhole}
use Rattle.law_nonces.proofs.negotiation.Tables.{none_there}
use Rattle.law_nonces.proofs.negotiation.Chains.{compared}
use Rattle.spec_hostile.specs.HostileNetwork.{HasCollided, OfEndings, repeated}
use Rattle.law_hostile.specs.negotiating.Negotiating.{RepeatNegotiation, SameTranscripts}
use Rattle.law_hostile.proofs.negotiating.Keeping.{repeats_keep}

-- two whole final responses of one chain value
pub of_one_chain : (e a : Ending) → IsWhole e → IsWhole a → e.chain ≡ a.chain
    → (e.transcript ≡ a.transcript) ⊎ Collide (hashed e.transcript) (hashed a.transcript)
of_one_chain e a other whole same =
    told (compared first_value first_value e.transcript a.transcript refl (other.five ∙ sym whole.five) (sym other.value
    ∙ same ∙ whole.value))
  where
    told : ((first_value ≡ first_value) × (e.transcript ≡ a.transcript)) ⊎ Collide (hashed e.transcript)
        (hashed a.transcript) → (e.transcript ≡ a.transcript) ⊎ Collide (hashed e.transcript) (hashed a.transcript)
    told (inl q) = inl q.1
    told (inr q) = inr q

agreed_with : (made : List Ending) (a : Ending) → IsWhole a → (i : ℕ) (e : Ending) → slice_get made i ≡ Some e
    → IsWhole e → e.chain ≡ a.chain → Agreed made a
agreed_with made a whole i e is other same = told (of_one_chain e a other whole same)
  where
    told : (e.transcript ≡ a.transcript) ⊎ Collide (hashed e.transcript) (hashed a.transcript) → Agreed made a
    told (inl q) = AsMade i e is q
    told (inr q) = Collides i e is q

-- an entry has the client's base key, chain value and message
unfoldable is_same : Ending → Ending → Bool
is_same e a = same_bytes e.base a.base && (same_bytes e.chain a.chain && same_bytes e.message a.message)

not_same : (e a : Ending) → is_same e a ≡ false → IsSame e a → ⊥
unfolding is_same
not_same e a off s =
    let p : same_bytes e.base a.base ≡ true = subst (λ v. same_bytes v a.base ≡ true) (sym s.base) (same_bytes-refl a.base) in
    let q : same_bytes e.chain a.chain ≡ true = subst (λ v. same_bytes v a.chain ≡ true) (sym s.value) (same_bytes-refl a.chain) in
    let r : same_bytes e.message a.message ≡ true = subst (λ v. same_bytes v a.message ≡ true) (sym s.message)
    (same_bytes-refl a.message) in
    apart (same_bytes e.base a.base) (same_bytes e.chain a.chain) (same_bytes e.message a.message) p q r off
  where
    apart : (x y z : Bool) → x ≡ true → y ≡ true → z ≡ true → (x && (y && z)) ≡ false → ⊥
    apart true true true p q r h = absurd (let t : true ≡ false = h in cc)
    apart true true false p q r h = absurd (cc)
    apart true false z p q r h = absurd (cc)
    apart false y z p q r h = absurd (cc)

same_of : (x y z : Bool) → (x && (y && z)) ≡ true → y ≡ true
same_of true true z e = refl
same_of true false z e = absurd (let t : false ≡ true = e in cc)
same_of false y z e = absurd (let t : false ≡ true = e in cc)

chains : (e a : Ending) → is_same e a ≡ true → e.chain ≡ a.chain
unfolding is_same
chains e a is = same_bytes-true e.chain a.chain (same_of (same_bytes e.base a.base) (same_bytes e.chain a.chain)
    (same_bytes e.message a.message) is)

abbrev NoneIn : List Ending → Ending → Type 0
NoneIn rest a = (i : ℕ) (e : Ending) → slice_get rest i ≡ Some e → IsSame e a → ⊥

-- among the first ones no entry is the same, or the law holds
searched : (made : List Ending) (a : Ending) → IsWhole a → AreWhole made → (rest : List Ending) (n : ℕ)
    → ((i : ℕ) (e : Ending) → slice_get rest i ≡ Some e → slice_get made (n + i) ≡ Some e)
    → Agreed made a ⊎ NoneIn rest a
searched made a whole all [] n at = inr (λ i e h s. none_there (λ _. ⊥) i e h)
searched made a whole all (x ∷ rest) n at =
    tested (is_same x a) refl (searched made a whole all rest (n + 1) (λ i e h. subst (λ j. slice_get made j ≡ Some e)
    (omega arith) (at (i + 1) e (rw (add-one) h))))
  where
    apart : NoneIn rest a → is_same x a ≡ false → NoneIn (x ∷ rest) a
    apart none off zero e h s = not_same x a off (subst (λ v. IsSame v a) (let q : Some x ≡ Some e = h in sym (cc)) s)
    apart none off (suc i) e h s = none i e h s

    later : Agreed made a ⊎ NoneIn rest a → is_same x a ≡ false → Agreed made a ⊎ NoneIn (x ∷ rest) a
    later (inl q) off = inl q
    later (inr none) off = inr (apart none off)

    tested : (b : Bool) → is_same x a ≡ b → Agreed made a ⊎ NoneIn rest a → Agreed made a ⊎ NoneIn (x ∷ rest) a
    tested true is more = inl (agreed_with made a whole (n + 0) x (at 0 x refl) (all (n + 0) x (at 0 x refl)) (chains x a is))
    tested false is more = later more is

agreed : (made : List Ending) (a : Ending) → IsWhole a → AreWhole made → Agreed made a
agreed made a whole all = told (searched made a whole all made 0 (λ i e h. subst (λ j. slice_get made j ≡ Some e) (omega arith) h))
  where
    told : Agreed made a ⊎ NoneIn made a → Agreed made a
    told (inl q) = q
    told (inr none) = IsForged none

pub negotiated : RepeatNegotiation
negotiated z es =
    let q = repeats_keep z es in
    record {
      accepted = λ i a is. (let p = q.accepted_whole i a is in record {
        whole = p.0;
        verified = p.1;
        agreed = agreed (repeated z es).world.made a p.0 q.made_whole;
      });
      made = q.made_whole;
    }

pub collided : (w : World) (i j : ℕ) (e a : Ending) → slice_get w.made i ≡ Some e → slice_get w.accepted j ≡ Some a
    → (e.transcript ≡ a.transcript) ⊎ Collide (hashed e.transcript) (hashed a.transcript) → (e.transcript ≡ a.transcript) ⊎ HasCollided w
collided w i j e a at on (inl q) = inl q
collided w i j e a at on (inr q) = inr (OfEndings i j e a at on q)

pub transcripts : SameTranscripts
transcripts z es i j e a at on same =
    let q = repeats_keep z es in
    collided (repeated z es).world i j e a at on (of_one_chain e a (q.made_whole i e at) (q.accepted_whole j a on).0 same)
