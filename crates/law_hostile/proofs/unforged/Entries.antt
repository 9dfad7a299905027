-- Whether an entry is among those that were signed.
use Rattle.std.proofs.Common.{◌≡◌, ℕ, zero, suc, ◌+◌, ◌==◌, Bool, true, false, ◌&&◌, List, [], ◌∷◌, ◌⊎◌, inl, inr, refl, ◌∙◌, ap, subst}
use Rattle.std.proofs.Common.{Some, None, slice_get, add-one, eqb-true, eq-eqb}
use Rattle.law_server.proofs.tables.Logic.{front_of, back_of, both}
use Rattle.spec_exchange.specs.Content.{same_bytes}
use Rattle.spec_exchange.proofs.Content.{same_bytes-true, same_bytes-refl}
use Rattle.spec_hostile.specs.SignedFor.{Secret, KeyPlace, OnOpening, InSession, SignedEntry}

abbrev same_way : Bool → Bool → Bool
same_way true b = b
same_way false true = false
same_way false false = true

way_is : (a b : Bool) → same_way a b ≡ true → a ≡ b
way_is true true e = refl
way_is true false e = absurd (let t : false ≡ true = e in cc)
way_is false true e = absurd (let t : false ≡ true = e in cc)
way_is false false e = refl

way_same : (a : Bool) → same_way a a ≡ true
way_same true = refl
way_same false = refl

abbrev same_place : KeyPlace → KeyPlace → Bool
same_place (OnOpening j m) (OnOpening k n) = (j == k) && (m == n)
same_place (OnOpening j m) (InSession y) = false
same_place (InSession x) (OnOpening k n) = false
same_place (InSession x) (InSession y) = x == y

place_is : (p q : KeyPlace) → same_place p q ≡ true → p ≡ q
place_is (OnOpening j m) (OnOpening k n) e =
    let a = eqb-true j k (front_of (j == k) (m == n) e) in
    let b = eqb-true m n (back_of (j == k) (m == n) e) in
    ap (λ i. OnOpening i m) a ∙ ap (λ i. OnOpening k i) b
place_is (OnOpening j m) (InSession y) e = absurd (let t : false ≡ true = e in cc)
place_is (InSession x) (OnOpening k n) e = absurd (let t : false ≡ true = e in cc)
place_is (InSession x) (InSession y) e = ap InSession (eqb-true x y e)

place_same : (p : KeyPlace) → same_place p p ≡ true
place_same (OnOpening j m) = both (j == j) (m == m) (eq-eqb j j refl) (eq-eqb m m refl)
place_same (InSession x) = eq-eqb x x refl

abbrev secret_of : List ℕ → List ℕ → Secret
secret_of b v = record { base = b; value = v }

abbrev same_secret : Secret → Secret → Bool
same_secret a b = same_bytes a.base b.base && same_bytes a.value b.value

secret_is : (a b : Secret) → same_secret a b ≡ true → a ≡ b
secret_is a b e =
    let x = same_bytes-true a.base b.base (front_of (same_bytes a.base b.base) (same_bytes a.value b.value) e) in
    let y = same_bytes-true a.value b.value (back_of (same_bytes a.base b.base) (same_bytes a.value b.value) e) in
    made a.base b.base a.value b.value x y
  where
    made : (i j v w : List ℕ) → i ≡ j → v ≡ w → secret_of i v ≡ secret_of j w
    made i j v w x y = ap (λ l. secret_of l v) x ∙ ap (λ l. secret_of j l) y

secret_same : (a : Secret) → same_secret a a ≡ true
secret_same a = both (same_bytes a.base a.base) (same_bytes a.value a.value) (same_bytes-refl a.base) (same_bytes-refl a.value)

abbrev entry_of : Bool → Secret → KeyPlace → List ℕ → SignedEntry
entry_of way s p m = record { to_server = way; secret = s; place = p; message = m }

-- the same parts make the same entry
pub entry_made : (e : SignedEntry) (way : Bool) (s : Secret) (p : KeyPlace) (m : List ℕ) → e.to_server ≡ way → e.secret ≡ s
    → e.place ≡ p → e.message ≡ m → e ≡ record { to_server = way; secret = s; place = p; message = m }
entry_made e way s p m a b c d =
    ap (λ v. entry_of v e.secret e.place e.message) a
    ∙ (ap (λ v. entry_of way v e.place e.message) b ∙ (ap (λ v. entry_of way s v e.message) c ∙ ap (λ v. entry_of way s p v) d))

abbrev same_entry : SignedEntry → SignedEntry → Bool
same_entry e x =
    same_way e.to_server x.to_server && (same_secret e.secret x.secret && (same_place e.place x.place && same_bytes e.message x.message))

entry_is : (e x : SignedEntry) → same_entry e x ≡ true → e ≡ x
entry_is e x h =
    let a = front_of (same_way e.to_server x.to_server)
    (same_secret e.secret x.secret && (same_place e.place x.place && same_bytes e.message x.message)) h in
    let r = back_of (same_way e.to_server x.to_server)
    (same_secret e.secret x.secret && (same_place e.place x.place && same_bytes e.message x.message)) h in
    let b = front_of (same_secret e.secret x.secret) (same_place e.place x.place && same_bytes e.message x.message) r in
    let s = back_of (same_secret e.secret x.secret) (same_place e.place x.place && same_bytes e.message x.message) r in
    let c = front_of (same_place e.place x.place) (same_bytes e.message x.message) s in
    let d = back_of (same_place e.place x.place) (same_bytes e.message x.message) s in
    entry_made e x.to_server x.secret x.place x.message (way_is e.to_server x.to_server a) (secret_is e.secret x.secret b)
    (place_is e.place x.place c) (same_bytes-true e.message x.message d)

entry_same : (e : SignedEntry) → same_entry e e ≡ true
entry_same e =
    both (same_way e.to_server e.to_server) (same_secret e.secret e.secret && (same_place e.place e.place && same_bytes e.message e.message))
    (way_same e.to_server)
    (both (same_secret e.secret e.secret) (same_place e.place e.place && same_bytes e.message e.message) (secret_same e.secret)
    (both (same_place e.place e.place) (same_bytes e.message e.message) (place_same e.place) (same_bytes-refl e.message)))

-- ---- among a list

abbrev pub Among : SignedEntry → List SignedEntry → Type 0
Among x es = (i : ℕ) × (slice_get es i ≡ Some x)

none_among : (x : SignedEntry) → Among x [] → ⊥
none_among x (zero, h) = absurd (let q : None ≡ Some x = h in cc)
none_among x (suc i, h) = absurd (let q : None ≡ Some x = h in cc)

here : (e x : SignedEntry) (es : List SignedEntry) → e ≡ x → Among x (e ∷ es)
here e x es q = (0, ap Some q)

there : (e x : SignedEntry) (es : List SignedEntry) → Among x es → Among x (e ∷ es)
there e x es (i, h) = (i + 1, rw (add-one) h)

neither : (e x : SignedEntry) (es : List SignedEntry) → same_entry e x ≡ false → (Among x es → ⊥) → Among x (e ∷ es) → ⊥
neither e x es off rest (zero, h) =
    let q : Some e ≡ Some x = h in
    let r : e ≡ x = cc in
    absurd (let t = subst (λ v. same_entry e v ≡ true) r (entry_same e) in cc)
neither e x es off rest (suc i, h) = rest (i, h)

with_front : (e x : SignedEntry) (es : List SignedEntry) (b : Bool) → same_entry e x ≡ b → (Among x es ⊎ (Among x es → ⊥))
    → Among x (e ∷ es) ⊎ (Among x (e ∷ es) → ⊥)
with_front e x es true q rest = inl (here e x es (entry_is e x q))
with_front e x es false q (inl h) = inl (there e x es h)
with_front e x es false q (inr h) = inr (neither e x es q h)

pub among : (x : SignedEntry) (es : List SignedEntry) → Among x es ⊎ (Among x es → ⊥)
among x [] = inr (none_among x)
among x (e ∷ es) = with_front e x es (same_entry e x) refl (among x es)
