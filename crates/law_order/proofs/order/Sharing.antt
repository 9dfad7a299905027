-- What the check of sharing keeps: an open that denies writers stands beside no other that writes.
use Rattle.std.proofs.lemmas.Nat.Bits.{bit_at_or, bit_at-lt}
use Rattle.std.proofs.Common.{eqb-true, ◌≡◌, ℕ, ◌<◌, ◌==◌, ◌/◌, ◌%◌, ◌^◌, max, Bool, true, false, not, ◌&&◌, ◌||◌}
use Rattle.std.proofs.Common.{if◌then◌else◌, List, [], ◌∷◌, refl, arith, sym, subst, ◌∙◌, Some, bit_or}
use Rattle.std.proofs.lemmas.Bool.Decides.{nat_tests}
use Rattle.spec_exchange.specs.Table.{has}
use Rattle.spec_exchange.specs.Commands.{has_bit, CreateRequest}
use Rattle.spec_exchange.specs.State.{Server, Open}
use Rattle.spec_exchange.specs.Opens.{writes, reads, deletes, granted, is_shared, denies_writers, admits, opens_in, opens_of}
use Rattle.spec_exchange.specs.CheckCreate.{shares, shared_access, empties}

-- a create that empties a file asks for writing
pub wide : (x : ℕ) → writes (bit_or x 2) ≡ true
unfolding writes has_bit
wide x = let b = bit_at_or x 2 1 in let l = bit_at-lt x 1 in by_bit (bit_or x 2) (b ∙ largest (x / 2 ^ 1 % 2) l)
  where
    largest : (n : ℕ) → n < 2 → max n 1 ≡ 1
    largest n l = omega (arith, l)

    by_bit : (n : ℕ) → n / 2 ^ 1 % 2 ≡ 1 → (((n / 2) % 2 == 1) || ((n / 4) % 2 == 1)) ≡ true
    by_bit n e = grind (arith, nat_tests)

pub not_shared : (access share : ℕ) → is_shared access share ≡ true → writes access ≡ true → denies_writers share ≡ true → ⊥
unfolding is_shared denies_writers
not_shared access share e w d = absurd (by_bools (not (reads access) || has_bit share 1) (writes access)
    (has_bit share 2) (not (deletes access) || has_bit share 4) e w d)
  where
    by_bools : (a w b c : Bool) → (a && ((not w || b) && c)) ≡ true → w ≡ true → not b ≡ true → ⊥
    by_bools a w b c e f g = absurd (grind arith)

both : (a b c : Bool) → (a && (b && c)) ≡ true → a ≡ true × b ≡ true × c ≡ true
both a b c e = (grind arith, grind arith, grind arith)

pub admits_each : (opened : ℕ → Open) (os : List ℕ) (access share o : ℕ) → admits opened os access share ≡ true
    → has o os ≡ true → is_shared access (opened o).share ≡ true × is_shared (opened o).access share ≡ true
unfolding admits
admits_each opened [] access share o e h = absurd (cc)
admits_each opened (p ∷ os) access share o e h =
    let b = both (is_shared access (opened p).share) (is_shared (opened p).access share) (admits opened os access share) e in
    elim (p == o) as (λ t. p == o ≡ t → is_shared access (opened o).share ≡ true × is_shared (opened o).access share ≡ true) [
      | true ↦ λ z. let q = eqb-true p o z in (
        subst (λ r. is_shared access (opened r).share ≡ true) q b.0,
        subst (λ r. is_shared (opened r).access share ≡ true) q b.1,
      )
      | false ↦ λ z. admits_each opened os access share o b.2 (rest_of (p == o) (has o os) z h)
    ] refl
  where
    rest_of : (t r : Bool) → t ≡ false → (if t then true else r) ≡ true → r ≡ true
    rest_of t r z h = grind arith

pub in_opens : (opened : ℕ → Open) (os : List ℕ) (f o : ℕ) → has o os ≡ true → (opened o).file ≡ f → has o (opens_in opened os f) ≡ true
unfolding opens_in
in_opens opened [] f o h e = absurd (cc)
in_opens opened (p ∷ os) f o h e =
    elim (p == o) as (λ t. p == o ≡ t → has o (if (opened p).file == f then p ∷ opens_in opened os f else opens_in opened os f) ≡ true) [
      | true ↦ λ z. let q = eqb-true p o z in here ((opened p).file == f) (same_file p o f q e) z
      | false ↦ λ z. by_rest ((opened p).file == f) (in_opens opened os f o (rest_of (p == o) (has o os) z h) e) z
    ] refl
  where
    rest_of : (t r : Bool) → t ≡ false → (if t then true else r) ≡ true → r ≡ true
    rest_of t r z h = grind arith

    same_file : (p o f : ℕ) → p ≡ o → (opened o).file ≡ f → ((opened p).file == f) ≡ true
    same_file p o f q e = grind arith

    head_has : (t r : Bool) → t ≡ true → (if t then true else r) ≡ true
    head_has t r z = rw z refl

    tail_has : (t r : Bool) → r ≡ true → (if t then true else r) ≡ true
    tail_has true r z = refl
    tail_has false r z = z

    here : (t : Bool) → t ≡ true → (p == o) ≡ true → has o (if t then p ∷ opens_in opened os f else opens_in opened os f) ≡ true
    here true a b = head_has (p == o) (has o (opens_in opened os f)) b
    here false a b = absurd (cc)

    by_rest : (t : Bool) → has o (opens_in opened os f) ≡ true → (p == o) ≡ false
        → has o (if t then p ∷ opens_in opened os f else opens_in opened os f) ≡ true
    by_rest true h z = tail_has (p == o) (has o (opens_in opened os f)) h
    by_rest false h z = h

-- what a create that is admitted finds of an open of its file
pub admitted : (s : Server) (r : CreateRequest) (f o : ℕ) → shares s r (Some f) ≡ true → has o s.opens ≡ true
    → (s.opened o).file ≡ f → is_shared (shared_access s r f) (s.opened o).share ≡ true × is_shared (s.opened o).access
    r.share ≡ true
admitted s r f o e h k = admits_each s.opened (opens_of s f) (shared_access s r f) r.share o e (in_opens s.opened s.opens f o h k)

pub emptying_writes : (s : Server) (r : CreateRequest) (f : ℕ) → empties r.disposition ≡ true → writes (shared_access s r f) ≡ true
emptying_writes s r f e = subst (λ x. writes x ≡ true)
    (sym (if_on (empties r.disposition) (bit_or (granted s f r.access) 2) (granted s f r.access) e))
    (wide (granted s f r.access))
  where
    if_on : (b : Bool) (x y : ℕ) → b ≡ true → (if b then x else y) ≡ x
    if_on b x y e = rw e refl

-- the access of the new open is among what it asked for
pub narrow_writes : (s : Server) (r : CreateRequest) (f : ℕ) → writes (granted s f r.access) ≡ true
    → writes (shared_access s r f) ≡ true
narrow_writes s r f w = by_test (empties r.disposition) refl
  where
    by_test : (b : Bool) → empties r.disposition ≡ b → writes (shared_access s r f) ≡ true
    by_test true e = emptying_writes s r f e
    by_test false e = subst (λ x. writes x ≡ true) (sym (if_off (empties r.disposition) (bit_or (granted s f r.access) 2) (granted s f r.access) e)) w
      where
        if_off : (b : Bool) (x y : ℕ) → b ≡ false → (if b then x else y) ≡ y
        if_off b x y e = rw e refl
