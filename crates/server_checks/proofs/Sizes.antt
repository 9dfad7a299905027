-- A new end that changes nothing is the old one.
use Rattle.std.proofs.Common.{◌≡◌, ℕ, ◌-◌, ◌==◌, min, nat_lt, if◌then◌else◌, Bool, true, false, List, length, refl, sym, ap, ◌∙◌, arith}
use Rattle.std.proofs.lemmas.List.{append-nil}
use Rattle.std.proofs.Math.Seq.{take-length}
use Rattle.spec_exchange.specs.CheckOpen.{allocation_change, changes_nothing}
use Rattle.spec_exchange.specs.Content.{ended, padded, same_bytes}
use Rattle.spec_exchange.specs.Files.{allocated}
use Rattle.spec_exchange.specs.State.{Server}
use Rattle.spec_exchange.specs.Verdict.{PutEnd, PutNothing}
use Rattle.spec_exchange.proofs.Content.{length-ended, same_bytes-true, same_bytes-refl}

whole : (c : List ℕ) → ended (length c) c ≡ c
unfolding ended padded
whole c = let k : length c - length c ≡ 0 = omega arith in rw (k, append-nil c) (take-length c)

pub ended_same : (n : ℕ) (c : List ℕ) → same_bytes (ended n c) c ≡ (n == length c)
ended_same n c = by (n == length c) refl
  where
    other : (b : Bool) → same_bytes (ended n c) c ≡ b → (n == length c) ≡ false → b ≡ false
    other false e k = refl
    other true e k = absurd (let l : n ≡ length c = sym (length-ended n c) ∙ ap length (same_bytes-true (ended n c) c e) in grind arith)

    by : (b : Bool) → (n == length c) ≡ b → same_bytes (ended n c) c ≡ b
    by true k = let l : n ≡ length c = grind arith in rw (l, whole c) (same_bytes-refl c)
    by false k = other (same_bytes (ended n c) c) refl k

-- an allocation that cuts nothing leaves the end
pub uncut_same : (size n : ℕ) → nat_lt size n ≡ false → (min size n == n) ≡ true
uncut_same size n e = grind arith

pub cut_other : (size n : ℕ) → nat_lt size n ≡ true → min size n ≡ size
cut_other size n e = grind arith

-- an allocation that changes no bytes is one that leaves the length
pub allocation_nothing : (s : Server) (f size : ℕ)
    → changes_nothing s f (allocation_change s f size) ≡ (allocated size (length (s.content f)) == length (s.content f))
unfolding allocated
allocation_nothing s f size = by (nat_lt size (length (s.content f))) refl
  where
    by : (b : Bool) → nat_lt size (length (s.content f)) ≡ b
        → changes_nothing s f (if b then PutEnd size else PutNothing) ≡ (min size (length (s.content f)) == length (s.content f))
    by true k = ended_same size (s.content f)
        ∙ ap (λ (n : ℕ). n == length (s.content f)) (sym (cut_other size (length (s.content f)) k))
    by false k = sym (uncut_same size (length (s.content f)) k)
