-- Facts on numbers in bytes and on places.
use Rattle.std.proofs.Common.{◌≡◌, ℕ, zero, suc, ◌+◌, ◌-◌, ◌*◌, ◌/◌, ◌%◌, ◌^◌, ◌<◌, ◌≤◌, List, [], ◌∷◌, ◌++◌, length}
use Rattle.std.proofs.Common.{take, drop, replicate, refl, sym, ap, ◌∙◌, arith, length-drop}
use Rattle.std.proofs.lemmas.List.{take_at, drop_at, length-take}
use Rattle.std.proofs.Math.Nat.{pow-suc}
use Rattle.spec_wire.specs.messages.Places.{le, number_of, bytes_at}

pub length-le : (w n : ℕ) → length (le w n) ≡ w
unfolding le
length-le zero n = refl
length-le (suc w) n = ap suc (length-le w (n / 256))

fits_higher : (w n : ℕ) → n < 256 ^ suc w → n / 256 < 256 ^ w
fits_higher w n lt = omega (arith, pow-suc 256 w)

-- a number that fits is read as it was written
pub number_of-le : (w n : ℕ) → n < 256 ^ w → number_of (le w n) ≡ n
unfolding le number_of
number_of-le zero n lt = omega arith
number_of-le (suc w) n lt =
    let higher : number_of (le w (n / 256)) ≡ n / 256 = number_of-le w (n / 256) (fits_higher w n lt) in
    rw higher (omega arith)

pub length-bytes_at : (w : ℕ) (m : List ℕ) (at : ℕ) → at + w ≤ length m → length (bytes_at w m at) ≡ w
unfolding bytes_at
length-bytes_at w m at le = omega (arith, length-take w (drop at m), length-drop at m)

pub bytes_at-nothing : (m : List ℕ) (at : ℕ) → bytes_at 0 m at ≡ []
unfolding bytes_at
bytes_at-nothing m at = refl

-- the bytes behind a front
pub bytes_at-behind : (w : ℕ) (front mid rest : List ℕ) (at : ℕ) → at ≡ length front → length mid ≡ w
    → bytes_at w (front ++ (mid ++ rest)) at ≡ mid
unfolding bytes_at
bytes_at-behind w front mid rest at e len = rw (drop_at front (mid ++ rest) at (sym e), take_at mid rest w len) refl

pub le_zeros : (k : ℕ) → le k 0 ≡ replicate k 0
unfolding le
le_zeros zero = refl
le_zeros (suc k) = ap (λ (x : List ℕ). 0 ∷ x) (le_zeros k)

pub ruleset lengths = (arith, length-bytes_at)
