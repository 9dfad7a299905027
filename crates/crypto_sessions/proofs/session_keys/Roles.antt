-- The bytes of a header that tell who sends what.
use Rattle.std.proofs.Common.{◌≡◌, ℕ, suc, ◌+◌, ◌*◌, ◌%◌, ◌≤◌, ◌<◌, ◌==◌, false, List, [], ◌∷◌, length}
use Rattle.std.proofs.Common.{get_or, refl, arith, drop-cons, ◌∙◌, sym}
use Rattle.std.proofs.lemmas.Bool.{ne_eqb}
use Rattle.std.specs.Int.{w16, from_le_bytes}
use Rattle.spec_wire.specs.messages.Places.{number_of, number, bytes_at}
use Rattle.spec_crypto.specs.sessions.Signing.{role}

byte_told : (m : List ℕ) (at : ℕ) → at < length m → number 1 m at ≡ get_or m at 0
unfolding number_of bytes_at
byte_told m at lt = rw (drop-cons m at 0 lt) (omega arith)

pair_told : (m : List ℕ) (at : ℕ) → suc at < length m → number 2 m at ≡ get_or m at 0 + 256 * get_or m (suc at) 0
unfolding number_of bytes_at
pair_told m at lt =
    let here : at < length m = omega arith in
    rw (drop-cons m at 0 here, drop-cons m (suc at) 0 lt) (omega arith)

command_told : (m : List ℕ) (n : ℕ) → 64 ≤ length m → n ≡ from_le_bytes w16 (get_or m 12 0 ∷ get_or m 13 0 ∷ []) → n ≡ number 2 m 12
command_told m n len is = is ∙ omega (arith, pair_told m 12 (omega arith))

pub of_cancel : (m : List ℕ) (n : ℕ) → 64 ≤ length m → n ≡ from_le_bytes w16 (get_or m 12 0 ∷ get_or m 13 0 ∷ []) → n ≡ 12
    → get_or m 16 0 % 2 + 2 ≡ role m
of_cancel m n len is cancel =
    let e : number 2 m 12 ≡ 12 = sym (command_told m n len is) ∙ cancel in
    rw (e, byte_told m 16 (omega arith)) refl

pub of_other : (m : List ℕ) (n : ℕ) → 64 ≤ length m → n ≡ from_le_bytes w16 (get_or m 12 0 ∷ get_or m 13 0 ∷ []) → (n ≡ 12 → ⊥)
    → get_or m 16 0 % 2 ≡ role m
of_other m n len is other =
    let e : (number 2 m 12 == 12) ≡ false = ne_eqb (number 2 m 12) 12 (λ h. other (command_told m n len is ∙ h)) in
    rw (e, byte_told m 16 (omega arith)) (omega arith)
