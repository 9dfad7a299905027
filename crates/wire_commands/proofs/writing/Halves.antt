-- A number of 16 bytes written as its two halves.
use Rattle.std.proofs.Common.{◌≡◌, ℕ, zero, suc, ◌+◌, ◌*◌, ◌/◌, ◌%◌, ◌^◌, ◌<◌, List, ◌∷◌, ◌++◌, sym, ap, ◌∙◌, arith}
use Rattle.std.proofs.Math.Nat.{mul_assoc, mul_comm, pow-suc}
use Rattle.spec_wire.specs.messages.Places.{le}
use Rattle.law_commands.proofs.commands.Halves.{le_low}
use Rattle.spec_commands.specs.Ids.{file_id, guid_id}

-- what stands above w bytes and one more
above : (w q : ℕ) → 256 ^ suc w * q ≡ 256 * (256 ^ w * q)
above w q = ap (λ (x : ℕ). x * q) (pow-suc 256 w ∙ mul_comm (256 ^ w) 256) ∙ mul_assoc 256 (256 ^ w) q

split : (w k all n r q : ℕ) → all ≡ w + k → n ≡ r + 256 ^ w * q → r < 256 ^ w → le w r ++ le k q ≡ le all n
unfolding le
split zero k all n r q size is small =
    let same : q ≡ n = omega arith in
    let wide : k ≡ all = omega arith in
    ap (le k) same ∙ ap (λ (w : ℕ). le w n) wide
split (suc w) k zero n r q size is small = absurd (omega arith)
split (suc w) k (suc all) n r q size is small =
    let x : ℕ = 256 ^ w * q in
    let up : n ≡ r + 256 * x = is ∙ ap (λ (y : ℕ). r + y) (above w q) in
    let first : r % 256 ≡ n % 256 = omega (arith, up) in
    let next : n / 256 ≡ r / 256 + x = omega (arith, up) in
    let wide : 256 ^ suc w ≡ 256 ^ w * 256 = pow-suc 256 w in
    let later : le w (r / 256) ++ le k q ≡ le all (n / 256) = split w k all (n / 256) (r / 256) q (omega (arith, size))
    next (omega (arith, wide, small)) in
    ap (λ (b : ℕ). b ∷ (le w (r / 256) ++ le k q)) first ∙ ap (λ (l : List ℕ). n % 256 ∷ l) later

pub guid_halves : (n : ℕ) → le 8 (n % 0x1_0000_0000_0000_0000) ++ le 8 (n / 0x1_0000_0000_0000_0000) ≡ guid_id n
unfolding guid_id
guid_halves n = split 8 8 16 n (n % 0x1_0000_0000_0000_0000) (n / 0x1_0000_0000_0000_0000) (omega arith) (omega arith) (omega arith)

pub file_halves : (n : ℕ) → le 8 (n % 0x1_0000_0000_0000_0000)
    ++ le 8 ((n % 0x1_0000_0000_0000_0000 + n / 0x1_0000_0000_0000_0000) % 0x1_0000_0000_0000_0000) ≡ file_id n
unfolding file_id
file_halves n =
    let p : ℕ = n % 0x1_0000_0000_0000_0000 in
    let q : ℕ = n / 0x1_0000_0000_0000_0000 in
    let v : ℕ = (p + q) % 0x1_0000_0000_0000_0000 in
    let first : le 8 p ≡ le 8 n = sym (le_low 8 n p q (omega arith)) in
    let second : le 8 v ≡ le 8 (n + q) = sym (le_low 8 (n + q) v (q + (p + q) / 0x1_0000_0000_0000_0000) (omega arith)) in
    ap (λ (l : List ℕ). l ++ le 8 v) first ∙ ap (λ (l : List ℕ). le 8 n ++ l) second
