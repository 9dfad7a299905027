-- Sixteen bytes as a number, and back.
use Rattle.std.proofs.Common.{◌≡◌, ℕ, ◌+◌, ◌*◌, ◌/◌, ◌%◌, ◌^◌, ◌<◌, List, [], ◌∷◌, length, get_or, refl, ◌∙◌, sym, arith}
use Rattle.std.proofs.lemmas.Nat.{shr-shr}
use Rattle.std.specs.Int.{w128, from_le_bytes, to_le_bytes}

-- a digit and what stands above it
digit : (b rest n : ℕ) → b < 256 → n ≡ b + rest * 256 → (n % 256 ≡ b) × (n / 256 ≡ rest)
digit b rest n lt is = (omega arith, omega arith)

next_digit : (b rest n e : ℕ) → b < 256 → n / 2 ^ e ≡ b + rest * 256 → (n / 2 ^ e % 256 ≡ b) × (n / 2 ^ (e + 8) ≡ rest)
next_digit b rest n e lt is = let p = digit b rest (n / 2 ^ e) lt is in (p.0, sym (shr-shr n e 8) ∙ p.1)

bytes_16 : (b : ℕ → ℕ) (n : ℕ) → ((i : ℕ) → b i < 256) → n
    ≡ from_le_bytes w128 (b 0 ∷ b 1 ∷ b 2 ∷ b 3 ∷ b 4 ∷ b 5 ∷ b 6 ∷ b 7 ∷ b 8 ∷ b 9 ∷ b 10 ∷ b 11 ∷ b 12 ∷ b 13 ∷ b 14 ∷
    b 15 ∷ [])
    → to_le_bytes w128 n ≡ b 0 ∷ b 1 ∷ b 2 ∷ b 3 ∷ b 4 ∷ b 5 ∷ b 6 ∷ b 7 ∷ b 8 ∷ b 9 ∷ b 10 ∷ b 11 ∷ b 12 ∷ b 13 ∷ b 14 ∷ b 15 ∷ []
bytes_16 b n small is =
    let r15 : ℕ = b 15 in
    let r14 : ℕ = b 14 + r15 * 256 in
    let r13 : ℕ = b 13 + r14 * 256 in
    let r12 : ℕ = b 12 + r13 * 256 in
    let r11 : ℕ = b 11 + r12 * 256 in
    let r10 : ℕ = b 10 + r11 * 256 in
    let r9 : ℕ = b 9 + r10 * 256 in
    let r8 : ℕ = b 8 + r9 * 256 in
    let r7 : ℕ = b 7 + r8 * 256 in
    let r6 : ℕ = b 6 + r7 * 256 in
    let r5 : ℕ = b 5 + r6 * 256 in
    let r4 : ℕ = b 4 + r5 * 256 in
    let r3 : ℕ = b 3 + r4 * 256 in
    let r2 : ℕ = b 2 + r3 * 256 in
    let r1 : ℕ = b 1 + r2 * 256 in
    let r0 : ℕ = b 0 + r1 * 256 in
    let whole : n ≡ r0 = is ∙ (omega arith) in
    let p0 = digit (b 0) r1 n (small 0) whole in
    let p1 = next_digit (b 1) r2 n 8 (small 1) p0.1 in
    let p2 = next_digit (b 2) r3 n 16 (small 2) p1.1 in
    let p3 = next_digit (b 3) r4 n 24 (small 3) p2.1 in
    let p4 = next_digit (b 4) r5 n 32 (small 4) p3.1 in
    let p5 = next_digit (b 5) r6 n 40 (small 5) p4.1 in
    let p6 = next_digit (b 6) r7 n 48 (small 6) p5.1 in
    let p7 = next_digit (b 7) r8 n 56 (small 7) p6.1 in
    let p8 = next_digit (b 8) r9 n 64 (small 8) p7.1 in
    let p9 = next_digit (b 9) r10 n 72 (small 9) p8.1 in
    let p10 = next_digit (b 10) r11 n 80 (small 10) p9.1 in
    let p11 = next_digit (b 11) r12 n 88 (small 11) p10.1 in
    let p12 = next_digit (b 12) r13 n 96 (small 12) p11.1 in
    let p13 = next_digit (b 13) r14 n 104 (small 13) p12.1 in
    let p14 = next_digit (b 14) r15 n 112 (small 14) p13.1 in
    let p15 = next_digit (b 15) 0 n 120 (small 15) (p14.1 ∙ omega arith) in
    λ t. p0.0 t ∷ p1.0 t ∷ p2.0 t ∷ p3.0 t ∷ p4.0 t ∷ p5.0 t ∷ p6.0 t ∷ p7.0 t ∷ p8.0 t ∷ p9.0 t ∷ p10.0 t ∷ p11.0 t ∷
    p12.0 t ∷ p13.0 t ∷ p14.0 t ∷ p15.0 t ∷ []

written_16 : (bs : List ℕ) → length bs ≡ 16 → get_or bs 0 0 ∷ get_or bs 1 0 ∷ get_or bs 2 0 ∷ get_or bs 3 0 ∷ get_or bs
    4 0 ∷ get_or bs 5 0 ∷ get_or bs 6 0 ∷ get_or bs 7 0 ∷ get_or bs 8 0 ∷ get_or bs 9 0 ∷ get_or bs 10 0 ∷ get_or bs 11
    0 ∷ get_or bs 12 0 ∷ get_or bs 13 0 ∷ get_or bs 14 0 ∷ get_or bs 15 0 ∷ [] ≡ bs
written_16 [] l = absurd (omega arith)
written_16 (b0 ∷ []) l = absurd (omega arith)
written_16 (b0 ∷ b1 ∷ []) l = absurd (omega arith)
written_16 (b0 ∷ b1 ∷ b2 ∷ []) l = absurd (omega arith)
written_16 (b0 ∷ b1 ∷ b2 ∷ b3 ∷ []) l = absurd (omega arith)
written_16 (b0 ∷ b1 ∷ b2 ∷ b3 ∷ b4 ∷ []) l = absurd (omega arith)
written_16 (b0 ∷ b1 ∷ b2 ∷ b3 ∷ b4 ∷ b5 ∷ []) l = absurd (omega arith)
written_16 (b0 ∷ b1 ∷ b2 ∷ b3 ∷ b4 ∷ b5 ∷ b6 ∷ []) l = absurd (omega arith)
written_16 (b0 ∷ b1 ∷ b2 ∷ b3 ∷ b4 ∷ b5 ∷ b6 ∷ b7 ∷ []) l = absurd (omega arith)
written_16 (b0 ∷ b1 ∷ b2 ∷ b3 ∷ b4 ∷ b5 ∷ b6 ∷ b7 ∷ b8 ∷ []) l = absurd (omega arith)
written_16 (b0 ∷ b1 ∷ b2 ∷ b3 ∷ b4 ∷ b5 ∷ b6 ∷ b7 ∷ b8 ∷ b9 ∷ []) l = absurd (omega arith)
written_16 (b0 ∷ b1 ∷ b2 ∷ b3 ∷ b4 ∷ b5 ∷ b6 ∷ b7 ∷ b8 ∷ b9 ∷ b10 ∷ []) l = absurd (omega arith)
written_16 (b0 ∷ b1 ∷ b2 ∷ b3 ∷ b4 ∷ b5 ∷ b6 ∷ b7 ∷ b8 ∷ b9 ∷ b10 ∷ b11 ∷ []) l = absurd (omega arith)
written_16 (b0 ∷ b1 ∷ b2 ∷ b3 ∷ b4 ∷ b5 ∷ b6 ∷ b7 ∷ b8 ∷ b9 ∷ b10 ∷ b11 ∷ b12 ∷ []) l = absurd (omega arith)
written_16 (b0 ∷ b1 ∷ b2 ∷ b3 ∷ b4 ∷ b5 ∷ b6 ∷ b7 ∷ b8 ∷ b9 ∷ b10 ∷ b11 ∷ b12 ∷ b13 ∷ []) l = absurd (omega arith)
written_16 (b0 ∷ b1 ∷ b2 ∷ b3 ∷ b4 ∷ b5 ∷ b6 ∷ b7 ∷ b8 ∷ b9 ∷ b10 ∷ b11 ∷ b12 ∷ b13 ∷ b14 ∷ []) l = absurd (omega arith)
written_16 (b0 ∷ b1 ∷ b2 ∷ b3 ∷ b4 ∷ b5 ∷ b6 ∷ b7 ∷ b8 ∷ b9 ∷ b10 ∷ b11 ∷ b12 ∷ b13 ∷ b14 ∷ b15 ∷ []) l = refl
written_16 (b0 ∷ b1 ∷ b2 ∷ b3 ∷ b4 ∷ b5 ∷ b6 ∷ b7 ∷ b8 ∷ b9 ∷ b10 ∷ b11 ∷ b12 ∷ b13 ∷ b14 ∷ b15 ∷ c ∷ bs) l = absurd (omega arith)

pub le_bytes_16 : (bs : List ℕ) (n : ℕ) → length bs ≡ 16 → ((i : ℕ) → get_or bs i 0 < 256) → n ≡ from_le_bytes w128 bs
    → to_le_bytes w128 n ≡ bs
le_bytes_16 bs n l small is = bytes_16 (λ i. get_or bs i 0) n small is ∙ written_16 bs l
