-- Any FileId is given back as it was told.
use Rattle.std.proofs.Common.{◌≡◌, ℕ, zero, suc, ◌+◌, ◌-◌, ◌*◌, ◌/◌, ◌%◌, ◌^◌, ◌<◌, ◌≤◌, List, [], ◌∷◌, ◌++◌, length, refl, sym, ap, ◌∙◌, arith}
use Rattle.std.specs.Prelude.{All, take, drop, ◌==◌, if◌then◌else◌}
use Rattle.std.proofs.Math.Nat.{mul_assoc, mul_comm, pow-suc}
use Rattle.std.proofs.lemmas.Grind.{common_steps}
use Rattle.std.proofs.lemmas.List.{append-nil, take-append-drop, take_all, length-take, length-drop}
use Rattle.std.proofs.lemmas.List.Elements.{All-head, All-tail, All-take, All-drop}
use Rattle.spec_wire.specs.messages.Places.{le, number, number_of, bytes_at}
use Rattle.spec_wire.proofs.messages.Numbers.{length-le, length-bytes_at, bytes_at-behind}
use Rattle.spec_commands.specs.Ids.{file_of, file_id, file_kept}
use Rattle.law_commands.specs.commands.Fitting.{IsByte}

abbrev M : ℕ
M = 0x1_0000_0000_0000_0000

-- the lowest 8 bytes
pub number_low : (n : ℕ) → number_of (le 8 n) ≡ n % M
unfolding number_of le
number_low n = omega arith

-- what stands above w bytes isn't written into them
above : (w q : ℕ) → 256 ^ suc w * q ≡ 256 * (256 ^ w * q)
above w q = ap (λ (x : ℕ). x * q) (pow-suc 256 w ∙ mul_comm (256 ^ w) 256) ∙ mul_assoc 256 (256 ^ w) q

pub le_low : (w n r q : ℕ) → n ≡ r + 256 ^ w * q → le w n ≡ le w r
unfolding le
le_low zero n r q is = refl
le_low (suc w) n r q is =
    let x : ℕ = 256 ^ w * q in
    let up : n ≡ r + 256 * x = is ∙ ap (λ (y : ℕ). r + y) (above w q) in
    let first : n % 256 ≡ r % 256 = omega (arith, up) in
    let next : n / 256 ≡ r / 256 + x = omega (arith, up) in
    ap (λ (b : ℕ). b ∷ le w (n / 256)) first ∙ ap (λ (l : List ℕ). r % 256 ∷ l) (le_low w (n / 256) (r / 256) q next)

-- bytes are what their number is written as
pub le_number : (w : ℕ) (bs : List ℕ) → length bs ≡ w → All IsByte bs → le w (number_of bs) ≡ bs
unfolding le number_of
le_number zero [] long are = refl
le_number zero (b ∷ bs) long are = absurd (omega (arith, long))
le_number (suc w) [] long are = absurd (omega (arith, long))
le_number (suc w) (b ∷ bs) long are =
    let rest : ℕ = number_of bs in
    let first : (b + 256 * rest) % 256 ≡ b = omega (arith, All-head IsByte b bs are) in
    let next : (b + 256 * rest) / 256 ≡ rest = omega (arith, All-head IsByte b bs are) in
    ap (λ (x : ℕ). x ∷ le w ((b + 256 * rest) / 256)) first ∙ ap (λ (x : ℕ). b ∷ le w x) next
    ∙ ap (λ (l : List ℕ). b ∷ l) (le_number w bs (omega (arith, long)) (All-tail IsByte b bs are))

-- ---- the two halves of a FileId

low_half : (p d : ℕ) → le 8 (p + M * d) ≡ le 8 p
low_half p d = le_low 8 (p + M * d) p d refl

-- Volatile is Persistent and what it is above it
high_half : (p v : ℕ) → p < M → v < M → le 8 (p + M * ((v + (M - p)) % M) + (p + M * ((v + (M - p)) % M)) / M) ≡ le 8 v
high_half p v low high =
    let d : ℕ = (v + (M - p)) % M in
    let up : (p + M * d) / M ≡ d = omega (arith, low) in
    let sum : (p + d) % M ≡ v = omega (arith, low, high) in
    let all : p + M * d + (p + M * d) / M ≡ v + M * (d + (p + d) / M) = omega (arith, up, sum) in
    le_low 8 (p + M * d + (p + M * d) / M) v (d + (p + d) / M) all

-- what Volatile is above Persistent
difference : (o : ℕ) → o < 256 ^ 16 → o % M + M * (((o + o / M) % M + (M - o % M)) % M) ≡ o
difference o fits =
    let q : ℕ = o / M in
    let p : ℕ = o % M in
    let whole : o ≡ M * q + p = omega arith in
    let few : q < M = omega (arith, fits) in
    let less : p < M = omega arith in
    let sum : (o + q) % M ≡ (p + q) % M = omega (arith, whole) in
    let up : ((p + q) % M + (M - p)) % M ≡ q = omega (arith, few, less) in
    ap (λ (x : ℕ). p + M * ((x + (M - p)) % M)) sum ∙ ap (λ (x : ℕ). p + M * x) up ∙ omega (arith, whole)

apart : (o : ℕ) → 256 ^ 8 ≤ o → o < 256 ^ 16 → o % M ≡ (o + o / M) % M → ⊥
apart o above_all fits same =
    let q : ℕ = o / M in
    let p : ℕ = o % M in
    let whole : o ≡ M * q + p = omega arith in
    let few : q < M = omega (arith, fits) in
    let some : 1 ≤ q = omega (arith, above_all) in
    let less : p < M = omega arith in
    let sum : (o + q) % M ≡ (p + q) % M = omega (arith, whole) in
    let again : p ≡ (p + q) % M = same ∙ sum in
    omega (arith, few, some, less, again)

unlike : (x y p v : ℕ) → x ≡ p → y ≡ v → (p ≡ v → ⊥) → (if x == y then x else 0) ≡ 0
unlike x y p v e f apart = grind (arith, common_steps)

pow_positive : (w : ℕ) → 1 ≤ 256 ^ w
pow_positive zero = omega arith
pow_positive (suc w) = let wide : 256 ^ suc w ≡ 256 ^ w * 256 = pow-suc 256 w in omega (arith, wide, pow_positive w)

-- ---- of bytes

small : (bs : List ℕ) (w : ℕ) → length bs ≤ w → All IsByte bs → number_of bs < 256 ^ w
unfolding number_of
small [] w long are = omega (arith, pow_positive w)
small (b ∷ bs) zero long are = absurd (omega (arith, long))
small (b ∷ bs) (suc w) long are =
    let wide : 256 ^ suc w ≡ 256 ^ w * 256 = pow-suc 256 w in
    omega (arith, wide, small bs w (omega (arith, long)) (All-tail IsByte b bs are), All-head IsByte b bs are)

-- the half of a FileId from a place on
half_small : (id : List ℕ) (at : ℕ) → All IsByte id → number 8 id at < M
unfolding bytes_at
half_small id at are = small (take 8 (drop at id)) 8 (omega (arith, length-take 8 (drop at id))) (All-take IsByte 8 (drop at id)
    (All-drop IsByte at id are))

half_written : (id : List ℕ) (at : ℕ) → length id ≡ 16 → at ≤ 8 → All IsByte id → le 8 (number 8 id at) ≡ bytes_at 8 id at
unfolding bytes_at
half_written id at long in_front are = le_number 8 (take 8 (drop at id)) (length-bytes_at 8 id at (omega (arith, long, in_front)))
    (All-take IsByte 8 (drop at id) (All-drop IsByte at id are))

halves : (id : List ℕ) → length id ≡ 16 → bytes_at 8 id 0 ++ bytes_at 8 id 8 ≡ id
unfolding bytes_at
halves id long = ap (λ (l : List ℕ). take 8 id ++ l) (take_all 8 (drop 8 id) (omega (arith, long, length-drop 8 id))) ∙ take-append-drop 8 id

-- ---- the law

pub back : (id : List ℕ) → length id ≡ 16 → All IsByte id → file_id (file_kept id) ≡ id
unfolding file_id file_kept
back id long are =
    let p : ℕ = number 8 id 0 in
    let v : ℕ = number 8 id 8 in
    let low : le 8 (p + M * ((v + (M - p)) % M)) ≡ bytes_at 8 id 0 = low_half p ((v + (M - p)) % M)
    ∙ half_written id 0 long (omega arith) are in
    let high = high_half p v (half_small id 0 are) (half_small id 8 are) ∙ half_written id 8 long (omega arith) are in
    ap (λ (l : List ℕ). l ++ le 8 (p + M * ((v + (M - p)) % M) + (p + M * ((v + (M - p)) % M)) / M)) low
    ∙ ap (λ (l : List ℕ). bytes_at 8 id 0 ++ l) high ∙ halves id long

pub low : (id : List ℕ) → All IsByte id → file_kept id < 256 ^ 16
unfolding file_kept
low id are = omega (arith, half_small id 0 are)

first_of : (o x : ℕ) → number 8 (le 8 o ++ le 8 x) 0 ≡ o % M
first_of o x = ap number_of (bytes_at-behind 8 [] (le 8 o) (le 8 x) 0 refl (length-le 8 o)) ∙ number_low o

second_of : (o x : ℕ) → number 8 (le 8 o ++ le 8 x) 8 ≡ x % M
second_of o x = ap (λ (l : List ℕ). number 8 (le 8 o ++ l) 8) (sym (append-nil (le 8 x)))
    ∙ ap number_of (bytes_at-behind 8 (le 8 o) (le 8 x) [] 8 (sym (length-le 8 o)) (length-le 8 x)) ∙ number_low x

pub told : (o : ℕ) → o < 256 ^ 16 → file_kept (file_id o) ≡ o
unfolding file_id file_kept
told o fits =
    let x : ℕ = o + o / M in
    let e = first_of o x in
    let f = second_of o x in
    ap (λ (p : ℕ). p + M * ((number 8 (le 8 o ++ le 8 x) 8 + (M - p)) % M)) e
    ∙ ap (λ (v : ℕ). o % M + M * ((v + (M - o % M)) % M)) f ∙ difference o fits

pub other : (o : ℕ) → 256 ^ 8 ≤ o → o < 256 ^ 16 → file_of (file_id o) ≡ 0
unfolding file_id file_of
other o above_all fits = unlike _ _ (o % M) ((o + o / M) % M) (first_of o (o + o / M)) (second_of o (o + o / M)) (apart o above_all fits)
