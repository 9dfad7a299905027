-- Each step of the division can be taken back, so that a byte that is changed alone changes the checksum.
use Rattle.std.proofs.Common.{◌≡◌, ◌≢◌, ℕ, zero, suc, ◌+◌, ◌/◌, ◌%◌, ◌^◌, ◌<◌, ◌==◌, if◌then◌else◌, Bool, true, false, List, [], ◌∷◌, ◌++◌}
use Rattle.std.proofs.Common.{length, refl, sym, ◌∙◌, ap, arith, eqb-true, append_assoc, length-append}
use Rattle.std.proofs.lemmas.Bool.Decides.{nat_tests}
use Rattle.std.specs.Int.{bit_at}
use Rattle.std.specs.Int.Bits.{bit_xor}
use Rattle.std.proofs.lemmas.Nat.{xor_of_32, xor_comm}
use Rattle.std.proofs.lemmas.Nat.Bits.{bit_at_xor, bit_at-lt, same_from_bits}
use Rattle.spec_wire.specs.messages.Places.{le}
use Rattle.spec_wire.specs.journal.Grammar.{entry}
use Rattle.spec_journal.specs.Castagnoli.{AreBytes, coefficients, degrees, times_x, times_power, behind_byte, behind_bytes, crc32c}

pub in_parts : (r : ℕ) (a b : List ℕ) → behind_bytes r (a ++ b) ≡ behind_bytes (behind_bytes r a) b
unfolding behind_bytes
in_parts r [] b = refl
in_parts r (x ∷ a) b = in_parts (behind_byte r x) a b

-- ---- what is added is taken off again

one_bit : (x y z : ℕ) → x < 2 → y < 2 → (x + z) % 2 ≡ (y + z) % 2 → x ≡ y
one_bit x y z a b e = omega (arith, a, b, e)

taken_off : (a b p : ℕ) → bit_xor a p ≡ bit_xor b p → a ≡ b
taken_off a b p e = same_from_bits a b (λ i. one_bit (bit_at a i) (bit_at b i) (bit_at p i) (bit_at-lt a i) (bit_at-lt b i)
    (sym (bit_at_xor a p i) ∙ ap (λ (n : ℕ). bit_at n i) e ∙ bit_at_xor b p i))

-- ---- a step

top : bit_at (coefficients degrees) 31 ≡ 1
unfolding coefficients
top = refl

no_top : (r : ℕ) → r < 2 ^ 32 → bit_at (r / 2) 31 ≡ 0
no_top r l = let z : r / 2 / 2 ^ 31 ≡ 0 = omega (arith, l) in ap (λ (n : ℕ). n % 2) z

divisor_small : coefficients degrees < 2 ^ 32
unfolding coefficients
divisor_small = omega arith

half_small : (r : ℕ) → r < 2 ^ 32 → r / 2 < 2 ^ 32
half_small r l = omega (arith, l)

step_small : (r : ℕ) → r < 2 ^ 32 → times_x r < 2 ^ 32
unfolding times_x
step_small r l = by (r % 2 == 1)
  where
    by : (b : Bool) → (if b then bit_xor (r / 2) (coefficients degrees) else r / 2) < 2 ^ 32
    by true = xor_of_32 (r / 2) (coefficients degrees) (half_small r l) divisor_small
    by false = half_small r l

is_odd : (x : ℕ) → (x == 1) ≡ true → x ≡ 1
is_odd x e = eqb-true x 1 e

is_even : (x : ℕ) → x < 2 → (x == 1) ≡ false → x ≡ 0
is_even x l e = grind (arith, nat_tests)

rest_small : (r : ℕ) → r % 2 < 2
rest_small r = omega arith

both_halves : (r q : ℕ) → r / 2 ≡ q / 2 → r % 2 ≡ q % 2 → r ≡ q
both_halves r q e f = omega (arith, e, f)

-- the divisor's highest bit tells whether it was taken off
mixed : (r q : ℕ) → r < 2 ^ 32 → q < 2 ^ 32 → bit_xor (r / 2) (coefficients degrees) ≡ q / 2 → ⊥
mixed r q l m h =
    let low = no_top r l in
    let one : bit_at (bit_xor (r / 2) (coefficients degrees)) 31 ≡ 1 =
    bit_at_xor (r / 2) (coefficients degrees) 31 ∙ (λ k. (low k + top k) % 2) in
    let none : bit_at (bit_xor (r / 2) (coefficients degrees)) 31 ≡ 0 = ap (λ (n : ℕ). bit_at n 31) h ∙ no_top q m in
    let z : 1 ≡ 0 = sym one ∙ none in omega (arith, z)

step_back : (r q : ℕ) → r < 2 ^ 32 → q < 2 ^ 32 → times_x r ≡ times_x q → r ≡ q
unfolding times_x
step_back r q l m h = by (r % 2 == 1) (q % 2 == 1) refl refl h
  where
    by : (b c : Bool) → (r % 2 == 1) ≡ b → (q % 2 == 1) ≡ c → (if b then bit_xor (r / 2) (coefficients degrees) else r / 2)
        ≡ (if c then bit_xor (q / 2) (coefficients degrees) else q / 2) → r ≡ q
    by true true e f g = both_halves r q (taken_off (r / 2) (q / 2) (coefficients degrees) g) (is_odd (r % 2) e ∙ sym (is_odd (q % 2) f))
    by true false e f g = absurd (mixed r q l m g)
    by false true e f g = absurd (mixed q r m l (sym g))
    by false false e f g = both_halves r q g (is_even (r % 2) (rest_small r) e ∙ sym (is_even (q % 2) (rest_small q) f))

power_small : (k r : ℕ) → r < 2 ^ 32 → times_power k r < 2 ^ 32
unfolding times_power
power_small zero r l = l
power_small (suc k) r l = power_small k (times_x r) (step_small r l)

power_back : (k r q : ℕ) → r < 2 ^ 32 → q < 2 ^ 32 → times_power k r ≡ times_power k q → r ≡ q
unfolding times_power
power_back zero r q l m h = h
power_back (suc k) r q l m h = step_back r q l m (power_back k (times_x r) (times_x q) (step_small r l) (step_small q m) h)

-- ---- bytes

wide : (b : ℕ) → b < 256 → b < 2 ^ 32
wide b l = omega (arith, l)

byte_small : (r b : ℕ) → r < 2 ^ 32 → b < 256 → behind_byte r b < 2 ^ 32
unfolding behind_byte
byte_small r b l m = power_small 8 (bit_xor r b) (xor_of_32 r b l (wide b m))

byte_back : (r b q c : ℕ) → r < 2 ^ 32 → b < 256 → q < 2 ^ 32 → c < 256 → behind_byte r b ≡ behind_byte q c → bit_xor r b ≡ bit_xor q c
unfolding behind_byte
byte_back r b q c l m i j h = power_back 8 (bit_xor r b) (bit_xor q c) (xor_of_32 r b l (wide b m)) (xor_of_32 q c i (wide c j)) h

bytes_small : (bs : List ℕ) (r : ℕ) → AreBytes bs → r < 2 ^ 32 → behind_bytes r bs < 2 ^ 32
unfolding behind_bytes
bytes_small [] r h l = l
bytes_small (b ∷ bs) r h l = bytes_small bs (behind_byte r b) h.1 (byte_small r b l h.0)

bytes_back : (bs : List ℕ) (r q : ℕ) → AreBytes bs → r < 2 ^ 32 → q < 2 ^ 32 → behind_bytes r bs ≡ behind_bytes q bs → r ≡ q
unfolding behind_bytes
bytes_back [] r q h l m e = e
bytes_back (b ∷ bs) r q h l m e =
    taken_off r q b (byte_back r b q b l h.0 m h.0
    (bytes_back bs (behind_byte r b) (behind_byte q b) h.1 (byte_small r b l h.0) (byte_small q b m h.0) e))

first_small : 0xffff_ffff < 2 ^ 32
first_small = omega arith

one_byte : (r b : ℕ) (bs : List ℕ) → behind_bytes r (b ∷ bs) ≡ behind_bytes (behind_byte r b) bs
unfolding behind_bytes
one_byte r b bs = refl

pub same_byte : (front rest : List ℕ) (b c : ℕ) → AreBytes front → AreBytes rest → b < 256 → c < 256
    → crc32c (front ++ b ∷ rest) ≡ crc32c (front ++ c ∷ rest) → b ≡ c
unfolding crc32c
same_byte front rest b c f g l m e =
    let r : ℕ = behind_bytes 0xffff_ffff front in
    let small : r < 2 ^ 32 = bytes_small front 0xffff_ffff f first_small in
    let whole : behind_bytes 0xffff_ffff (front ++ b ∷ rest) ≡ behind_bytes 0xffff_ffff (front ++ c ∷ rest) = taken_off _ _ 0xffff_ffff e in
    let behind : behind_bytes (behind_byte r b) rest ≡ behind_bytes (behind_byte r c) rest =
    sym (in_parts 0xffff_ffff front (b ∷ rest) ∙ one_byte r b rest) ∙ whole ∙ in_parts 0xffff_ffff front (c ∷ rest) ∙ one_byte r c rest in
    taken_off b c r (xor_comm b r ∙ byte_back r b r c small l small m
    (bytes_back rest (behind_byte r b) (behind_byte r c) g (byte_small r b small l) (byte_small r c small m) behind) ∙ xor_comm r c)

pub changed : (front rest : List ℕ) (b c : ℕ) → AreBytes front → AreBytes rest → b < 256 → c < 256 → b ≢ c
    → crc32c (front ++ b ∷ rest) ≢ crc32c (front ++ c ∷ rest)
changed front rest b c f g l m n = λ e. n (same_byte front rest b c f g l m e)

pub small : (bytes : List ℕ) → AreBytes bytes → crc32c bytes < 2 ^ 32
unfolding crc32c
small bytes h = xor_of_32 (behind_bytes 0xffff_ffff bytes) 0xffff_ffff (bytes_small bytes 0xffff_ffff h first_small) first_small

-- ---- an entry's

pub bytes_both : (a b : List ℕ) → AreBytes a → AreBytes b → AreBytes (a ++ b)
bytes_both [] b f g = g
bytes_both (x ∷ a) b f g = (f.0, bytes_both a b f.1 g)

low_byte : (n : ℕ) → n % 256 < 256
low_byte n = omega arith

pub le_bytes : (w n : ℕ) → AreBytes (le w n)
unfolding le
le_bytes zero n = tt
le_bytes (suc w) n = (low_byte n, le_bytes w (n / 256))

pub same_length : (front rest : List ℕ) (b c : ℕ) → length (front ++ b ∷ rest) ≡ length (front ++ c ∷ rest)
same_length front rest b c = length-append front (b ∷ rest) ∙ sym (length-append front (c ∷ rest))

entry_of : (front rest : List ℕ) (b n : ℕ) → n ≡ length (front ++ b ∷ rest) → entry (front ++ b ∷ rest) ≡ (le 4 n ++ front) ++ b ∷ rest
entry_of front rest b n e = ap (λ (k : ℕ). le 4 k ++ (front ++ b ∷ rest)) (sym e) ∙ sym (append_assoc (le 4 n) front (b ∷ rest))

pub changed_entry : (front rest : List ℕ) (b c : ℕ) → AreBytes front → AreBytes rest → b < 256 → c < 256 → b ≢ c
    → crc32c (entry (front ++ b ∷ rest)) ≢ crc32c (entry (front ++ c ∷ rest))
changed_entry front rest b c f g l m n = λ e.
    let size : ℕ = length (front ++ b ∷ rest) in
    changed (le 4 size ++ front) rest b c (bytes_both (le 4 size) front (le_bytes 4 size) f) g l m n
    (ap (λ (x : List ℕ). crc32c x) (sym (entry_of front rest b size refl)) ∙ e
    ∙ ap (λ (x : List ℕ). crc32c x) (entry_of front rest c size (same_length front rest b c)))
