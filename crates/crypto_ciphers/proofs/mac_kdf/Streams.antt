-- RC4's key schedule and its stream, a step at a time.
use Rattle.std.proofs.Common.{◌≡◌, ℕ, zero, suc, ◌+◌, ◌%◌, ◌<◌, List, [], ◌∷◌, ◌++◌, length, take, drop, get_or, set}
use Rattle.std.proofs.Common.{swap, refl, ap, sym, ◌∙◌, arith, add-one, append_assoc, length-take-le}
use Rattle.std.specs.Prelude.{slice_index, bit_xor}
use Rattle.std.specs.List.{range_with_len}
use Rattle.std.proofs.lemmas.List.{same_lists, get_or_default, take_more, drop_more, get_or_at, set_at}
use Rattle.std.proofs.lemmas.List.FromFn.{length-range_with_len}
use Rattle.std.specs.Int.Bits.{xor_self, xor_assoc, xor_zero_r}
use Rattle.spec_crypto.specs.ciphers.Rc4.{PiecesJoin, Deciphers, CipherState, scheduled_place, scheduled, advanced, stream_byte}
use Rattle.spec_crypto.specs.ciphers.Rc4.{advanced_by, enciphered}

get_or-range : (a n k d : ℕ) → k < n → get_or (range_with_len a n) k d ≡ a + k
get_or-range a zero k d l = absurd (omega arith)
get_or-range a (suc n) zero d l = omega arith
get_or-range a (suc n) (suc k) d l = get_or-range (a + 1) n k d (omega arith) ∙ (let e : a + 1 + k ≡ a + suc k = omega arith in e)

-- the table at the start
pub filled_is : (table : List ℕ) → length table ≡ 256 → ((k : ℕ) → k < 256 → slice_index table k ≡ k) → table ≡ range_with_len 0 256
filled_is table len filled =
    same_lists table (range_with_len 0 256) (len ∙ sym (length-range_with_len 0 256))
    (λ k d l. let low : k < 256 = omega arith in
    get_or_default table k d 0 l ∙ (filled k low ∙ sym (get_or-range 0 256 k d low ∙ (let e : 0 + k ≡ k = omega arith in e))))

pub starts_scheduled : (key table : List ℕ) → table ≡ range_with_len 0 256 → (table ≡ (scheduled key 0).table) × (0 ≡ (scheduled key 0).j)
unfolding scheduled
starts_scheduled key table e = (e, refl)

pub schedule_more : (key table table' : List ℕ) (n j j' : ℕ) → table ≡ (scheduled key n).table → j ≡ (scheduled key n).j
    → j' ≡ (j + slice_index table n + slice_index key (n % length key)) % 256 → table' ≡ swap table n j'
    → (table' ≡ (scheduled key (n + 1)).table) × (j' ≡ (scheduled key (n + 1)).j)
unfolding scheduled
schedule_more key table table' n j j' at place next swapped =
    let goes : j' ≡ scheduled_place key (scheduled key n).table (scheduled key n).j n = next
    ∙ (λ i. scheduled_place key (at i) (place i) n) in
    (rw add-one (swapped ∙ (λ i. swap (at i) n (goes i))), rw add-one goes)

pub advanced_by-more : (s : CipherState) (n : ℕ) → advanced_by s (n + 1) ≡ advanced (advanced_by s n)
advanced_by-more s zero = refl
advanced_by-more s (suc n) = let e : suc n + 1 ≡ suc (n + 1) = omega arith in ap (advanced_by s) e ∙ advanced_by-more (advanced s) n

-- the law of two pieces
pub enciphered-append : (s : CipherState) (xs ys : List ℕ) → enciphered s (xs ++ ys) ≡ enciphered s xs
    ++ enciphered (advanced_by s (length xs)) ys
enciphered-append s [] ys = refl
enciphered-append s (x ∷ xs) ys = ap (λ l. bit_xor x (stream_byte (advanced s)) ∷ l) (enciphered-append (advanced s) xs ys)

pub length-enciphered : (s : CipherState) (xs : List ℕ) → length (enciphered s xs) ≡ length xs
length-enciphered s [] = refl
length-enciphered s (x ∷ xs) = ap suc (length-enciphered (advanced s) xs)

-- one byte more
pub enciphered_more : (s : CipherState) (old now : List ℕ) (i byte : ℕ) → i < length old → now ≡ enciphered s (take i old) ++ drop i old
    → byte ≡ stream_byte (advanced (advanced_by s i))
    → set now i (bit_xor (get_or now i 0) byte) ≡ enciphered s (take (i + 1) old) ++ drop (i + 1) old
enciphered_more s old now i byte l is stream =
    let front : List ℕ = enciphered s (take i old) in
    let y : ℕ = get_or old i 0 in
    let count : length (take i old) ≡ i = length-take-le i old (omega arith) in
    let len : length front ≡ i = length-enciphered s (take i old) ∙ count in
    let split : now ≡ front ++ (y ∷ drop (i + 1) old) = is ∙ ap (λ r. front ++ r) (drop_more old i 0 l) in
    let read : get_or now i 0 ≡ y = ap (λ r. get_or r i 0) split ∙ get_or_at front y (drop (i + 1) old) 0 i len in
    let joined : bit_xor (get_or now i 0) byte
    ≡ bit_xor y (stream_byte (advanced (advanced_by s (length (take i old))))) = (λ k. bit_xor (read k) (stream k))
    ∙ ap (λ n. bit_xor y (stream_byte (advanced (advanced_by s n)))) (sym count) in
    let b : ℕ = bit_xor y (stream_byte (advanced (advanced_by s (length (take i old))))) in
    let one : enciphered s (take (i + 1) old) ≡ front ++ b ∷ [] = ap (enciphered s) (take_more old i 0 l)
    ∙ enciphered-append s (take i old) (y ∷ []) in
    (λ k. set (split k) i (joined k)) ∙ (set_at front y (drop (i + 1) old) b i len
    ∙ (sym (append_assoc front (b ∷ []) (drop (i + 1) old)) ∙ ap (λ r. r ++ drop (i + 1) old) (sym one)))

advanced_by-append : (s : CipherState) (xs ys : List ℕ) → advanced_by s (length (xs ++ ys))
    ≡ advanced_by (advanced_by s (length xs)) (length ys)
advanced_by-append s [] ys = refl
advanced_by-append s (x ∷ xs) ys = advanced_by-append (advanced s) xs ys

pub pieces_join : PiecesJoin
pieces_join s xs ys = (enciphered-append s xs ys, advanced_by-append s xs ys)

bit_xor-twice : (x k : ℕ) → bit_xor (bit_xor x k) k ≡ x
bit_xor-twice x k = xor_assoc x k k ∙ (ap (bit_xor x) (xor_self k) ∙ xor_zero_r x)

pub deciphers : Deciphers
deciphers s [] = refl
deciphers s (x ∷ xs) =
    let k : ℕ = stream_byte (advanced s) in (λ i. bit_xor-twice x k i ∷ deciphers (advanced s) xs i)
