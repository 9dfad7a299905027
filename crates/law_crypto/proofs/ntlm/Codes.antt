-- A MIC counts as zeros in its own message; a key that is exchanged comes out as it went in; and how long keys and codes are.
use Rattle.std.proofs.Common.{◌≡◌, ℕ, List, [], ◌∷◌, ◌++◌, append_assoc, length, take, drop, replicate, length-append}
use Rattle.std.proofs.Common.{refl, sym, ap, ◌∙◌, arith}
use Rattle.std.proofs.lemmas.List.{take_at, drop_at}
use Rattle.std.specs.Int.Bits.{bit_xor, xor_self, xor_assoc, xor_zero_r}
use Rattle.md5.proofs.StandardFacts.{length-md5}
use Rattle.spec_crypto.specs.ciphers.Rc4.{CipherState, advanced, stream_byte, enciphered, opened}
use Rattle.spec_crypto.specs.tokens.Formulas.{proof, exchanged_key, without_mic, mic}

xor_twice : (x k : ℕ) → bit_xor (bit_xor x k) k ≡ x
xor_twice x k = xor_assoc x k k ∙ (ap (bit_xor x) (xor_self k) ∙ xor_zero_r x)

enciphered_twice : (s : CipherState) (xs : List ℕ) → enciphered s (enciphered s xs) ≡ xs
enciphered_twice s [] = refl
enciphered_twice s (x ∷ xs) = λ i. xor_twice x (stream_byte (advanced s)) i ∷ enciphered_twice (advanced s) xs i

length-enciphered : (s : CipherState) (xs : List ℕ) → length (enciphered s xs) ≡ length xs
length-enciphered s [] = refl
length-enciphered s (x ∷ xs) = let rest = length-enciphered (advanced s) xs in omega arith

-- a key enciphered by both ends
pub exchanged_twice : (base key : List ℕ) → exchanged_key base (exchanged_key base key) ≡ key
unfolding exchanged_key
exchanged_twice base key = enciphered_twice (opened base) key

pub length-exchanged : (base key : List ℕ) → length (exchanged_key base key) ≡ length key
unfolding exchanged_key
length-exchanged base key = length-enciphered (opened base) key

pub length-proof : (key challenge text : List ℕ) → length (proof key challenge text) ≡ 16
unfolding proof
length-proof key challenge text = length-md5 _

pub length-mic : (key first second third : List ℕ) → length (mic key first second third) ≡ 16
unfolding mic
length-mic key first second third = length-md5 _

-- six parts behind a front of 72 bytes and a code of 16
pub zeroed : (f m a b c d e k : List ℕ) → length f ≡ 72 → length m ≡ 16 → without_mic (((((((f ++ m) ++ a) ++ b) ++ c) ++ d)
    ++ e) ++ k) ≡ f ++ (replicate 16 0 ++ (a ++ (b ++ (c ++ (d ++ (e ++ k))))))
zeroed f m a b c d e k front code =
    let rest : List ℕ = a ++ (b ++ (c ++ (d ++ (e ++ k)))) in
    let two : (((((((f ++ m) ++ a) ++ b) ++ c) ++ d) ++ e) ++ k) ≡ f ++ (m ++ rest) = simp append_assoc refl in
    let len = length-append f m in
    let before : take 72 (f ++ (m ++ rest)) ≡ f = take_at f (m ++ rest) 72 front in
    let behind : drop 88 (f ++ (m ++ rest)) ≡ rest = ap (drop 88) (sym (append_assoc f m rest)) ∙ drop_at (f ++ m) rest 88 (omega arith) in
    ap without_mic two ∙ (λ t. before t ++ (replicate 16 0 ++ behind t))
