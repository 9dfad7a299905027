-- What is signed verifies.
use Rattle.std.proofs.Common.{◌≡◌, ℕ, zero, suc, ◌+◌, ◌%◌, ◌≤◌, ◌==◌, Bool, true, false, if◌then◌else◌, List, [], ◌∷◌}
use Rattle.std.proofs.Common.{◌++◌, append_assoc, length, take, drop, replicate, length-append, length-drop, refl, sym}
use Rattle.std.proofs.Common.{ap, ◌∙◌, arith}
use Rattle.std.proofs.lemmas.List.{take_at, drop_at, length-take-le, take-append-drop}
use Rattle.std.proofs.lemmas.Slice.Eq.{bytes_eq-Decides}
use Rattle.spec_crypto.specs.ciphers.Aes.{schedule, cipher}
use Rattle.spec_crypto.specs.ciphers.Cmac.{cmac}
use Rattle.spec_crypto.specs.ciphers.Gcm.{gmac}
use Rattle.law_crypto.proofs.ciphers.Masking.{sum_length}
use Rattle.spec_wire.specs.messages.Places.{le, number_of, bytes_at}
use Rattle.spec_wire.proofs.messages.Numbers.{bytes_at-behind}
use Rattle.spec_crypto.specs.declared.sessions.material.Signer.{Signer}
use Rattle.spec_crypto.specs.sessions.Signing.{unsigned, signing_nonce, signature, signed, verifies}

drop_in : (h a : List ℕ) (n : ℕ) → n ≤ length h → drop n (h ++ a) ≡ drop n h ++ a
drop_in h a zero le = refl
drop_in [] a (suc n) le = absurd (omega arith)
drop_in (x ∷ h) a (suc n) le = drop_in h a n (omega arith)

take_in : (h a : List ℕ) (n : ℕ) → n ≤ length h → take n (h ++ a) ≡ take n h
take_in h a zero le = refl
take_in [] a (suc n) le = absurd (omega arith)
take_in (x ∷ h) a (suc n) le = ap (λ (l : List ℕ). x ∷ l) (take_in h a n (omega arith))

front_bytes : (w at : ℕ) (h a : List ℕ) → at + w ≤ length h → bytes_at w (h ++ a) at ≡ bytes_at w h at
unfolding bytes_at
front_bytes w at h a fit = let l = length-drop at h in ap (take w) (drop_in h a at (omega arith)) ∙ take_in (drop at h) a w (omega arith)

length_by : (b : Bool) (x y : List ℕ) (n : ℕ) → length x ≡ n → length y ≡ n → length (if b then x else y) ≡ n
length_by true x y n e f = e
length_by false x y n e f = f

cmac_length : (ws : List (List ℕ)) (m : List ℕ) → length (cmac ws m) ≡ 16
unfolding cmac cipher
cmac_length ws m = sum_length _ _

pub signature_length : (s : Signer) (m : List ℕ) → length (signature s m) ≡ 16
unfolding signature
signature_length s m =
    length_by (s.algorithm == 2) (gmac (schedule 4 s.key) (signing_nonce m) (unsigned m)) (cmac (schedule 4 s.key)
    (unsigned m)) 16 (sum_length _ _) (cmac_length (schedule 4 s.key) (unsigned m))

signature_same : (s : Signer) (m n : List ℕ) → unsigned m ≡ unsigned n → signing_nonce m ≡ signing_nonce n → signature s m ≡ signature s n
unfolding signature
signature_same s m n e f = λ t. if s.algorithm == 2 then gmac (schedule 4 s.key) (f t) (e t) else cmac (schedule 4 s.key) (e t)

same_nonce : (h a b : List ℕ) → length h ≡ 48 → signing_nonce (h ++ a) ≡ signing_nonce (h ++ b)
same_nonce h a b len =
    let id : bytes_at 8 (h ++ a) 24 ≡ bytes_at 8 (h ++ b) 24 = front_bytes 8 24 h a (omega arith) ∙ sym (front_bytes 8
    24 h b (omega arith)) in
    let command : bytes_at 2 (h ++ a) 12 ≡ bytes_at 2 (h ++ b) 12 = front_bytes 2 12 h a (omega arith) ∙ sym
    (front_bytes 2 12 h b (omega arith)) in
    let flags : bytes_at 1 (h ++ a) 16 ≡ bytes_at 1 (h ++ b) 16 = front_bytes 1 16 h a (omega arith) ∙ sym (front_bytes
    1 16 h b (omega arith)) in
    λ t. id t ++ le 4 (number_of (flags t) % 2 + (if number_of (command t) == 12 then 2 else 0))

pub verified : (s : Signer) (m : List ℕ) → 64 ≤ length m → verifies s (signed s m) ≡ true
unfolding verifies signed
verified s m long =
    let head : List ℕ = take 48 m in
    let code : List ℕ = signature s m in
    let head_len : length head ≡ 48 = length-take-le 48 m (omega arith) in
    let code_len : length code ≡ 16 = signature_length s m in
    let all : List ℕ = head ++ (code ++ drop 64 m) in
    let field : bytes_at 16 all 48 ≡ code = bytes_at-behind 16 head code (drop 64 m) 48 (sym head_len) code_len in
    let both_len : length (head ++ code) ≡ 64 = (let a = length-append head code in omega arith) in
    let front : take 48 all ≡ head = take_at head (code ++ drop 64 m) 48 head_len in
    let back : drop 64 all ≡ drop 64 m = ap (drop 64) (sym (append_assoc head code (drop 64 m))) ∙ drop_at (head ++
    code) (drop 64 m) 64 both_len in
    let plain : unsigned all ≡ unsigned m = λ t. front t ++ (replicate 16 0 ++ back t) in
    let nonce : signing_nonce all ≡ signing_nonce m = same_nonce head (code ++ drop 64 m) (drop 48 m) head_len ∙ ap
    signing_nonce (take-append-drop 48 m) in
    let same : signature s all ≡ code = signature_same s all m plain nonce in
    (bytes_eq-Decides (bytes_at 16 all 48) (signature s all)).1 (field ∙ sym same)
