-- A signed message is the message of another header: its Signature is the signature.
use Rattle.std.proofs.Common.{◌≡◌, ℕ, ◌==◌, Bool, true, false, if◌then◌else◌, List, [], ◌∷◌, ◌++◌, append_assoc}
use Rattle.std.proofs.Common.{length, take, drop, length-append, refl, sym, ap, ◌∙◌, arith}
use Rattle.std.proofs.lemmas.List.{take_at, drop_at, append-nil}
use Rattle.spec_crypto.specs.ciphers.Aes.{schedule, cipher, block_sum}
use Rattle.spec_crypto.specs.ciphers.Cmac.{cmac}
use Rattle.spec_crypto.specs.ciphers.Gcm.{gmac}
use Rattle.spec_wire.specs.messages.Table.{Field, Num, Raw, Any, with_fields, AreWritable}
use Rattle.spec_wire.specs.messages.Header.{protocol, header_spelling, IsWritableHeader}
use Rattle.spec_wire.specs.declared.messages.header.Header.{Header}
use Rattle.law_wire.proofs.messages.Rows.{length-with_fields, size_of}
use Rattle.spec_crypto.specs.declared.sessions.material.Signer.{Signer}
use Rattle.spec_crypto.specs.sessions.Signing.{unsigned, signing_nonce, signature, signed}
use Rattle.spec_world.specs.Messages.{message_spelling}
use Rattle.law_ties.specs.wire_facts.Fitting.{IsMessage, Bare, Signed}

-- ---- a signature has 16 bytes

sum_length : (s t : List ℕ) → length (block_sum s t) ≡ 16
unfolding block_sum
sum_length s t = refl

length_by : (b : Bool) (x y : List ℕ) (n : ℕ) → length x ≡ n → length y ≡ n → length (if b then x else y) ≡ n
length_by true x y n e f = e
length_by false x y n e f = f

cmac_length : (ws : List (List ℕ)) (m : List ℕ) → length (cmac ws m) ≡ 16
unfolding cmac cipher
cmac_length ws m = sum_length _ _

pub signature_length : (s : Signer) (m : List ℕ) → length (signature s m) ≡ 16
unfolding signature
signature_length s m =
    length_by (s.algorithm == 2) (gmac (schedule 4 s.key) (signing_nonce m) (unsigned m))
    (cmac (schedule 4 s.key) (unsigned m)) 16 (sum_length _ _) (cmac_length (schedule 4 s.key) (unsigned m))

-- ---- tables of fields in two parts

front_fit : (fs gs : List Field) → AreWritable (fs ++ gs) → AreWritable fs
front_fit [] gs fit = tt
front_fit (Num w n ∷ fs) gs fit = (fit.0, front_fit fs gs fit.1)
front_fit (Raw w b ∷ fs) gs fit = (fit.0, front_fit fs gs fit.1)
front_fit (Any w ∷ fs) gs fit = front_fit fs gs fit

join_fit : (fs gs : List Field) → AreWritable fs → AreWritable gs → AreWritable (fs ++ gs)
join_fit [] gs fit last = last
join_fit (Num w n ∷ fs) gs fit last = (fit.0, join_fit fs gs fit.1 last)
join_fit (Raw w b ∷ fs) gs fit last = (fit.0, join_fit fs gs fit.1 last)
join_fit (Any w ∷ fs) gs fit last = join_fit fs gs fit last

-- all fields but the last one, the Signature
abbrev front_table : Header → List Field
front_table h =
    Raw 4 protocol ∷ Num 2 64 ∷ Num 2 h.charge ∷ Num 4 h.status ∷ Num 2 h.command ∷ Num 2 h.credits ∷ Num 4 h.flags
    ∷ Num 4 h.next ∷ Num 8 h.message ∷ Any 4 ∷ Num 4 h.tree ∷ Num 8 h.session ∷ []

abbrev front_bytes : Header → List ℕ
front_bytes h = with_fields [] (front_table h)

front_length : (h : Header) → IsWritableHeader h → length (front_bytes h) ≡ 48
unfolding size_of
front_length h fit = length-with_fields (front_table h) [] (front_fit (front_table h) (Raw 16 h.signature ∷ []) fit)

-- ---- the header with another signature

abbrev pub with_signature : Header → List ℕ → Header
with_signature h code = record h { signature = code }

pub resigned_fit : (h : Header) (code : List ℕ) → length code ≡ 16 → IsWritableHeader h → IsWritableHeader (with_signature h code)
resigned_fit h code len fit =
    join_fit (front_table h) (Raw 16 code ∷ []) (front_fit (front_table h) (Raw 16 h.signature ∷ []) fit) (len, tt)

signature_fits : (fs : List Field) (b : List ℕ) → AreWritable (fs ++ Raw 16 b ∷ []) → length b ≡ 16
signature_fits [] b fit = fit.0
signature_fits (Num w n ∷ fs) b fit = signature_fits fs b fit.1
signature_fits (Raw w c ∷ fs) b fit = signature_fits fs b fit.1
signature_fits (Any w ∷ fs) b fit = signature_fits fs b fit

-- what 16 bytes at 48 become
replaced_in : (front old code body : List ℕ) → length front ≡ 48 → length old ≡ 16
    → take 48 ((front ++ old) ++ body) ++ (code ++ drop 64 ((front ++ old) ++ body)) ≡ (front ++ code) ++ body
replaced_in front old code body f o =
    let whole : length (front ++ old) ≡ 64 = length-append front old ∙ omega (arith, f, o) in
    let head : take 48 ((front ++ old) ++ body) ≡ front =
    ap (take 48) (append_assoc front old body) ∙ take_at front (old ++ body) 48 f in
    let back : drop 64 ((front ++ old) ++ body) ≡ body = drop_at (front ++ old) body 64 whole in
    rw (head, back) (sym (append_assoc front code body))

signed_is : (s : Signer) (h : Header) (body : List ℕ) → IsWritableHeader h → signed s (message_spelling h body)
    ≡ message_spelling (with_signature h (signature s (message_spelling h body))) body
unfolding signed message_spelling
signed_is s h body fit =
    replaced_in (front_bytes h) h.signature (signature s (message_spelling h body)) body (front_length h fit)
    (signature_fits (front_table h) h.signature fit)

-- ---- every message is spelled with some signature

pub record Spelled (h : Header) (body m : List ℕ) : Type 0 where
  pub code : List ℕ
  pub fits : IsWritableHeader (with_signature h code)
  pub is : m ≡ message_spelling (with_signature h code) body

pub spelled : (h : Header) (body m : List ℕ) → IsWritableHeader h → IsMessage h body m → Spelled h body m
spelled h body m fit (Bare e) = record { code = h.signature; fits = fit; is = e }
spelled h body m fit (Signed s e) =
    let code = signature s (message_spelling h body) in
    record { code = code; fits = resigned_fit h code (signature_length s (message_spelling h body)) fit; is = e ∙ signed_is s h body fit }

-- in two parts, as the laws of commands take it
pub parts : (h : Header) (body m : List ℕ) (x : Spelled h body m) → m ≡ header_spelling (with_signature h x.code) ++ (body ++ [])
unfolding message_spelling
parts h body m x = x.is ∙ ap (λ b. header_spelling (with_signature h x.code) ++ b) (sym (append-nil body))
