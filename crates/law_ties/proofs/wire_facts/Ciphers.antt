-- What is sealed under a channel's nonce: its length, its first bytes, and its Flags.
use Rattle.std.proofs.Common.{◌≡◌, ℕ, ◌≤◌, ◌==◌, Bool, true, List, ◌++◌, append_assoc, length, replicate, length-append, refl}
use Rattle.std.proofs.Common.{ap, ◌∙◌, arith}
use Rattle.sha2.proofs.Facts512.{length-sha512}
use Rattle.spec_wire.specs.messages.Places.{le, number_of, bytes_at}
use Rattle.spec_wire.proofs.messages.Numbers.{length-le, number_of-le, bytes_at-behind}
use Rattle.spec_crypto.specs.declared.sessions.material.Keys.{Keys}
use Rattle.spec_crypto.specs.sessions.Chain.{hash}
use Rattle.spec_crypto.specs.sessions.Nonces.{nonce_of}
use Rattle.spec_crypto.specs.sessions.Sealing.{protocol, key_for, added_of, ciphertext, tag_of, sealed_by, sealed}
use Rattle.law_crypto.proofs.sealing.Frames.{tag_length, ciphertext_length}
use Rattle.spec_world.specs.Ends.{nonce_at}
use Rattle.spec_world.specs.Hearing.{begins_sealed, is_encrypted}

pub hash_length : (m : List ℕ) → length (hash m) ≡ 64
unfolding hash
hash_length m = length-sha512 m

pub nonce_length : (channel counter : ℕ) → length (nonce_at channel counter) ≡ 16
unfolding nonce_of
nonce_length channel counter =
    let a = length-append (le 8 counter) (le 2 channel ++ replicate 6 0) in
    let b = length-append (le 2 channel) (replicate 6 0) in
    let c = length-le 8 counter in
    let d = length-le 2 channel in
    let e : length {A = ℕ} (replicate 6 0) ≡ 6 = refl in
    omega (arith, a, b, c, d, e)

pub begins : (keys : Keys) (from_client : Bool) (nonce text : List ℕ) → begins_sealed (sealed keys from_client nonce text) ≡ true
unfolding begins_sealed sealed_by bytes_at
begins keys from_client nonce text = refl

added_length : (nonce : List ℕ) (size session : ℕ) → length nonce ≡ 16 → length (added_of nonce size session) ≡ 32
added_length nonce size session e =
    let a = length-append nonce (le 4 size ++ (le 2 0 ++ (le 2 1 ++ le 8 session))) in
    let b = length-append (le 4 size) (le 2 0 ++ (le 2 1 ++ le 8 session)) in
    let c = length-append (le 2 0) (le 2 1 ++ le 8 session) in
    let d = length-append (le 2 1) (le 8 session) in
    let f = length-le 4 size in
    let g = length-le 2 0 in
    let h = length-le 2 1 in
    let i = length-le 8 session in
    omega (arith, a, b, c, d, e, f, g, h, i)

-- behind the nonce, the size and two bytes stand the Flags
parts : (p t n s r f i h : List ℕ) → p ++ (t ++ ((n ++ (s ++ (r ++ (f ++ i)))) ++ h)) ≡ (p ++ (t ++ (n ++ (s ++ r)))) ++ (f ++ (i ++ h))
parts p t n s r f i h = simp append_assoc refl

pub flagged : (keys : Keys) (from_client : Bool) (channel counter : ℕ) (text : List ℕ)
    → is_encrypted (sealed keys from_client (nonce_at channel counter) text) ≡ true
unfolding sealed_by
flagged keys from_client channel counter text =
    let nonce = nonce_at channel counter in
    let key = key_for keys from_client in
    let size = le 4 (length text) in
    let hidden = ciphertext keys.cipher key nonce text in
    let added = added_of nonce (length text) keys.session in
    let tag = tag_of keys.cipher key nonce added text hidden in
    let front = protocol ++ (tag ++ (nonce ++ (size ++ le 2 0))) in
    let a = length-append protocol (tag ++ (nonce ++ (size ++ le 2 0))) in
    let b = length-append tag (nonce ++ (size ++ le 2 0)) in
    let c = length-append nonce (size ++ le 2 0) in
    let d = length-append size (le 2 0) in
    let e : length tag ≡ 16 = tag_length keys.cipher key nonce added text hidden in
    let f : length nonce ≡ 16 = nonce_length channel counter in
    let g = length-le 4 (length text) in
    let h = length-le 2 0 in
    let i : length protocol ≡ 4 = refl in
    let behind : 42 ≡ length front = omega (arith, a, b, c, d, e, f, g, h, i) in
    let bytes : bytes_at 2 (sealed keys from_client nonce text) 42 ≡ le 2 1 =
    ap (λ (m : List ℕ). bytes_at 2 m 42) (parts protocol tag nonce size (le 2 0) (le 2 1) (le 8 keys.session) hidden)
    ∙ bytes_at-behind 2 front (le 2 1) (le 8 keys.session ++ hidden) 42 behind (length-le 2 1) in
    let one : number_of (bytes_at 2 (sealed keys from_client nonce text) 42) ≡ 1 = ap number_of bytes ∙ number_of-le 2 1 (omega arith) in
    ap (λ n. n == 1) one

pub short : (keys : Keys) (from_client : Bool) (channel counter : ℕ) (text : List ℕ) → length text ≤ 1114060
    → length (sealed keys from_client (nonce_at channel counter) text) ≤ 1114112
unfolding sealed_by
short keys from_client channel counter text few =
    let nonce = nonce_at channel counter in
    let key = key_for keys from_client in
    let hidden = ciphertext keys.cipher key nonce text in
    let added = added_of nonce (length text) keys.session in
    let tag = tag_of keys.cipher key nonce added text hidden in
    let a = length-append protocol (tag ++ (added ++ hidden)) in
    let b = length-append tag (added ++ hidden) in
    let c = length-append added hidden in
    let d : length tag ≡ 16 = tag_length keys.cipher key nonce added text hidden in
    let e : length hidden ≡ length text = ciphertext_length keys.cipher key nonce text in
    let f : length added ≡ 32 = added_length nonce (length text) keys.session (nonce_length channel counter) in
    let g : length protocol ≡ 4 = refl in
    omega (arith, a, b, c, d, e, f, g, few)
