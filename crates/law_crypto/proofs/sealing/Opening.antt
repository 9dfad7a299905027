-- What is sealed opens, what is signed verifies, and nonces differ.
use Rattle.std.proofs.Common.{◌≡◌, ℕ, ◌+◌, ◌≤◌, ◌<◌, ◌^◌, ◌==◌, nat_le, nat_lt, true, false, List, [], ◌++◌}
use Rattle.std.proofs.Common.{append_assoc, length, take, drop, replicate, length-append, refl, sym, ap, ◌∙◌, subst}
use Rattle.std.proofs.Common.{arith, Ok}
use Rattle.std.proofs.lemmas.List.{take_at, drop_at}
use Rattle.std.proofs.lemmas.Bool.Decides.{nat_tests}
use Rattle.std.proofs.lemmas.Slice.Eq.{bytes_eq-Decides}
use Rattle.std.specs.Str.{bytes_eq}
use Rattle.spec_wire.specs.messages.Places.{le, number, number_of, bytes_at}
use Rattle.spec_wire.proofs.messages.Numbers.{length-le, number_of-le, bytes_at-behind}
use Rattle.spec_crypto.specs.sessions.Nonces.{NonceState, nonce_of}
use Rattle.spec_crypto.specs.sessions.Sealing.{protocol, added_of, ciphertext, tag_of, sealed_by, is_sealed}
use Rattle.spec_crypto.specs.sessions.Sealing.{frame_fault, tag_is_right, unsealed_by}
use Rattle.law_crypto.proofs.sealing.Frames.{ciphertext_length, tag_length, hides_twice}

same_bytes : (a : List ℕ) → bytes_eq a a ≡ true
same_bytes a = (bytes_eq-Decides a a).1 refl

pub nonces_differ : (a b : NonceState) → a.counter < 2 ^ 64 → b.counter < 2 ^ 64 → a.channel < 2 ^ 16 → b.channel < 2 ^
    16 → nonce_of a ≡ nonce_of b → a ≡ b
unfolding nonce_of
nonces_differ a b fa fb ca cb e =
    let front : le 8 a.counter ≡ le 8 b.counter =
    sym (take_at (le 8 a.counter) (le 2 a.channel ++ replicate 6 0) 8 (length-le 8 a.counter)) ∙ (ap (take 8) e ∙
    take_at (le 8 b.counter) (le 2 b.channel ++ replicate 6 0) 8 (length-le 8 b.counter)) in
    let back : le 2 a.channel ++ replicate 6 0 ≡ le 2 b.channel ++ replicate 6 0 =
    sym (drop_at (le 8 a.counter) (le 2 a.channel ++ replicate 6 0) 8 (length-le 8 a.counter)) ∙ (ap (drop 8) e ∙
    drop_at (le 8 b.counter) (le 2 b.channel ++ replicate 6 0) 8 (length-le 8 b.counter)) in
    let mid : le 2 a.channel ≡ le 2 b.channel =
    sym (take_at (le 2 a.channel) (replicate 6 0) 2 (length-le 2 a.channel)) ∙ (ap (take 2) back ∙ take_at (le 2
    b.channel) (replicate 6 0) 2 (length-le 2 b.channel)) in
    let counters : a.counter ≡ b.counter = sym (number_of-le 8 a.counter fa) ∙ (ap number_of front ∙ number_of-le 8 b.counter fb) in
    let channels : a.channel ≡ b.channel = sym (number_of-le 2 a.channel ca) ∙ (ap number_of mid ∙ number_of-le 2 b.channel cb) in
    λ t. record { channel = channels t; counter = counters t }

low : (n k : ℕ) → n < k → nat_lt n k ≡ true
low n k h = grind (arith, nat_tests)

high : (n k : ℕ) → k ≤ n → nat_lt n k ≡ false
high n k h = grind (arith, nat_tests)

reach : (n k : ℕ) → n ≤ k → nat_le n k ≡ true
reach n k h = grind (arith, nat_tests)

is_self : (k : ℕ) → (k == k) ≡ true
is_self k = grind (arith, nat_tests)

five_behind : (n s a b c h : List ℕ) → (n ++ (s ++ (a ++ (b ++ c)))) ++ h ≡ n ++ (s ++ (a ++ (b ++ (c ++ h))))
five_behind n s a b c h =
    append_assoc n (s ++ (a ++ (b ++ c))) h
    ∙ ap (λ (q : List ℕ). n ++ q) (append_assoc s (a ++ (b ++ c)) h ∙ ap (λ (q : List ℕ). s ++ q) (append_assoc a (b ++
    c) h ∙ ap (λ (q : List ℕ). a ++ q) (append_assoc b c h)))

four_behind : (x s a b h : List ℕ) → (x ++ (s ++ (a ++ b))) ++ h ≡ x ++ (s ++ (a ++ (b ++ h)))
four_behind x s a b h =
    append_assoc x (s ++ (a ++ b)) h ∙ ap (λ (q : List ℕ). x ++ q) (append_assoc s (a ++ b) h ∙ ap (λ (q : List ℕ). s ++
    q) (append_assoc a b h))

-- a frame of its parts, each of which stands at its place
pub opens : (cipher : ℕ) (key : List ℕ) (session : ℕ) (nonce text : List ℕ) → length nonce ≡ 16 → length text ≤ 1114060
    → session < 2 ^ 64 → unsealed_by cipher key session (sealed_by cipher key session nonce text) ≡ Ok text
unfolding unsealed_by sealed_by frame_fault is_sealed tag_is_right
opens cipher key session nonce text whole small id =
    let hidden : List ℕ = ciphertext cipher key nonce text in
    let added : List ℕ = added_of nonce (length text) session in
    let tag : List ℕ = tag_of cipher key nonce added text hidden in
    let frame : List ℕ = protocol ++ (tag ++ (added ++ hidden)) in
    let tag_len : length tag ≡ 16 = tag_length cipher key nonce added text hidden in
    let size_len = length-le 4 (length text) in
    let session_len = length-le 8 session in
    let hidden_len : length hidden ≡ length text = ciphertext_length cipher key nonce text in
    let added_len : length added ≡ 32 = (let a = length-append nonce (le 4 (length text) ++ (le 2 0 ++ (le 2 1 ++ le 8
    session))) in let b = length-append (le 4 (length text)) (le 2 0 ++ (le 2 1 ++ le 8 session)) in let c =
    length-append (le 2 0) (le 2 1 ++ le 8 session) in let d = length-append (le 2 1) (le 8 session) in let f =
    length-le 2 0 in let g = length-le 2 1 in omega arith) in
    let frame_len : length frame ≡ length text + 52 = (let a = length-append protocol (tag ++ (added ++ hidden)) in let
    b = length-append tag (added ++ hidden) in let c = length-append added hidden in omega arith) in
    let two : List ℕ = protocol ++ tag in
    let two_len : length two ≡ 20 = (let a = length-append protocol tag in omega arith) in
    let three : List ℕ = two ++ nonce in
    let three_len : length three ≡ 36 = (let a = length-append two nonce in omega arith) in
    let four : List ℕ = three ++ (le 4 (length text) ++ (le 2 0 ++ le 2 1)) in
    let four_len : length four ≡ 44 = (let a = length-append three (le 4 (length text) ++ (le 2 0 ++ le 2 1)) in let b =
    length-append (le 4 (length text)) (le 2 0 ++ le 2 1) in let c = length-append (le 2 0) (le 2 1) in let f =
    length-le 2 0 in let g = length-le 2 1 in omega arith) in
    let by_tag : bytes_at 16 frame 4 ≡ tag = bytes_at-behind 16 protocol tag (added ++ hidden) 4 refl tag_len in
    let by_front : bytes_at 4 frame 0 ≡ protocol = bytes_at-behind 4 [] protocol (tag ++ (added ++ hidden)) 0 refl refl in
    let e2 : frame ≡ two ++ (added ++ hidden) = sym (append_assoc protocol tag (added ++ hidden)) in
    let by_added : bytes_at 32 frame 20 ≡ added = ap (λ (m : List ℕ). bytes_at 32 m 20) e2 ∙ bytes_at-behind 32 two
    added hidden 20 (sym two_len) added_len in
    let e3 : frame ≡ two ++ (nonce ++ (le 4 (length text) ++ (le 2 0 ++ (le 2 1 ++ (le 8 session ++ hidden))))) = e2 ∙
    ap (λ (q : List ℕ). two ++ q) (five_behind nonce (le 4 (length text)) (le 2 0) (le 2 1) (le 8 session) hidden)
    in
    let by_nonce : bytes_at 16 frame 20 ≡ nonce = ap (λ (m : List ℕ). bytes_at 16 m 20) e3 ∙ bytes_at-behind 16 two
    nonce (le 4 (length text) ++ (le 2 0 ++ (le 2 1 ++ (le 8 session ++ hidden)))) 20 (sym two_len) whole in
    let e4 : frame ≡ three ++ (le 4 (length text) ++ (le 2 0 ++ (le 2 1 ++ (le 8 session ++ hidden)))) = e3 ∙ sym
    (append_assoc two nonce (le 4 (length text) ++ (le 2 0 ++ (le 2 1 ++ (le 8 session ++ hidden))))) in
    let by_size : number 4 frame 36 ≡ length text =
    ap number_of (ap (λ (m : List ℕ). bytes_at 4 m 36) e4 ∙ bytes_at-behind 4 three (le 4 (length text)) (le 2 0 ++ (le
    2 1 ++ (le 8 session ++ hidden))) 36 (sym three_len) size_len) ∙ number_of-le 4 (length text) (omega arith) in
    let e5 : frame ≡ four ++ (le 8 session ++ hidden) = e4 ∙ sym (four_behind three (le 4 (length text)) (le 2 0) (le 2
    1) (le 8 session ++ hidden)) in
    let by_session : number 8 frame 44 ≡ session =
    ap number_of (ap (λ (m : List ℕ). bytes_at 8 m 44) e5 ∙ bytes_at-behind 8 four (le 8 session) hidden 44 (sym
    four_len) session_len) ∙ number_of-le 8 session id in
    let six : List ℕ = two ++ added in
    let six_len : length six ≡ 52 = (let a = length-append two added in omega arith) in
    let e6 : frame ≡ six ++ hidden = e2 ∙ sym (append_assoc two added hidden) in
    let by_hidden : drop 52 frame ≡ hidden = ap (drop 52) e6 ∙ drop_at six hidden 52 six_len in
    let again : ciphertext cipher key nonce hidden ≡ text = hides_twice cipher key nonce text in
    let long : nat_le 52 (length frame) ≡ true = reach 52 (length frame) (omega arith) in
    let fits : nat_lt 1114060 (length text) ≡ false = high 1114060 (length text) small in
    let same_size : (length text + 52 == length frame) ≡ true = subst (λ (n : ℕ). (length text + 52 == n) ≡ true) (sym
    frame_len) (is_self (length text + 52)) in
    rw (
      by_front,
      by_tag,
      by_added,
      by_nonce,
      by_size,
      by_session,
      by_hidden,
      again,
      long,
      fits,
      same_size,
      is_self
          session,
      same_bytes tag,
    ) refl
