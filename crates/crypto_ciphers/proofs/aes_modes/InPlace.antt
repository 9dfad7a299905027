-- A text masked where it stands, block by block, and what opening there leaves.
use Rattle.std.proofs.Common.{◌≡◌, ℕ, ◌+◌, ◌-◌, ◌*◌, ◌≤◌, ◌<◌, min, List, ◌++◌, length, take, drop, length-append}
use Rattle.std.proofs.Common.{[], get_or, length-drop, refl, sym, ap, ◌∙◌, append_assoc, arith, None}
use Rattle.std.proofs.lemmas.List.{take_at, drop_all, append-nil, take-append-drop, length-take-le}
use Rattle.std.proofs.lemmas.Slice.{drop-append-drop}
use Rattle.spec_crypto.specs.ciphers.Aes.{cipher, block_sum}
use Rattle.spec_crypto.specs.ciphers.Blocks.{block_at, masked}
use Rattle.spec_crypto.specs.ciphers.Ccm
use Rattle.crypto_ciphers.specs.aes_modes.InPlace.{masked_to, run_of}
use Rattle.crypto_ciphers.proofs.aes_modes.Joined.{back_block}
use Rattle.law_crypto.proofs.ciphers.Masking.{masked_block}
use Rattle.law_crypto.proofs.ciphers.Unmasking.{masked_length, masked_twice, front_of, back_of}

-- a block behind what is masked already is as it was
block_stays : (ws : List (List ℕ)) (f : ℕ → List ℕ) (old : List ℕ) (i : ℕ) → 16 * i ≤ length old → block_at (masked_to
    ws f old (16 * i)) i ≡ block_at old i
block_stays ws f old i fit =
    let rest : List ℕ = drop (16 * i) old in
    let z : i + 0 ≡ i = omega arith in
    let len : length (masked ws f old (16 * i)) ≡ 16 * i = masked_length ws f old (16 * i) in
    let a = back_block (masked ws f old (16 * i)) rest i 0 len in
    let b = back_block (take (16 * i) old) rest i 0 (length-take-le (16 * i) old fit) in
    let a' : block_at (masked_to ws f old (16 * i)) i ≡ block_at rest 0 = rw z at a in
    let b' : block_at (take (16 * i) old ++ rest) i ≡ block_at rest 0 = rw z at b in
    a' ∙ sym b' ∙ ap (λ (m : List ℕ). block_at m i) (take-append-drop (16 * i) old)

-- one turn of the loop over the blocks
pub one_masked : (ws : List (List ℕ)) (f : ℕ → List ℕ) (old text new key : List ℕ) (i : ℕ) → 16 * i < length old → text
    ≡ masked_to ws f old (min (16 * i) (length old)) → key ≡ cipher ws (f i)
    → new ≡ take (16 * i) text ++ (take (min (length text - 16 * i) 16) (block_sum (block_at text i) key) ++ drop (16 *
    i + min (length text - 16 * i) 16) text)
    → new ≡ masked_to ws f old (min (16 * (i + 1)) (length old))
one_masked ws f old text new key i lt so_far is made =
    let here : min (16 * i) (length old) ≡ 16 * i = omega arith in
    let so : text ≡ masked_to ws f old (16 * i) = so_far ∙ ap (λ (n : ℕ). masked_to ws f old n) here in
    let front_len : length (masked ws f old (16 * i)) ≡ 16 * i = masked_length ws f old (16 * i) in
    let behind : length (drop (16 * i) old) ≡ length old - 16 * i = length-drop (16 * i) old in
    let whole : length (masked_to ws f old (16 * i)) ≡ length (masked ws f old (16 * i)) + length (drop (16 * i) old) =
    length-append (masked ws f old (16 * i)) (drop (16 * i) old) in
    let same : length text ≡ length old = ap length so ∙ omega arith in
    let count : ℕ = min (length old - 16 * i) 16 in
    let front : take (16 * i) text ≡ masked ws f old (16 * i) = ap (take (16 * i)) so ∙ take_at (masked ws f old (16 *
    i)) (drop (16 * i) old) (16 * i) front_len in
    let block : block_at text i ≡ block_at old i = ap (λ (m : List ℕ). block_at m i) so ∙ block_stays ws f old i (omega arith) in
    let back : drop (16 * i + count) text ≡ drop (16 * i + count) old = ap (drop (16 * i + count)) so ∙ drop-append-drop
    (16 * i) old (masked ws f old (16 * i)) (16 * i + count) (omega arith) front_len in
    let middle : masked ws f old (16 * i) ++ take count (block_sum (block_at old i) (cipher ws (f i))) ≡ masked ws f old
    (16 * i + count) = sym (masked_block ws f old i count (omega arith)) in
    let next : min (16 * (i + 1)) (length old) ≡ 16 * i + count = omega arith in
    made ∙ rw (same, front, block, is, back, next, ← middle) (sym (append_assoc (masked ws f old (16 * i)) (take count
    (block_sum (block_at old i) (cipher ws (f i)))) (drop (16 * i + count) old)))

-- four turns of it
pub run_masked : (ws : List (List ℕ)) (f : ℕ → List ℕ) (old t0 t1 t2 t3 t4 : List ℕ) (keys : List (List ℕ)) (i : ℕ)
    → 64 * i + 64 ≤ length t0 → t0 ≡ masked_to ws f old (64 * i) → keys ≡ run_of ws f (4 * i)
    → t1 ≡ take (16 * (4 * i)) t0 ++ (take (min (length t0 - 16 * (4 * i)) 16) (block_sum (block_at t0 (4 * i)) (get_or keys 0 []))
    ++ drop (16 * (4 * i) + min (length t0 - 16 * (4 * i)) 16) t0)
    → t2 ≡ take (16 * (4 * i + 1)) t1 ++ (take (min (length t1 - 16 * (4 * i + 1)) 16) (block_sum (block_at t1 (4 * i + 1))
    (get_or keys 1 [])) ++ drop (16 * (4 * i + 1) + min (length t1 - 16 * (4 * i + 1)) 16) t1)
    → t3 ≡ take (16 * (4 * i + 2)) t2 ++ (take (min (length t2 - 16 * (4 * i + 2)) 16) (block_sum (block_at t2 (4 * i + 2))
    (get_or keys 2 [])) ++ drop (16 * (4 * i + 2) + min (length t2 - 16 * (4 * i + 2)) 16) t2)
    → t4 ≡ take (16 * (4 * i + 3)) t3 ++ (take (min (length t3 - 16 * (4 * i + 3)) 16) (block_sum (block_at t3 (4 * i + 3))
    (get_or keys 3 [])) ++ drop (16 * (4 * i + 3) + min (length t3 - 16 * (4 * i + 3)) 16) t3)
    → t4 ≡ masked_to ws f old (64 * (i + 1))
run_masked ws f old t0 t1 t2 t3 t4 keys i fits so_far is s0 s1 s2 s3 =
    let front_len : length (masked ws f old (64 * i)) ≡ 64 * i = masked_length ws f old (64 * i) in
    let behind : length (drop (64 * i) old) ≡ length old - 64 * i = length-drop (64 * i) old in
    let whole : length (masked_to ws f old (64 * i)) ≡ length (masked ws f old (64 * i)) + length (drop (64 * i) old) =
    length-append (masked ws f old (64 * i)) (drop (64 * i) old) in
    let same : length t0 ≡ 64 * i + (length old - 64 * i) = ap length so_far ∙ omega arith in
    let room : 64 * i + 64 ≤ length old = omega arith in
    let begun : 64 * i ≡ min (16 * (4 * i)) (length old) = omega arith in
    let m0 : t0 ≡ masked_to ws f old (min (16 * (4 * i)) (length old)) = so_far ∙ ap (λ (n : ℕ). masked_to ws f old n) begun in
    let m1 : t1 ≡ masked_to ws f old (min (16 * (4 * i + 1)) (length old)) =
    one_masked ws f old t0 t1 (get_or keys 0 []) (4 * i) (omega arith) m0 (ap (λ (l : List (List ℕ)). get_or l 0 []) is) s0 in
    let m2' : t2 ≡ masked_to ws f old (min (16 * (4 * i + 1 + 1)) (length old)) =
    one_masked ws f old t1 t2 (get_or keys 1 []) (4 * i + 1) (omega arith) m1 (ap (λ (l : List (List ℕ)). get_or l 1 []) is) s1 in
    let two : 4 * i + 1 + 1 ≡ 4 * i + 2 = omega arith in
    let m2 : t2 ≡ masked_to ws f old (min (16 * (4 * i + 2)) (length old)) =
    m2' ∙ ap (λ (n : ℕ). masked_to ws f old (min (16 * n) (length old))) two in
    let m3' : t3 ≡ masked_to ws f old (min (16 * (4 * i + 2 + 1)) (length old)) =
    one_masked ws f old t2 t3 (get_or keys 2 []) (4 * i + 2) (omega arith) m2 (ap (λ (l : List (List ℕ)). get_or l 2 []) is) s2 in
    let three : 4 * i + 2 + 1 ≡ 4 * i + 3 = omega arith in
    let m3 : t3 ≡ masked_to ws f old (min (16 * (4 * i + 3)) (length old)) =
    m3' ∙ ap (λ (n : ℕ). masked_to ws f old (min (16 * n) (length old))) three in
    let m4 : t4 ≡ masked_to ws f old (min (16 * (4 * i + 3 + 1)) (length old)) =
    one_masked ws f old t3 t4 (get_or keys 3 []) (4 * i + 3) (omega arith) m3 (ap (λ (l : List (List ℕ)). get_or l 3 []) is) s3 in
    let ended : min (16 * (4 * i + 3 + 1)) (length old) ≡ 64 * (i + 1) = omega arith in
    m4 ∙ ap (λ (n : ℕ). masked_to ws f old n) ended

pub no_run : (ws : List (List ℕ)) (f : ℕ → List ℕ) (old : List ℕ) → old ≡ masked_to ws f old (64 * 0)
unfolding masked
no_run ws f old = refl

-- what the runs leave to the loop over single blocks
pub runs_done : (ws : List (List ℕ)) (f : ℕ → List ℕ) (old text : List ℕ) (runs : ℕ) → 64 * runs ≤ length old
    → text ≡ masked_to ws f old (64 * runs) → text ≡ masked_to ws f old (min (16 * (4 * runs)) (length old))
runs_done ws f old text runs fits so_far =
    let e : 64 * runs ≡ min (16 * (4 * runs)) (length old) = omega arith in
    so_far ∙ ap (λ (n : ℕ). masked_to ws f old n) e

pub all_masked : (ws : List (List ℕ)) (f : ℕ → List ℕ) (old text : List ℕ) (n : ℕ) → length old ≤ 16 * n → text ≡
    masked_to ws f old (min (16 * n) (length old)) → text ≡ masked ws f old (length old)
all_masked ws f old text n le so_far =
    let whole : min (16 * n) (length old) ≡ length old = omega arith in
    so_far ∙ rw (whole, drop_all (length old) old (omega arith)) (append-nil (masked ws f old (length old)))

-- a text whose tag is another one doesn't open
pub ccm_stays : (ws : List (List ℕ)) (nonce added old new tag own : List ℕ) (n : ℕ) → length tag ≡ n → own ≡ Ccm.tag_of
    ws nonce added new n → (own ≡ tag → ⊥) → new ≡ Ccm.ciphertext ws nonce old → Ccm.Opens ws nonce added (old ++ tag) n
    None
ccm_stays ws nonce added old new tag own n len is differ made =
    let text : new ≡ Ccm.plaintext ws nonce (Ccm.text_part (old ++ tag) n) = made ∙ ap (λ (x : List ℕ). Ccm.plaintext ws
    nonce x) (sym (front_of old tag n len)) in
    λ h. differ (is ∙ ap (λ (x : List ℕ). Ccm.tag_of ws nonce added x n) text ∙ sym h.same ∙ back_of old tag n len)

-- masked once more it is as before
pub ccm_again : (ws : List (List ℕ)) (nonce old once twice : List ℕ) → once ≡ Ccm.ciphertext ws nonce old → twice ≡
    Ccm.ciphertext ws nonce once → twice ≡ old
ccm_again ws nonce old once twice made again = again ∙ masked_twice ws (λ i. Ccm.counter_block nonce (i + 1)) old once made

-- what is written through a slice of a vector
pub written : (new old : List ℕ) (n : ℕ) → n ≡ length new → take n (new ++ drop (length new) old) ≡ new
written new old n len = take_at new (drop (length new) old) n (sym len)
