use Rattle.std.proofs.Common.{◌≡◌, ℕ, ◌+◌, ◌-◌, List, ◌++◌, length, take, drop, refl, sym, ap, ◌∙◌, length-append, arith}
use Rattle.std.proofs.lemmas.List.{take-append-drop}
use Rattle.spec_crypto.specs.ciphers.Ccm.{sealed, counter_block, ciphertext, plaintext, mac, tag_of, text_part, tag_part}
use Rattle.law_crypto.proofs.ciphers.Unmasking.{masked_length, masked_twice, front_of, back_of}
use Rattle.law_crypto.proofs.ciphers.laws.ccm_law.Goals as goal

pub returns-clause-again : goal.returns-clause-again
unfolding sealed
returns-clause-again c = λ ws nonce added text n.
    let sealed_text : List ℕ = ciphertext ws nonce text in
    let tag : List ℕ = tag_of ws nonce added text n in
    let len : length tag ≡ n = masked_length ws (λ i. counter_block nonce i) (mac ws nonce added text n) n in
    let front : take (length (sealed_text ++ tag) - n) (sealed_text ++ tag) ≡ sealed_text = front_of sealed_text tag n len in
    let back : drop (length (sealed_text ++ tag) - n) (sealed_text ++ tag) ≡ tag = back_of sealed_text tag n len in
    let whole : length (sealed_text ++ tag) ≡ length sealed_text + length tag = length-append sealed_text tag in
    let opened : plaintext ws nonce (take (length (sealed_text ++ tag) - n) (sealed_text ++ tag)) ≡ text =
    ap (λ (x : List ℕ). plaintext ws nonce x) front ∙ masked_twice ws (λ i. counter_block nonce (i + 1)) text sealed_text refl in
    (record { whole = omega arith; same = back ∙ ap (λ (x : List ℕ). tag_of ws nonce added x n) (sym opened) }, sym opened)

pub returns-clause-only : goal.returns-clause-only
unfolding sealed
returns-clause-only c = λ ws nonce added s text n h.
    let again : ciphertext ws nonce text ≡ text_part s n = masked_twice ws (λ i. counter_block nonce (i + 1)) (text_part s n) text h.1 in
    let same : tag_part s n ≡ tag_of ws nonce added text n = h.0.same ∙ ap (λ (x : List ℕ). tag_of ws nonce added x n) (sym h.1) in
    sym (rw (again, ← same) (take-append-drop (length s - n) s))
