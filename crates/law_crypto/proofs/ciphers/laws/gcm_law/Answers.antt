use Rattle.std.proofs.Common.{◌≡◌, ℕ, ◌+◌, ◌-◌, List, ◌++◌, length, take, drop, refl, sym, ap, ◌∙◌, length-append, arith}
use Rattle.std.proofs.lemmas.List.{take-append-drop}
use Rattle.spec_crypto.specs.ciphers.Gcm.{sealed, counter_block, ciphertext, plaintext, tag_of, text_part}
use Rattle.law_crypto.proofs.ciphers.Masking.{sum_length}
use Rattle.law_crypto.proofs.ciphers.Unmasking.{masked_twice, front_of, back_of}
use Rattle.law_crypto.proofs.ciphers.laws.gcm_law.Goals as goal

pub returns-clause-again : goal.returns-clause-again
unfolding sealed
returns-clause-again c = λ ws nonce added text.
    let sealed_text : List ℕ = ciphertext ws nonce text in
    let tag : List ℕ = tag_of ws nonce added sealed_text in
    let len : length tag ≡ 16 = sum_length _ _ in
    let front : take (length (sealed_text ++ tag) - 16) (sealed_text ++ tag) ≡ sealed_text = front_of sealed_text tag 16 len in
    let back : drop (length (sealed_text ++ tag) - 16) (sealed_text ++ tag) ≡ tag = back_of sealed_text tag 16 len in
    let whole : length (sealed_text ++ tag) ≡ length sealed_text + length tag = length-append sealed_text tag in (
      record { whole = omega arith; tag = back ∙ ap (λ (x : List ℕ). tag_of ws nonce added x) (sym front) },
      sym (ap (λ (x : List ℕ). plaintext ws nonce x) front ∙ masked_twice ws (λ i. counter_block nonce (i + 2)) text sealed_text refl),
    )

pub returns-clause-only : goal.returns-clause-only
unfolding sealed
returns-clause-only c = λ ws nonce added s text h.
    let again : ciphertext ws nonce text ≡ text_part s = masked_twice ws (λ i. counter_block nonce (i + 2)) (text_part s) text h.1 in
    sym (rw (again, ← h.0.tag) (take-append-drop (length s - 16) s))
