use Rattle.std.proofs.Common.{◌≡◌, ◌∙◌, List, ℕ, ◌++◌, length, replicate, refl, sym, rules}
use Rattle.spec_crypto.specs.sessions.Sealing.{protocol, tag_of, ciphertext, sealed_by}
use Rattle.crypto_sessions.proofs.session_keys.InPlace.{sealed_frame, written}
use Rattle.crypto_sessions.proofs.session_keys.sealing.seal.Goals as goal

pub returns : goal.returns
unfolding sealed_by
returns c =
    let keys = c.args.keys.now in
    let text : List ℕ = c.args.message.now in
    let nonce : List ℕ = c.args.nonce.now in
    let long = c.as_mut_slice.ensures.len in
    let old : c.as_mut_slice.result.now ≡ ((protocol ++ replicate 16 0) ++ c.added-added.result) ++ text =
    c.as_mut_slice.ensures.value ∙ rw (
      c.in_ok-extend_from_slice-4.ensures.items,
      c.in_ok-extend_from_slice-3.ensures.items,
      c.in_ok-extend_from_slice-2.ensures.items,
      c.in_ok-extend_from_slice.ensures.items,
      c.in_ok-frame.ensures.items,
    ) refl in
    let added_long : length c.added-added.result ≡ 32 = search rules in
    let made = sealed_frame keys.cipher c.key_of-key.result.now nonce c.added-added.result text protocol (replicate 16
    0) _ _ refl refl added_long old c.seal_frame.ensures in
    c.from_vec.ensures ∙ (written c.seal_frame.new.frame _ _ (sym (c.seal_frame.auto.frame ∙ long)) ∙ (made ∙ (λ t.
    protocol ++ (tag_of keys.cipher (c.key_of-key.ensures t) nonce (c.added-added.ensures t) text (ciphertext
    keys.cipher (c.key_of-key.ensures t) nonce text) ++ (c.added-added.ensures t ++ ciphertext keys.cipher
    (c.key_of-key.ensures t) nonce text)))))
