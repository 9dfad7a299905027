use Rattle.std.proofs.Common.{◌≡◌, ◌∙◌, List, ℕ, ◌++◌, ◌-◌, length, drop, replicate, refl, sym, ap, length-drop, rules}
use Rattle.std.proofs.lemmas.List.{length-take-le}
use Rattle.spec_crypto.specs.sessions.Sealing.{protocol, tag_of, ciphertext, sealed_by, added_of}
use Rattle.crypto_sessions.proofs.session_keys.InPlace.{sealed_frame, in_front}
use Rattle.crypto_sessions.proofs.session_keys.sealing.seal_in_place.Goals as goal

pub copy_from_slice-requires : goal.copy_from_slice-requires
copy_from_slice-requires c =
    let long : length c.header_with-header.result ≡ 52 = search rules in
    length-take-le 52 c.args.frame.now c.requires.whole ∙ sym long

pub returns : goal.returns
unfolding sealed_by
returns c =
    let keys = c.args.keys.now in
    let frame : List ℕ = c.args.frame.now in
    let text : List ℕ = drop 52 frame in
    let nonce : List ℕ = c.args.nonce.now in
    let header = in_front frame c.copy_from_slice.new.self ((protocol ++ replicate 16 0) ++ c.added-added.result) c.requires.whole
    (c.copy_from_slice.ensures.after ∙ c.header_with-header.ensures) in
    let added_long : length c.added-added.result ≡ 32 = search rules in
    let size : length frame - 52 ≡ length text = sym (length-drop 52 frame) in
    let added : c.added-added.result ≡ added_of nonce (length text) keys.session =
    c.added-added.ensures ∙ ap (λ (n : ℕ). added_of nonce n keys.session) size in
    sealed_frame keys.cipher c.key_of-key.result.now nonce c.added-added.result text protocol (replicate 16 0) _ _ refl refl
    added_long header c.seal_frame.ensures
    ∙ (λ t. protocol ++ (tag_of keys.cipher (c.key_of-key.ensures t) nonce (added t) text (ciphertext keys.cipher
    (c.key_of-key.ensures t) nonce text) ++ (added t ++ ciphertext keys.cipher (c.key_of-key.ensures t) nonce text)))
