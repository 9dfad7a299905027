use Rattle.std.proofs.Common.{◌≡◌, ◌∙◌, List, ℕ, ◌++◌, take, drop, ap}
use Rattle.spec_crypto.specs.sessions.Sealing.{ciphertext, tag_of}
use Rattle.crypto_sessions.proofs.session_keys.InPlace.{behind, tagged, whole_rest}
use Rattle.crypto_sessions.proofs.session_keys.sealing.seal_frame.Goals as goal

pub returns : goal.returns
returns c =
    let a = c.args in
    let frame : List ℕ = a.frame.now in
    let text = whole_rest frame in
    let hidden : c.hide-tag.new.text ≡ ciphertext a.cipher a.key.now a.nonce.now (drop 52 frame) =
    c.hide-tag.ensures.hidden ∙ ap (ciphertext a.cipher a.key.now a.nonce.now) text in
    let tag : c.copy_from_slice.new.self ≡ tag_of a.cipher a.key.now a.nonce.now a.added.now (drop 52 frame) (ciphertext
    a.cipher a.key.now a.nonce.now (drop 52 frame)) =
    c.copy_from_slice.ensures.after ∙ (c.hide-tag.ensures.tag ∙ (λ t. tag_of a.cipher a.key.now a.nonce.now a.added.now
    (text t) (hidden t))) in
    tagged frame c.hide-tag.new.text c.copy_from_slice.new.self _ c.requires.whole (behind frame c.hide-tag.new.text c.requires.whole)
    ∙ (λ t. take 4 frame ++ (tag t ++ (take 32 (drop 20 frame) ++ hidden t)))
