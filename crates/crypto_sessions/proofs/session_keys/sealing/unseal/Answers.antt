use Rattle.std.proofs.Common.{◌≡◌, ◌∙◌, List, ℕ, drop, sym, ap, Ok}
use Rattle.spec_crypto.specs.sessions.Sealing.{unsealed_by}
use Rattle.crypto_sessions.proofs.session_keys.InPlace.{right, wrong, written, whole_rest}
use Rattle.crypto_sessions.proofs.session_keys.sealing.unseal.Goals as goal

pub returns-then-shows : goal.returns-then-shows
returns-then-shows c =
    let keys = c.args.keys.now in
    let frame : List ℕ = c.args.frame.now in
    let told = c.in_ok-transform.ensures.2 in
    let old : c.as_mut_slice.result.now ≡ drop 52 frame = c.as_mut_slice.ensures.value ∙ (c.in_ok-text.ensures.items ∙ whole_rest frame) in
    ap (λ (k : List ℕ). unsealed_by keys.cipher k keys.session frame) (sym c.key_of-key.ensures)
    ∙ (right c.show-shows.result keys.cipher c.key_of-key.result.now _ frame _ _ _ c.show-shows.new.text keys.session
    c.if-shows.true c.in_ok-transform.ensures.0 old told.nonce c.added_in-added.ensures told.tag
    c.show-shows.ensures
    ∙ ap Ok (sym (c.from_vec.ensures ∙ written c.show-shows.new.text _ _ (sym (c.show-shows.auto.text ∙ c.as_mut_slice.ensures.len)))))

pub returns-else-shows : goal.returns-else-shows
returns-else-shows c =
    let keys = c.args.keys.now in
    let frame : List ℕ = c.args.frame.now in
    let told = c.in_ok-transform.ensures.2 in
    let old : c.as_mut_slice.result.now ≡ drop 52 frame = c.as_mut_slice.ensures.value ∙ (c.in_ok-text.ensures.items ∙ whole_rest frame) in
    ap (λ (k : List ℕ). unsealed_by keys.cipher k keys.session frame) (sym c.key_of-key.ensures)
    ∙ (wrong c.show-shows.result keys.cipher c.key_of-key.result.now _ frame _ _ _ c.show-shows.new.text keys.session
    c.if-shows.false c.in_ok-transform.ensures.0 old told.nonce c.added_in-added.ensures told.tag
    c.show-shows.ensures).0
