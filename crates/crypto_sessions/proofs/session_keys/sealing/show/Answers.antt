use Rattle.std.proofs.Common.{◌∙◌, sym, rules}
use Rattle.crypto_sessions.proofs.session_keys.InPlace.{shown_by_gcm, shown_by_ccm}
use Rattle.crypto_sessions.proofs.session_keys.sealing.show.Goals as goal

pub returns-then-is_gcm_of : goal.returns-then-is_gcm_of
returns-then-is_gcm_of c =
    let a = c.args in
    shown_by_gcm c.gcm_open_in_place.result a.cipher a.key.now a.transform.now.nonce a.added.now a.transform.now.tag
    a.text.now c.gcm_open_in_place.new.text _ _ (sym c.is_gcm_of.ensures ∙ c.if-is_gcm_of.true) (search rules)
    c.aes_of-aes.ensures c.gcm_nonce.ensures c.gcm_open_in_place.ensures

pub returns-else-is_gcm_of : goal.returns-else-is_gcm_of
returns-else-is_gcm_of c =
    let a = c.args in
    shown_by_ccm c.ccm_open_in_place.result a.cipher a.key.now a.transform.now.nonce a.added.now a.transform.now.tag
    a.text.now c.ccm_open_in_place.new.text _ _ (sym c.is_gcm_of.ensures ∙ c.if-is_gcm_of.false) (search rules)
    c.aes_of-aes.ensures (search rules) c.ccm_open_in_place.ensures
