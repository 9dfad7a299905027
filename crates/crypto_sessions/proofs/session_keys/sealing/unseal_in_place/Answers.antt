use Rattle.std.proofs.Common.{◌∙◌, List, ℕ, sym, ap, Ok}
use Rattle.spec_crypto.specs.sessions.Sealing.{unsealed_by}
use Rattle.crypto_sessions.proofs.session_keys.InPlace.{right, wrong, whole_rest, text_behind, put_again}
use Rattle.crypto_sessions.proofs.session_keys.sealing.unseal_in_place.Goals as goal

pub returns-then-shows : goal.returns-then-shows
returns-then-shows c =
    let keys = c.args.keys.now in
    let frame : List ℕ = c.args.frame.now in
    let told = c.in_ok-transform.ensures.2 in
    let stands = text_behind frame c.show-shows.new.text told.whole in
    let due = right c.show-shows.result keys.cipher c.key_of-key.result.now _ frame _ _ _ c.show-shows.new.text
    keys.session c.if-shows.true c.in_ok-transform.ensures.0 (whole_rest frame) told.nonce c.added_in-added.ensures
    told.tag c.show-shows.ensures in
    (ap (λ (k : List ℕ). unsealed_by keys.cipher k keys.session frame) (sym c.key_of-key.ensures) ∙ (due ∙ ap Ok (sym stands.0)), stands.1)

pub returns-else-shows : goal.returns-else-shows
returns-else-shows c =
    let keys = c.args.keys.now in
    let frame : List ℕ = c.args.frame.now in
    let told = c.in_ok-transform.ensures.2 in
    let due = wrong c.show-shows.result keys.cipher c.key_of-key.result.now _ frame _ _ _ c.show-shows.new.text
    keys.session c.if-shows.false c.in_ok-transform.ensures.0 (whole_rest frame) told.nonce c.added_in-added.ensures
    told.tag c.show-shows.ensures in (
      ap (λ (k : List ℕ). unsealed_by keys.cipher k keys.session frame) (sym c.key_of-key.ensures) ∙ due.0,
      put_again
          frame c.show-shows.new.text told.whole (due.1 ∙ whole_rest frame),
    )
