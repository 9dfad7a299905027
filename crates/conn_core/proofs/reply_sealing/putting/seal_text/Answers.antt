use Rattle.std.proofs.Common.{◌∙◌, ℕ, List, drop, false, ap, refl}
use Rattle.spec_crypto.specs.sessions.Sealing.{sealed}
use Rattle.conn_core.proofs.reply_sealing.putting.seal_text.Goals as goal

pub returns-in-Ok : goal.returns-in-Ok
returns-in-Ok c =
    let given = c.in-Ok.ensures in (
      given.0,
      given.2,
      c.seal_in_place.ensures ∙ ap (λ (nonce : List ℕ). sealed c.args.keys.now false nonce (drop 52 c.args.frame.now)) given.1,
    )

pub returns-in-Err : goal.returns-in-Err
returns-in-Err c = (c.in-Err.ensures.0, c.in-Err.ensures.1, refl)
