use Rattle.std.proofs.Common.{◌≡◌, refl, sym, ap, Ok}
use Rattle.spec_crypto.specs.tokens.Messages.{type1_in}
use Rattle.spec_crypto.specs.tokens.Acceptor.{challenge}
use Rattle.crypto_sessions.proofs.ntlmv2.acceptor.Acceptor.challenge.Goals as goal

pub returns : goal.returns
unfolding challenge
returns c =
    let t : type1_in c.args.t1.now ≡ Ok c.in_ok-first.first = sym c.in_ok-first.ensures in
    let m = rw (c.flags_for.ensures, c.info_at-info.ensures) at c.in_ok-message.ensures in
    (rw t (ap Ok (sym m)), rw (c.in_ok-kept.ensures, c.in_ok-copy.ensures) refl)
