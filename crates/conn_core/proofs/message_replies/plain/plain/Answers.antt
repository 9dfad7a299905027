use Rattle.std.proofs.Common.{◌∙◌, ℕ, Option, refl, sym, ap}
use Rattle.spec_wire.specs.declared.messages.header.Header.{Header}
use Rattle.spec_wire.specs.credits.Window.{granted}
use Rattle.spec_crypto.specs.declared.sessions.material.Signer.{Signer}
use Rattle.spec_world.specs.Answering as answering
use Rattle.spec_world.specs.Logon.{unless_faulty}
use Rattle.conn_core.proofs.message_replies.plain.plain.Goals as goal

pub returns-clause-grants : goal.returns-clause-grants
returns-clause-grants c = record {
  window = c.grant-credits.ensures.added;
  kept = record { id = refl; guid = refl; salt = refl; asked = refl; logon = refl; nonces = refl; spare = refl };
}

pub returns-clause-header : goal.returns-clause-header
returns-clause-header c = λ x like.
    let named = c.args.named in
    ap (λ (n : ℕ). answering.reply_header x named.status named.session named.tree n)
    (ap (λ (h : Header). granted h.credits c.args.conn.now.window) like.header ∙ sym c.grant-credits.ensures.count)
    ∙ c.reply_header-header.ensures.header x like

pub returns-clause-rest : goal.returns-clause-rest
returns-clause-rest c = (
  refl,
  refl,
  c.signer_of.ensures ∙ ap (λ (o : Option Signer). unless_faulty c.args.checked.now.fault o) c.signer.ensures,
  refl,
)

pub returns-clause-fits : goal.returns-clause-fits
returns-clause-fits c = λ short. (c.reply_header-header.ensures.flags, short)
