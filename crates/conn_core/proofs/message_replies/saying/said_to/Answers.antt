use Rattle.std.proofs.Common.{◌∙◌, sym, ap, subst, length, List, Option, ℕ, ◌≤◌}
use Rattle.spec_wire.specs.credits.Window.{granted}
use Rattle.spec_crypto.specs.declared.sessions.material.Signer.{Signer}
use Rattle.spec_world.specs.Answering as answering
use Rattle.spec_world.specs.Logon.{unless_faulty}
use Rattle.conn_core.specs.message_replies.Replying.{progress_signer}
use Rattle.conn_core.specs.declared.message_replies.plain.Named.{Named}
use Rattle.conn_core.proofs.message_replies.Parts.{signer_same}
use Rattle.conn_core.proofs.message_replies.saying.said_to.Goals as goal

pub returns-clause-grants : goal.returns-clause-grants
returns-clause-grants c = c.plain-plain.ensures.grants

pub returns-clause-place : goal.returns-clause-place
returns-clause-place c = c.plain-plain.ensures.rest.0

pub returns-clause-said : goal.returns-clause-said
returns-clause-said c = λ f x s keys like to.
    let rest = c.plain-plain.ensures.rest in
    let credits = granted x.header.credits c.args.conn.now.window in
    record {
      header = to.header
          ∙ (ap (λ (n : Named). answering.reply_header x n.status n.session n.tree credits) (sym c.told.ensures)
          ∙ c.plain-plain.ensures.header x like);
      body = to.body ∙ sym (rest.1 ∙ c.as_slice.ensures);
      signer = to.signer
          ∙ (signer_same f x c.args.checked.now c.args.conn.now.logon.keys c.args.reply.now.progress keys like
          ∙ (ap (λ (o : Option Signer). unless_faulty c.args.checked.now.fault (progress_signer c.args.reply.now.progress o)) (sym c.signer-own.ensures)
          ∙ sym c.signer_of.ensures));
      progress = to.progress;
    }

pub returns-clause-fits : goal.returns-clause-fits
returns-clause-fits c = λ short.
    c.plain-plain.ensures.fits (subst (λ (b : List ℕ). length b ≤ 1113984) (sym c.as_slice.ensures) short)
