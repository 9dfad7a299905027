use Rattle.std.proofs.Common.{◌≡◌, ◌∙◌, ◌==◌, if◌then◌else◌, Option, List, ℕ, refl, sym, ap, subst, arith}
use Rattle.spec_wire.specs.messages.Bare.{bare_fault, bare_spelling}
use Rattle.spec_wire.specs.messages.Error.{error_response_spelling}
use Rattle.spec_commands.specs.CommandOf.{echo_status}
use Rattle.spec_wire.specs.credits.Window.{granted}
use Rattle.spec_world.specs.Answering as answering
use Rattle.conn_core.specs.declared.conn.Progress.{Progress}
use Rattle.conn_core.specs.reply_sealing.Saying.{MovesAs}
use Rattle.conn_core.specs.message_replies.Replying.{echo_due, said_aside}
use Rattle.conn_core.proofs.message_replies.Parts.{own_header, bare_body, probe_signer, status_is}
use Rattle.conn_core.proofs.message_replies.saying.echoed.Goals as goal

pub returns-clause-grants : goal.returns-clause-grants
returns-clause-grants c = c.plain-plain.ensures.grants

pub returns-clause-place : goal.returns-clause-place
returns-clause-place c = c.plain-plain.ensures.rest.0

pub returns-clause-said : goal.returns-clause-said
returns-clause-said c = λ z now f x keys like fault bytes other.
    let w = c.args.conn.now.window in
    let m = c.args.checked.now in
    let rest = c.plain-plain.ensures.rest in
    let status : ℕ = echo_due x in
    let own : echo_status x.fault (bare_fault x.bytes) ≡ c.bare_status.result =
    ap (λ (o : Option ℕ). echo_status o (bare_fault x.bytes)) fault
    ∙ (ap (λ (b : List ℕ). echo_status m.fault (bare_fault b)) bytes ∙ sym c.bare_status.ensures) in
    let e : status ≡ c.placed_status-status.result =
    status_is m x (echo_status x.fault (bare_fault x.bytes)) c.bare_status.result like fault own ∙ sym c.placed_status-status.ensures in
    let credits : ℕ = granted x.header.credits w in
    record {
      header = ap (λ (n : ℕ). answering.reply_header x n x.header.session x.header.tree credits) e
          ∙ (own_header x m c.own.result c.placed_status-status.result credits like c.own.ensures ∙ c.plain-plain.ensures.header x like);
      body = bare_body z now f w x status other
          ∙ (ap (λ (n : ℕ). if n == 0 then bare_spelling else error_response_spelling (record {
            error_context_count = 0;
            byte_count = 0;
          })) e
          ∙ sym (rest.1 ∙ c.bare_or_error.ensures.is));
      signer = probe_signer f x m c.args.conn.now.logon.keys c.args.message.now c.plain-plain.result.signer c.echo_signer.result keys like
          bytes rest.2 c.echo_signer.ensures;
      progress = subst (λ (p : Progress). MovesAs p (said_aside z now f w x status)) (sym rest.3) refl;
    }

pub returns-clause-fits : goal.returns-clause-fits
returns-clause-fits c = c.plain-plain.ensures.fits (let few = c.bare_or_error.ensures.few in omega arith)
