use Rattle.std.proofs.Common.{subst, ap, arith, length, Result}
use Rattle.spec_wire.specs.declared.messages.refusal.CtxError.{CtxError}
use Rattle.wire_bytes.specs.session_messages.Views.{negotiate_request}
use Rattle.wire_bytes.specs.declared.negotiate_contexts.offer.Offer.{Offer}
use Rattle.wire_bytes.specs.negotiate_contexts.Views.{ReadsOffer}
use Rattle.conn_core.proofs.negotiating.Hellos.{unread_contexts}
use Rattle.conn_core.proofs.negotiating.greeting.hello_in.Goals as goal

pub returns-in-Err-clause-short : goal.returns-in-Err-clause-short
returns-in-Err-clause-short c = omega (arith, ap length c.refused.ensures.1)

pub returns-in-Err-clause-hello : goal.returns-in-Err-clause-hello
returns-in-Err-clause-hello c = λ m asked dialect.
    let g = c.args.greeter.now in
    let r = c.args.request.now in
    let fault = subst (λ (x : Result Offer CtxError). ReadsOffer r.contexts.now r.negotiate_context_count x) c.in-Err.is
    c.in_ok-read_contexts.ensures in
    unread_contexts g.guid g.salt g.moment m c.refused.result (negotiate_request r) c.in-Err.field-0 asked dialect fault
    c.refused.ensures.0

pub returns-in-Ok-clause-hello : goal.returns-in-Ok-clause-hello
returns-in-Ok-clause-hello c = λ m asked dialect.
    let r = c.args.request.now in
    let reads = subst (λ (x : Result Offer CtxError). ReadsOffer r.contexts.now r.negotiate_context_count x) c.in-Ok.is
    c.in_ok-read_contexts.ensures in
    c.hello_of.ensures.hello m asked dialect reads.0 reads.1
