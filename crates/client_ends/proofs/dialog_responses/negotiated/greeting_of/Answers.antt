use Rattle.std.proofs.Common.{Result, subst}
use Rattle.wire_bytes.specs.session_messages.Views.{negotiate_response}
use Rattle.wire_bytes.specs.declared.negotiate_contexts.offer.Offer.{Offer}
use Rattle.wire_bytes.specs.negotiate_contexts.Views.{ReadsOffer}
use Rattle.spec_wire.specs.declared.messages.refusal.CtxError.{CtxError}
use Rattle.client_ends.specs.ends.Shown.{settings_of}
use Rattle.client_ends.proofs.dialog_responses.Greetings.{unread}
use Rattle.client_ends.proofs.dialog_responses.negotiated.greeting_of.Goals as goal

pub greeting_by-requires : goal.greeting_by-requires
greeting_by-requires c =
    let v = c.args.response.now in
    let r =
    subst (λ (x : Result Offer CtxError). ReadsOffer v.contexts.now v.negotiate_context_count x) c.in-Ok.is c.in_ok-read.ensures in
    r.0

pub returns-in-Ok : goal.returns-in-Ok
returns-in-Ok c = λ m whole e.
    let v = c.args.response.now in
    let r =
    subst (λ (x : Result Offer CtxError). ReadsOffer v.contexts.now v.negotiate_context_count x) c.in-Ok.is c.in_ok-read.ensures in
    c.greeting_by.ensures m whole e r.1

pub returns-in-Err : goal.returns-in-Err
returns-in-Err c = λ m whole e.
    let v = c.args.response.now in
    let r =
    subst (λ (x : Result Offer CtxError). ReadsOffer v.contexts.now v.negotiate_context_count x) c.in-Err.is c.in_ok-read.ensures in
    unread (settings_of c.args.config.now) m (negotiate_response v) _ e r
