use Rattle.std.proofs.Common.{◌∙◌, sym, refl, ap, arith, length}
use Rattle.wire_bytes.specs.session_messages.Views.{negotiate_request}
use Rattle.wire_bytes.specs.negotiate_contexts.Views.{offer}
use Rattle.conn_core.proofs.negotiating.Hellos.{no_choice, chosen_hello, told_offer, told_choice}
use Rattle.conn_core.proofs.negotiating.greeting.hello_of.Goals as goal

pub returns-in-Err-clause-short : goal.returns-in-Err-clause-short
returns-in-Err-clause-short c = omega (arith, ap length c.refused.ensures.1)

pub returns-in-Err-clause-hello : goal.returns-in-Err-clause-hello
returns-in-Err-clause-hello c = λ m asked dialect whole is.
    let g = c.args.greeter.now in
    no_choice g.guid g.salt g.moment m c.refused.result (negotiate_request c.args.request.now) (offer c.args.offer.now) c.in-Err.why asked
    dialect whole is (sym c.in-Err.ensures) (c.refused.ensures.0 ∙ c.status_of.ensures)

pub returns-in_ok-response_body-in-Ok-clause-short : goal.returns-in_ok-response_body-in-Ok-clause-short
returns-in_ok-response_body-in-Ok-clause-short c = c.in_ok-response_body-in-Ok.ensures.short

pub returns-in_ok-response_body-in-Ok-clause-hello : goal.returns-in_ok-response_body-in-Ok-clause-hello
returns-in_ok-response_body-in-Ok-clause-hello c = λ m asked dialect whole is.
    let g = c.args.greeter.now in
    let v = negotiate_request c.args.request.now in
    let o = offer c.args.offer.now in
    let chose = sym c.in-Ok.ensures in
    let told = told_offer m v o asked is in
    chosen_hello g.guid g.salt g.moment m _ v o c.in-Ok.chosen asked dialect whole is chose refl c.client_told.ensures refl
    (c.in_ok-response_body-in-Ok.ensures.body m told (told_choice m o c.in-Ok.chosen told chose))
