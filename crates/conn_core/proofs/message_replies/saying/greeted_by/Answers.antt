use Rattle.std.proofs.Common.{◌≡◌, ◌∙◌, ◌≤◌, Option, List, ℕ, length, refl, sym, ap, subst}
use Rattle.spec_wire.specs.credits.Window.{granted}
use Rattle.spec_world.specs.Answering as answering
use Rattle.spec_world.specs.Logon as logon
use Rattle.spec_crypto.specs.declared.sessions.material.Signer.{Signer}
use Rattle.spec_world.specs.Negotiate.{negotiate_status}
use Rattle.conn_core.specs.message_replies.Replying.{negotiate_due, said_aside}
use Rattle.conn_core.specs.related.Carrying.{is_broken}
use Rattle.conn_core.proofs.message_replies.Parts.{is_plain, own_header, good_status, greeting_body, aside_fails}
use Rattle.conn_core.proofs.message_replies.Parts.{status_is, own_signer, signs_on, other_than}
use Rattle.conn_core.proofs.message_replies.saying.greeted_by.Goals as goal

pub returns-then-status-eq-SUCCESS-clause-grants : goal.returns-then-status-eq-SUCCESS-clause-grants
returns-then-status-eq-SUCCESS-clause-grants c = c.plain.ensures.grants

pub returns-then-status-eq-SUCCESS-clause-place : goal.returns-then-status-eq-SUCCESS-clause-place
returns-then-status-eq-SUCCESS-clause-place c = c.plain.ensures.rest.0

pub returns-then-status-eq-SUCCESS-clause-said : goal.returns-then-status-eq-SUCCESS-clause-said
returns-then-status-eq-SUCCESS-clause-said c = λ z now f x keys like fault greets h.
    let w = c.args.conn.now.window in
    let rest = c.plain.ensures.rest in
    let status : ℕ = negotiate_due x in
    let e : status ≡ 0 =
    status_is c.args.checked.now x (negotiate_status x.bytes) c.args.hello.now.status like fault (sym h.status)
    ∙ (sym c.placed_status-status.ensures ∙ c.if-status-eq-SUCCESS.true) in
    let good : negotiate_status x.bytes ≡ 0 = good_status (is_broken x) (negotiate_status x.bytes) e in
    let credits : ℕ = granted x.header.credits w in
    is_plain c.plain.result (said_aside z now f w x status)
    (ap (λ (n : ℕ). answering.reply_header x n x.header.session x.header.tree credits) e
    ∙ (own_header x c.args.checked.now c.own.result 0 credits like c.own.ensures ∙ c.plain.ensures.header x like))
    (greeting_body z now f w x status greets e ∙ (sym (h.body good) ∙ sym (rest.1 ∙ c.as_slice.ensures)))
    (ap (λ (o : Option Signer). logon.unless_faulty x.fault o) (signs_on f x (other_than x.header.command 0 13 greets refl))
    ∙ (own_signer f x c.args.checked.now c.args.conn.now.logon.keys keys like ∙ sym rest.2)) rest.3 refl

pub returns-then-status-eq-SUCCESS-clause-fits : goal.returns-then-status-eq-SUCCESS-clause-fits
returns-then-status-eq-SUCCESS-clause-fits c = λ short.
    c.plain.ensures.fits (subst (λ (b : List ℕ). length b ≤ 1113984) (sym c.as_slice.ensures) short)

pub returns-else-status-eq-SUCCESS-clause-said : goal.returns-else-status-eq-SUCCESS-clause-said
returns-else-status-eq-SUCCESS-clause-said c = λ z now f x keys like fault greets h.
    aside_fails z now f c.args.conn.now.window x (negotiate_due x) c.placed_status-status.result c.refusal.result
    (other_than x.header.command 0 13 greets refl)
    (c.placed_status-status.ensures
    ∙ sym (status_is c.args.checked.now x (negotiate_status x.bytes) c.args.hello.now.status like fault (sym h.status)))
    c.if-status-eq-SUCCESS.false (c.refusal.ensures.said f x keys like)
