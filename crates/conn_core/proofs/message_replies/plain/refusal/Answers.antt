use Rattle.std.proofs.Common.{◌∙◌, refl, sym, arith}
use Rattle.spec_wire.specs.credits.Window.{granted}
use Rattle.spec_world.specs.Connection.{said_failed}
use Rattle.conn_core.proofs.message_replies.Parts.{is_plain, own_header, own_signer}
use Rattle.conn_core.proofs.message_replies.plain.refusal.Goals as goal

pub returns-clause-grants : goal.returns-clause-grants
returns-clause-grants c = c.plain.ensures.grants

pub returns-clause-place : goal.returns-clause-place
returns-clause-place c = c.plain.ensures.rest.0

pub returns-clause-said : goal.returns-clause-said
returns-clause-said c = λ f x keys like.
    let w = c.args.conn.now.window in
    let rest = c.plain.ensures.rest in
    is_plain c.plain.result (said_failed f w x c.args.status)
    (own_header x c.args.checked.now c.own.result c.args.status (granted x.header.credits w) like c.own.ensures
    ∙ c.plain.ensures.header x like)
    (sym (rest.1 ∙ c.error_body.ensures.is)) (own_signer f x c.args.checked.now c.args.conn.now.logon.keys keys like ∙ sym rest.2) rest.3 refl

pub returns-clause-fits : goal.returns-clause-fits
returns-clause-fits c = c.plain.ensures.fits (let few = c.error_body.ensures.few in omega arith)
