use Rattle.std.proofs.Common.{◌∙◌, ap}
use Rattle.crypto_sessions.specs.ntlmv2.Views.{type2_view, credentials_view}
use Rattle.spec_crypto.specs.tokens.Formulas.{mic}
use Rattle.crypto_sessions.proofs.ntlmv2.Answered.{given_answer, no_answer}
use Rattle.crypto_sessions.proofs.ntlmv2.answer.answer_to.Goals as goal

pub returns-then-not-has_room_for : goal.returns-then-not-has_room_for
returns-then-not-has_room_for c =
    no_answer (credentials_view c.args.client.now) (type2_view c.args.second.now) c.in_ok-response.response
    c.args.first.now c.args.second_bytes.now c.in_ok-response.ensures
    (λ short. let there = c.has_room_for.ensures.1 short in let told = c.if-not-has_room_for.true in cc)

pub returns : goal.returns
returns c =
    let code = c.in_ok-code.ensures ∙ ap (mic c.args.client.now.key c.args.first.now c.args.second_bytes.now) c.as_slice.ensures in
    given_answer (credentials_view c.args.client.now) (type2_view c.args.second.now) c.in_ok-response.response
    c.args.first.now c.args.second_bytes.now c.in_ok-unsigned.unsigned c.in_ok-code.code c.in_ok-answer.answer
    c.in_ok-response.ensures (c.has_room_for.ensures.0 c.if-not-has_room_for.false)
    c.in_ok-unsigned.ensures code c.in_ok-answer.ensures
