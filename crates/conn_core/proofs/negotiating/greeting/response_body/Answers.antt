use Rattle.std.proofs.Common.{◌∙◌, ◌≡◌, ◌≤◌, ◌<◌, length, arith, rules}
use Rattle.wire_bytes.specs.negotiate_contexts.Views.{offer}
use Rattle.conn_core.proofs.negotiating.Made.{if_ok_by}
use Rattle.conn_core.proofs.negotiating.Responses.{contexts_short, response_short, response_value, response_is}
use Rattle.conn_core.proofs.negotiating.greeting.response_body.Goals as goal

pub write_contexts-requires-clause-ciphers : goal.write_contexts-requires-clause-ciphers
write_contexts-requires-clause-ciphers c = let few = c.in_ok-told.ensures.few.0 in omega arith

pub write_contexts-requires-clause-signings : goal.write_contexts-requires-clause-signings
write_contexts-requires-clause-signings c = let few = c.in_ok-told.ensures.few.1 in omega arith

pub write_negotiate_response-requires : goal.write_negotiate_response-requires
write_negotiate_response-requires c = let short = c.in_ok-hint.ensures.short in rw c.as_slice.ensures (omega arith)

pub returns-clause-short : goal.returns-clause-short
returns-clause-short c =
    let g = c.args.greeter.now in
    let few = c.in_ok-told.ensures.few in
    let guid : length g.guid ≡ 16 = search rules in
    let salt : length g.salt ≡ 32 = search rules in
    let hint : length c.as_slice.result.now < 65536 = rw c.as_slice.ensures c.in_ok-hint.ensures.short in
    let contexts : length c.as_slice-2.result.now ≤ 128 =
    contexts_short (offer c.in_ok-told.told) g.salt c.as_slice-2.result.now salt few.0 few.1
    (c.as_slice-2.ensures ∙ c.in_ok-contexts.ensures) in
    if_ok_by c.write_negotiate_response.result c.write_negotiate_response.ensures (λ b e.
    response_short (response_value g.guid g.moment c.context_count.result c.as_slice.result.now c.as_slice-2.result.now) b guid hint
    contexts e)

pub returns-clause-body : goal.returns-clause-body
returns-clause-body c = λ m offered chosen.
    let g = c.args.greeter.now in
    if_ok_by c.write_negotiate_response.result c.write_negotiate_response.ensures (λ b e.
    response_is g.guid g.salt g.moment m (offer c.args.offer.now) (offer c.in_ok-told.told) c.args.chosen.now c.context_count.result
    c.as_slice.result.now c.as_slice-2.result.now b offered chosen c.in_ok-told.ensures.offer c.context_count.ensures
    (c.as_slice.ensures ∙ c.in_ok-hint.ensures.token) (c.as_slice-2.ensures ∙ c.in_ok-contexts.ensures) e)
