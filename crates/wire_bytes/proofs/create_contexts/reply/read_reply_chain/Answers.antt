use Rattle.std.proofs.Common.{◌≡◌, [], length, ap, arith}
use Rattle.std.proofs.lemmas.Grind.{common_steps}
use Rattle.wire_bytes.proofs.create_contexts.Replies.{replies_begin, replies_go_on, replies_end, replies_break}
use Rattle.wire_bytes.proofs.create_contexts.reply.read_reply_chain.Goals as goal

pub loop-head-init : goal.loop-head-init
loop-head-init c =
    let some : c.args.bytes.now ≡ [] → ⊥ = λ e. let none : length c.args.bytes.now ≡ 0 = ap length e in grind (arith, common_steps) in
    rw c.no_replies-found.ensures (replies_begin c.args.bytes.now some)

pub returns-in-Err : goal.returns-in-Err
returns-in-Err c = replies_break c.args.bytes.now c.loop-head.rest.now c.loop-head.found c.in-Err.error
    c.loop-head.invariant c.in-Err.ensures

pub returns-then-head-eq0 : goal.returns-then-head-eq0
returns-then-head-eq0 c =
    rw c.both_replies-found.ensures (replies_end c.args.bytes.now c.loop-head.rest.now c.loop-head.found
    c.in-Ok.head.said c.in-Ok.head.next c.loop-head.invariant c.in-Ok.ensures c.if-head-eq0.true)

pub loop-head-smaller : goal.loop-head-smaller
loop-head-smaller c = c.items_behind-rest.ensures.shorter c.if-head-eq0.false

pub loop-head-preserved : goal.loop-head-preserved
loop-head-preserved c =
    rw (c.items_behind-rest.ensures.value, c.both_replies-found.ensures)
    (replies_go_on c.args.bytes.now c.loop-head.rest.now c.loop-head.found c.in-Ok.head.said c.in-Ok.head.next
    c.loop-head.invariant c.in-Ok.ensures c.if-head-eq0.false)
