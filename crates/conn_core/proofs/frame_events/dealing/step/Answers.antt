use Rattle.std.proofs.Common.{◌≡◌, ◌<◌, length, ◌++◌, subst, arith}
use Rattle.spec_world.specs.Related.{failed_as, turn_of}
use Rattle.conn_core.specs.frame_messages.Checking.{message_in}
use Rattle.conn_core.proofs.frame_messages.Places.{each_has}
use Rattle.conn_core.specs.related.Carrying.{Inherits, carry_of}
use Rattle.conn_core.specs.served.Serving.{Onward}
use Rattle.conn_core.proofs.frame_events.Lists.{there_checked}
use Rattle.conn_core.proofs.frame_events.SoFar.{moved}
use Rattle.conn_core.proofs.frame_events.Stepping.{carried_so, failed_on, halted_err, ready_fails, ready_goes, went_on}
use Rattle.conn_core.proofs.frame_events.Shorts.{kept_err, kept_ok, long_err, long_ok}
use Rattle.std.proofs.Common.{option_map}
use Rattle.conn_core.proofs.frame_events.dealing.step.Goals as goal

pub goes-requires : goal.goes-requires
goes-requires g c = each_has c.args.asked.now c.requires.order c.args.at c.requires.there

pub deal-requires-clause-message : goal.deal-requires-clause-message
deal-requires-clause-message g c =
    let count : length c.goes.new.asked.messages.items ≡ length c.args.asked.now.messages.items = c.goes.ensures.others.count in
    each_has c.goes.new.asked (c.goes.ensures.order c.requires.order) c.args.at (omega (arith, count, c.requires.there))

pub returns-then-not-goes-clause-steps : goal.returns-then-not-goes-clause-steps
returns-then-not-goes-clause-steps g c = λ z before s L records more f cs w conn alone long state far.
    let old = c.args.asked.now in
    let x = c.goes.new.asked in
    let at = c.args.at in
    let y = option_map carry_of c.args.carried.now in
    let less : at < length old.messages.items = c.requires.there in
    let count : length x.messages.items ≡ length old.messages.items = c.goes.ensures.others.count in
    let m = each_has old c.requires.order at less in
    let n = each_has x (c.goes.ensures.order c.requires.order) at (omega (arith, count, less)) in
    let b = there_checked cs at (omega (arith, less, long)) in
    let was = far.facts.rest at m.0 b.0 (omega arith) m.1 b.1 in
    let turn = c.goes.ensures.turn m.0 n.0 b.0 m.1 n.1 (carried_so old.bytes.items m.0 b.0 was.0) was.0.related was.1 in
    let mine = subst (λ v. Inherits (turn_of y b.0) v (failed_as y b.0) n.0 (message_in x.bytes.items n.0)) c.if-not-goes.true turn in
    let placed = c.goes.ensures.place m.0 n.0 m.1 n.1 in
    let k = c.args.conn.now.id in
    let now = c.args.moment.now.time in
    let fresh = c.args.moment.now.fresh in
    let d = c.args.dealt.now in
    let r = ready_fails z k now fresh s L f cs at old x m.0 n.0 b.0 d y more w c.goes.ensures.others n.1 b.1 was.0 mine placed.0
    placed.1 far.facts in
    let here = moved z k now fresh s L f cs at old x m.0 d y more w c.requires.order c.goes.ensures.others m.1 far in
    failed_on (Onward (g.S.Serve.shows c.args.server.now z.users) before (g.S.Serve.stopped c.args.server.now)) z k now
    fresh s L records f cs at x n.0 b.0 r.0 d y more w r.1 r.2 r.3 state here

pub returns-in-Ok-clause-steps : goal.returns-in-Ok-clause-steps
returns-in-Ok-clause-steps g c = λ z before s L records more f cs w conn alone long state far.
    let old = c.args.asked.now in
    let x = c.goes.new.asked in
    let at = c.args.at in
    let y = option_map carry_of c.args.carried.now in
    let less : at < length old.messages.items = c.requires.there in
    let count : length x.messages.items ≡ length old.messages.items = c.goes.ensures.others.count in
    let m = each_has old c.requires.order at less in
    let n = each_has x (c.goes.ensures.order c.requires.order) at (omega (arith, count, less)) in
    let b = there_checked cs at (omega (arith, less, long)) in
    let was = far.facts.rest at m.0 b.0 (omega arith) m.1 b.1 in
    let turn = c.goes.ensures.turn m.0 n.0 b.0 m.1 n.1 (carried_so old.bytes.items m.0 b.0 was.0) was.0.related was.1 in
    let mine = subst (λ v. Inherits (turn_of y b.0) v (failed_as y b.0) n.0 (message_in x.bytes.items n.0)) c.if-not-goes.false turn in
    let placed = c.goes.ensures.place m.0 n.0 m.1 n.1 in
    let k = c.args.conn.now.id in
    let now = c.args.moment.now.time in
    let fresh = c.args.moment.now.fresh in
    let d = c.args.dealt.now in
    let r = ready_goes z k now fresh s L f cs at old x m.0 n.0 b.0 d y more w c.goes.ensures.others n.1 b.1 was.0 mine placed.0
    placed.1 far.facts in
    let here = moved z k now fresh s L f cs at old x m.0 d y more w c.requires.order c.goes.ensures.others m.1 far in
    let q = c.in-Ok.ensures.deals n.0 n.1 in
    went_on (Onward (g.S.Serve.shows c.deal.new.server z.users) before (g.S.Serve.stopped c.deal.new.server)) z k now
    fresh s L records f cs at x n.0 b.0 r.0 q.0 d c.deal.new.dealt y
    c.in-Ok.behind
    more w r.1 r.2 r.4 alone (q.2 z before w.dealt.going.server w.dealt.going.logons (records ++ more) f r.0 state conn
    r.1.shows r.4) q.1.adds.0
    q.1.adds.1 q.1.adds.2 q.1.took (q.1.carries r.0 r.3) here

pub returns-in-Err-clause-steps : goal.returns-in-Err-clause-steps
returns-in-Err-clause-steps g c = λ z before s L records more f cs w conn alone long state far.
    let old = c.args.asked.now in
    let x = c.goes.new.asked in
    let at = c.args.at in
    let y = option_map carry_of c.args.carried.now in
    let less : at < length old.messages.items = c.requires.there in
    let count : length x.messages.items ≡ length old.messages.items = c.goes.ensures.others.count in
    let m = each_has old c.requires.order at less in
    let n = each_has x (c.goes.ensures.order c.requires.order) at (omega (arith, count, less)) in
    let b = there_checked cs at (omega (arith, less, long)) in
    let was = far.facts.rest at m.0 b.0 (omega arith) m.1 b.1 in
    let turn = c.goes.ensures.turn m.0 n.0 b.0 m.1 n.1 (carried_so old.bytes.items m.0 b.0 was.0) was.0.related was.1 in
    let mine = subst (λ v. Inherits (turn_of y b.0) v (failed_as y b.0) n.0 (message_in x.bytes.items n.0)) c.if-not-goes.false turn in
    let placed = c.goes.ensures.place m.0 n.0 m.1 n.1 in
    let k = c.args.conn.now.id in
    let now = c.args.moment.now.time in
    let fresh = c.args.moment.now.fresh in
    let d = c.args.dealt.now in
    let r = ready_goes z k now fresh s L f cs at old x m.0 n.0 b.0 d y more w c.goes.ensures.others n.1 b.1 was.0 mine placed.0
    placed.1 far.facts in
    let here = moved z k now fresh s L f cs at old x m.0 d y more w c.requires.order c.goes.ensures.others m.1 far in
    let q = c.in-Err.ensures.deals n.0 n.1 in
    halted_err (Onward (g.S.Serve.shows c.deal.new.server z.users) before (g.S.Serve.stopped c.deal.new.server)) z k now
    fresh s L records f cs at x n.0 b.0 r.0 q.0 d c.deal.new.dealt y
    c.in-Err.why more w r.1 r.2 (q.2 z before w.dealt.going.server w.dealt.going.logons (records ++ more) f r.0 state
    conn r.1.shows r.4) q.1.adds
    q.1.took here

pub returns-in-Ok-clause-room : goal.returns-in-Ok-clause-room
returns-in-Ok-clause-room g c =
    let count : length c.goes.new.asked.messages.items ≡ length c.args.asked.now.messages.items = c.goes.ensures.others.count in
    let n = each_has c.goes.new.asked (c.goes.ensures.order c.requires.order) c.args.at (omega (arith, count, c.requires.there)) in
    let q = c.in-Ok.ensures.deals n.0 n.1 in
    (c.deal.ensures.room, long_ok q.0 c.args.dealt.now c.deal.new.dealt q.1.adds.2)

pub returns-in-Ok-clause-short : goal.returns-in-Ok-clause-short
returns-in-Ok-clause-short g c = λ short.
    let count : length c.goes.new.asked.messages.items ≡ length c.args.asked.now.messages.items = c.goes.ensures.others.count in
    let n = each_has c.goes.new.asked (c.goes.ensures.order c.requires.order) c.args.at (omega (arith, count, c.requires.there)) in
    let q = c.in-Ok.ensures.deals n.0 n.1 in
    kept_ok q.0 c.args.dealt.now c.deal.new.dealt q.1.adds.2 q.1.short short

pub returns-in-Err-clause-room : goal.returns-in-Err-clause-room
returns-in-Err-clause-room g c =
    let count : length c.goes.new.asked.messages.items ≡ length c.args.asked.now.messages.items = c.goes.ensures.others.count in
    let n = each_has c.goes.new.asked (c.goes.ensures.order c.requires.order) c.args.at (omega (arith, count, c.requires.there)) in
    let q = c.in-Err.ensures.deals n.0 n.1 in
    (c.deal.ensures.room, long_err q.0 c.args.dealt.now c.deal.new.dealt c.in-Err.why q.1.adds)

pub returns-in-Err-clause-short : goal.returns-in-Err-clause-short
returns-in-Err-clause-short g c = λ short.
    let count : length c.goes.new.asked.messages.items ≡ length c.args.asked.now.messages.items = c.goes.ensures.others.count in
    let n = each_has c.goes.new.asked (c.goes.ensures.order c.requires.order) c.args.at (omega (arith, count, c.requires.there)) in
    let q = c.in-Err.ensures.deals n.0 n.1 in
    kept_err q.0 c.args.dealt.now c.deal.new.dealt c.in-Err.why q.1.adds q.1.short short
