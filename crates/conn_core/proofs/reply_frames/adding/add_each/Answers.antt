use Rattle.std.proofs.Common.{◌≡◌, ◌+◌, ℕ, Ok, length, subst, arith}
use Rattle.conn_core.specs.reply_frames.Walking.{WalksBy}
use Rattle.conn_core.proofs.reply_frames.Loops.{over_first, over_next}
use Rattle.conn_core.proofs.reply_frames.Nexts.{alike_both}
use Rattle.conn_core.proofs.reply_frames.Whole.{walks_err}
use Rattle.conn_core.proofs.reply_frames.adding.add_each.Goals as goal

pub loop-at-init : goal.loop-at-init
loop-at-init c = over_first c.args.answers.now c.args.conn.now c.args.joining.now c.requires.none

pub add_next-requires-clause-message : goal.add_next-requires-clause-message
add_next-requires-clause-message c =
    c.requires.messages c.loop-at.at (let a = c.loop-at-test.true in let b = c.len-at-end.ensures in
    let k = c.args.answers.now.asked.now.messages.ok.0 in omega (arith, a, b, k))

pub add_next-requires-clause-place : goal.add_next-requires-clause-place
add_next-requires-clause-place c = (c.loop-at.invariant.place, (let a = c.loop-at-test.true in omega (arith, a)))

pub add_next-requires-clause-waits : goal.add_next-requires-clause-waits
add_next-requires-clause-waits c = c.loop-at.invariant.waits

pub add_next-requires-clause-room : goal.add_next-requires-clause-room
add_next-requires-clause-room c = c.loop-at.invariant.room

pub loop-at-preserved : goal.loop-at-preserved
loop-at-preserved c =
    let n = c.in-Ok.ensures in
    over_next c.args.answers.now c.args.conn.now c.loop-at.conn c.add_next.new.conn c.args.joining.now c.loop-at.joining
    c.add_next.new.joining c.loop-at.at c.loop-at.walk c.in-Ok.walk c.loop-at.invariant n.place n.waits n.room
    c.add_next.ensures.alike n.walks

pub returns-in-Err-clause-alike : goal.returns-in-Err-clause-alike
returns-in-Err-clause-alike c =
    alike_both c.args.conn.now c.loop-at.conn c.add_next.new.conn c.loop-at.invariant.alike c.add_next.ensures.alike

pub returns-in-Err-clause-walks : goal.returns-in-Err-clause-walks
returns-in-Err-clause-walks c = λ z first counted f g all w s.
    walks_err z first counted f g all w c.args.answers.now (c.loop-at.at + 1) (length c.args.answers.now.asked.now.messages.items)
    c.add_next.new.conn c.add_next.new.conn c.add_next.new.joining c.add_next.new.joining c.in-Err.why
    (c.in-Err.ensures.walks z first counted f g all w (c.loop-at.invariant.walks z first counted f g all w s))

pub returns-clause-waits : goal.returns-clause-waits
returns-clause-waits c = c.loop-at.invariant.waits

pub returns-clause-room : goal.returns-clause-room
returns-clause-room c = c.loop-at.invariant.room

pub returns-clause-alike : goal.returns-clause-alike
returns-clause-alike c = c.loop-at.invariant.alike

pub returns-clause-walks : goal.returns-clause-walks
returns-clause-walks c = λ z first counted f g all w s.
    let a = c.loop-at.auto.at-end in
    let b = c.loop-at-test.false in
    let long = c.len-at-end.ensures in
    let k = c.args.answers.now.asked.now.messages.ok.0 in
    let is : c.loop-at.at ≡ length c.args.answers.now.asked.now.messages.items = omega (arith, a, b, long, k) in
    subst (λ (n : ℕ). WalksBy z first counted f g all w c.args.answers.now n c.loop-at.conn c.loop-at.joining (Ok c.loop-at.walk)) is
    (c.loop-at.invariant.walks z first counted f g all w s)
