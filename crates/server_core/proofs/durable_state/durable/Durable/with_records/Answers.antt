use Rattle.std.proofs.Common.{◌≤◌, length, refl, arith}
use Rattle.server_core.proofs.durable_state.Following.{followed, followed_all}
use Rattle.server_core.proofs.durable_state.durable.Durable.with_records.Goals as goal

pub loop-record-init : goal.loop-record-init
loop-record-init c = λ s i h sound. (s, i, h, refl, sound)

pub loop-record-preserved : goal.loop-record-preserved
loop-record-preserved c = λ s i h sound.
    let v = c.loop-record.invariant s i h sound in
    followed c.with_record.new.self s v.0 c.args.records.now c.loop-record.record-index c.record-item.result (grind arith) v.1 v.3 v.4
    c.record-item.is (c.in_ok-with_record.ensures v.0 v.1 v.2)

pub returns : goal.returns
returns c = λ s i h sound.
    let v = c.loop-record.invariant s i h sound in
    let end : length c.args.records.now ≤ c.loop-record.record-index = grind arith in
    followed_all c.loop-record.self s v.0 c.args.records.now c.loop-record.record-index end v.3 v.2
