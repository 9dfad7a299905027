use Rattle.std.proofs.Common.{arith}
use Rattle.server_core.proofs.Sound.{sound_on, sound_ends, sound_through}
use Rattle.server_core.proofs.folding.are_sound.Goals as goal

pub loop-record-preserved : goal.loop-record-preserved
loop-record-preserved c = sound_on c.args.records.now c.loop-record.record-index c.record-item.result c.is_sound.result (grind arith)
    c.record-item.is c.is_sound.ensures c.if-not-is_sound.false c.loop-record.invariant

pub returns-then-not-is_sound : goal.returns-then-not-is_sound
returns-then-not-is_sound c = sound_ends c.args.records.now c.loop-record.record-index c.record-item.result c.is_sound.result
    (grind arith) c.record-item.is c.is_sound.ensures c.if-not-is_sound.true c.loop-record.invariant

pub returns : goal.returns
returns c = sound_through c.args.records.now c.loop-record.record-index (grind arith) c.loop-record.invariant
