use Rattle.std.proofs.Common.{refl}
use Rattle.server_plan.proofs.reserving.Kept.{all_kept}
use Rattle.server_plan.proofs.reserving.make.create_ready.Goals as goal

pub counted_ready-requires : goal.counted_ready-requires
counted_ready-requires c = c.in-Some.ensures.left refl

pub returns-in-Some-clause-room : goal.returns-in-Some-clause-room
returns-in-Some-clause-room c = c.counted_ready.ensures.room

pub returns-in-Some-clause-shown : goal.returns-in-Some-clause-shown
returns-in-Some-clause-shown c = c.counted_ready.ensures.shown

pub returns-in-Some-clause-plain : goal.returns-in-Some-clause-plain
returns-in-Some-clause-plain c = c.counted_ready.ensures.plain

pub returns-in-Some-clause-kept : goal.returns-in-Some-clause-kept
returns-in-Some-clause-kept c = c.counted_ready.ensures.kept

pub returns-in-None-clause-shown : goal.returns-in-None-clause-shown
returns-in-None-clause-shown c = λ e s f h a w. h

pub returns-in-None-clause-kept : goal.returns-in-None-clause-kept
returns-in-None-clause-kept c = all_kept c.args.t.now
