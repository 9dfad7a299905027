use Rattle.std.proofs.Common.{refl}
use Rattle.server_plan.proofs.reserving.Kept.{all_kept}
use Rattle.server_plan.proofs.reserving.logons.logon_step.Goals as goal

pub counted_step-requires : goal.counted_step-requires
counted_step-requires c = c.in-Some.ensures.left refl

pub returns-in-Some-clause-room : goal.returns-in-Some-clause-room
returns-in-Some-clause-room c = c.counted_step.ensures.room

pub returns-in-Some-clause-shown : goal.returns-in-Some-clause-shown
returns-in-Some-clause-shown c = c.counted_step.ensures.shown

pub returns-in-Some-clause-step : goal.returns-in-Some-clause-step
returns-in-Some-clause-step c = c.counted_step.ensures.step

pub returns-in-Some-clause-kept : goal.returns-in-Some-clause-kept
returns-in-Some-clause-kept c = c.counted_step.ensures.kept

pub returns-in-None-clause-shown : goal.returns-in-None-clause-shown
returns-in-None-clause-shown c = λ now s f h a w. h

pub returns-in-None-clause-kept : goal.returns-in-None-clause-kept
returns-in-None-clause-kept c = all_kept c.args.t.now
