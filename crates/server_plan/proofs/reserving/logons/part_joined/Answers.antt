use Rattle.std.proofs.Common.{Some}
use Rattle.server_plan.proofs.reserving.Kept.{all_kept}
use Rattle.server_plan.proofs.reserving.Steps.{each_ok}
use Rattle.server_plan.proofs.reserving.logons.part_joined.Goals as goal

pub returns-in-Ok-clause-room : goal.returns-in-Ok-clause-room
returns-in-Ok-clause-room c = c.join_step.ensures.room

pub returns-in-Ok-clause-shown : goal.returns-in-Ok-clause-shown
returns-in-Ok-clause-shown c = c.join_step.ensures.shown

pub returns-in-Ok-clause-step : goal.returns-in-Ok-clause-step
returns-in-Ok-clause-step c = λ now. each_ok c.args.t.now.sessions c.args.m.now.connection (Some c.args.part.now) now c.join_step.result
    (λ keys pending l. let k = c.in-Ok.ensures keys pending l in c.join_step.ensures.step keys pending
    c.args.m.now.connection c.args.part.now now k.0 k.1)

pub returns-in-Ok-clause-kept : goal.returns-in-Ok-clause-kept
returns-in-Ok-clause-kept c = c.join_step.ensures.kept

pub returns-in-Err-clause-shown : goal.returns-in-Err-clause-shown
returns-in-Err-clause-shown c = λ now s f h a w. h

pub returns-in-Err-clause-kept : goal.returns-in-Err-clause-kept
returns-in-Err-clause-kept c = all_kept c.args.t.now
