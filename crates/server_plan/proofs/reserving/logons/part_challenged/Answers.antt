use Rattle.server_plan.proofs.reserving.Kept.{all_kept}
use Rattle.server_plan.proofs.reserving.logons.part_challenged.Goals as goal

pub returns-in-Ok-clause-room : goal.returns-in-Ok-clause-room
returns-in-Ok-clause-room c = c.challenge_step.ensures.room

pub returns-in-Ok-clause-shown : goal.returns-in-Ok-clause-shown
returns-in-Ok-clause-shown c = c.challenge_step.ensures.shown c.args.now

pub returns-in-Ok-clause-step : goal.returns-in-Ok-clause-step
returns-in-Ok-clause-step c = c.challenge_step.ensures.step c.args.part.now c.args.now c.in-Ok.ensures

pub returns-in-Ok-clause-kept : goal.returns-in-Ok-clause-kept
returns-in-Ok-clause-kept c = c.challenge_step.ensures.kept

pub returns-in-Err-clause-shown : goal.returns-in-Err-clause-shown
returns-in-Err-clause-shown c = λ s f h a w. h

pub returns-in-Err-clause-kept : goal.returns-in-Err-clause-kept
returns-in-Err-clause-kept c = all_kept c.args.t.now
