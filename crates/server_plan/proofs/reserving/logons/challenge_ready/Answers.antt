use Rattle.std.proofs.Common.{Option, IfOk, ap, subst, sym}
use Rattle.std.specs.Option.{option_copied}
use Rattle.server_checks.specs.declared.event_heard.asked.LogonPart.{LogonPart}
use Rattle.server_plan.proofs.reserving.Kept.{all_kept}
use Rattle.server_plan.specs.reserving.Logons.{StepOf}
use Rattle.server_plan.proofs.reserving.logons.challenge_ready.Goals as goal

pub returns-in-Some-clause-room : goal.returns-in-Some-clause-room
returns-in-Some-clause-room c = c.part_challenged.ensures.room

pub returns-in-Some-clause-shown : goal.returns-in-Some-clause-shown
returns-in-Some-clause-shown c = c.part_challenged.ensures.shown

pub returns-in-Some-clause-step : goal.returns-in-Some-clause-step
returns-in-Some-clause-step c = subst (λ (p : Option LogonPart). IfOk c.part_challenged.result
    (λ r. StepOf c.args.t.now.sessions c.args.m.now.connection p c.args.now r)) (sym (ap option_copied c.in-Some.is))
    c.part_challenged.ensures.step

pub returns-in-Some-clause-kept : goal.returns-in-Some-clause-kept
returns-in-Some-clause-kept c = c.part_challenged.ensures.kept

pub returns-in-None-clause-shown : goal.returns-in-None-clause-shown
returns-in-None-clause-shown c = λ s f h a w. h

pub returns-in-None-clause-kept : goal.returns-in-None-clause-kept
returns-in-None-clause-kept c = all_kept c.args.t.now
