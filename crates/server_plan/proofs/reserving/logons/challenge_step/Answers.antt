use Rattle.std.proofs.Common.{ℕ, Option, subst, sym}
use Rattle.wire_commands.specs.values.Meaning.{message_of}
use Rattle.server_plan.specs.reserving.Logons.{challenge_verdict}
use Rattle.server_plan.specs.reserving.Readies.{VerdictReadies}
use Rattle.server_plan.proofs.reserving.logons.challenge_step.Goals as goal

pub returns-in-Some-clause-room : goal.returns-in-Some-clause-room
returns-in-Some-clause-room c = c.binding_step.ensures.room

pub returns-in-Some-clause-shown : goal.returns-in-Some-clause-shown
returns-in-Some-clause-shown c = λ now. subst (λ (o : Option ℕ). VerdictReadies c.args.t.now c.binding_step.new.t
    (message_of c.args.m.now) now (challenge_verdict o) c.binding_step.result) (sym c.in-Some.is)
    (c.binding_step.ensures.shown now)

pub returns-in-Some-clause-step : goal.returns-in-Some-clause-step
returns-in-Some-clause-step c = c.binding_step.ensures.step

pub returns-in-Some-clause-kept : goal.returns-in-Some-clause-kept
returns-in-Some-clause-kept c = c.binding_step.ensures.kept

pub returns-in-None-clause-room : goal.returns-in-None-clause-room
returns-in-None-clause-room c = c.logon_step.ensures.room

pub returns-in-None-clause-shown : goal.returns-in-None-clause-shown
returns-in-None-clause-shown c = λ now. subst (λ (o : Option ℕ). VerdictReadies c.args.t.now c.logon_step.new.t
    (message_of c.args.m.now) now (challenge_verdict o) c.logon_step.result) (sym c.in-None.is)
    (c.logon_step.ensures.shown now)

pub returns-in-None-clause-step : goal.returns-in-None-clause-step
returns-in-None-clause-step c = c.logon_step.ensures.step

pub returns-in-None-clause-kept : goal.returns-in-None-clause-kept
returns-in-None-clause-kept c = c.logon_step.ensures.kept
