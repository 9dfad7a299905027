use Rattle.std.proofs.Common.{Option, IfOk, ap, subst, sym}
use Rattle.std.specs.Option.{option_copied}
use Rattle.wire_commands.specs.values.Meaning.{command_of}
use Rattle.server_checks.specs.event_heard.Heard.{PartAgrees}
use Rattle.server_checks.specs.declared.event_heard.asked.LogonPart.{LogonPart}
use Rattle.server_plan.proofs.reserving.Kept.{all_kept}
use Rattle.server_plan.specs.reserving.Logons.{StepOf}
use Rattle.server_plan.proofs.reserving.logons.begin_ready.Goals as goal

pub returns-in-Some-clause-room : goal.returns-in-Some-clause-room
returns-in-Some-clause-room c = c.part_begun.ensures.room

pub returns-in-Some-clause-shown : goal.returns-in-Some-clause-shown
returns-in-Some-clause-shown c = λ now p. c.part_begun.ensures.shown now
    (subst (λ (o : Option LogonPart). PartAgrees (command_of c.args.m.now.command) o) (ap option_copied c.in-Some.is) p)

pub returns-in-Some-clause-step : goal.returns-in-Some-clause-step
returns-in-Some-clause-step c = λ now.
    subst (λ (p : Option LogonPart). IfOk c.part_begun.result (λ r. StepOf c.args.t.now.sessions c.args.m.now.connection
    p now r)) (sym (ap option_copied c.in-Some.is)) (c.part_begun.ensures.step now)

pub returns-in-Some-clause-kept : goal.returns-in-Some-clause-kept
returns-in-Some-clause-kept c = c.part_begun.ensures.kept

pub returns-in-None-clause-shown : goal.returns-in-None-clause-shown
returns-in-None-clause-shown c = λ now p s f h a w. h

pub returns-in-None-clause-kept : goal.returns-in-None-clause-kept
returns-in-None-clause-kept c = all_kept c.args.t.now
