use Rattle.std.proofs.Common.{Some}
use Rattle.wire_commands.specs.values.Meaning.{command_of}
use Rattle.server_plan.proofs.reserving.Kept.{all_kept}
use Rattle.server_plan.proofs.reserving.Steps.{agreed, each_ok}
use Rattle.server_plan.proofs.reserving.logons.part_begun.Goals as goal
use Rattle.server_checks.specs.event_heard.Heard.{setup_in}

pub returns-in-Ok-clause-room : goal.returns-in-Ok-clause-room
returns-in-Ok-clause-room c = c.begin_step.ensures.room

pub returns-in-Ok-clause-shown : goal.returns-in-Ok-clause-shown
returns-in-Ok-clause-shown c = λ now p.
    let q = agreed (command_of c.args.m.now.command) c.args.part.now p in
    c.begin_step.ensures.shown now (c.in-Ok.ensures.row (setup_in (command_of c.args.m.now.command)) q.0 q.1 q.2)

pub returns-in-Ok-clause-step : goal.returns-in-Ok-clause-step
returns-in-Ok-clause-step c = λ now. each_ok c.args.t.now.sessions c.args.m.now.connection (Some c.args.part.now) now c.begin_step.result
    (λ keys pending l. c.begin_step.ensures.step keys pending c.args.m.now.connection c.args.part.now now
    (c.in-Ok.ensures.token keys pending l)
    c.in-Ok.ensures.keys)

pub returns-in-Ok-clause-kept : goal.returns-in-Ok-clause-kept
returns-in-Ok-clause-kept c = c.begin_step.ensures.kept

pub returns-in-Err-clause-shown : goal.returns-in-Err-clause-shown
returns-in-Err-clause-shown c = λ now p s f h a w. h

pub returns-in-Err-clause-kept : goal.returns-in-Err-clause-kept
returns-in-Err-clause-kept c = all_kept c.args.t.now
