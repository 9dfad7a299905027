use Rattle.wire_commands.specs.values.Meaning.{message_of}
use Rattle.server_plan.proofs.reserving.Kept.{opens_kept, with_opens}
use Rattle.server_plan.proofs.reserving.Plain.{attach_for}
use Rattle.server_plan.proofs.reserving.memory.attach_ready.Goals as goal

pub returns-in-Ok-clause-room : goal.returns-in-Ok-clause-room
returns-in-Ok-clause-room c = c.in-Ok.ensures.room

pub returns-in-Ok-clause-shown : goal.returns-in-Ok-clause-shown
returns-in-Ok-clause-shown c = λ now s f h a w. attach_for (record c.args.t.now { opens = c.reserve_in.new.self }) s
    (message_of c.args.m.now) now c.args.id
    (with_opens c.args.t.now c.reserve_in.new.self s h (c.in-Ok.ensures.same s h.opens))

pub returns-in-Err-clause-shown : goal.returns-in-Err-clause-shown
returns-in-Err-clause-shown c = λ now s f h a w. with_opens c.args.t.now c.reserve_in.new.self s h (c.in-Err.ensures.same s h.opens)

pub returns-in-Ok-clause-kept : goal.returns-in-Ok-clause-kept
returns-in-Ok-clause-kept c = opens_kept c.args.t.now c.reserve_in.new.self c.in-Ok.ensures.rest c.in-Ok.ensures.undated

pub returns-in-Err-clause-kept : goal.returns-in-Err-clause-kept
returns-in-Err-clause-kept c = opens_kept c.args.t.now c.reserve_in.new.self c.in-Err.ensures.rest c.in-Err.ensures.undated
