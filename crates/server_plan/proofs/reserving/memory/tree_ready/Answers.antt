use Rattle.wire_commands.specs.values.Meaning.{message_of}
use Rattle.server_plan.proofs.reserving.Kept.{sessions_kept, with_sessions}
use Rattle.server_plan.proofs.reserving.Plain.{tree_for}
use Rattle.server_plan.proofs.reserving.memory.tree_ready.Goals as goal

pub returns-in-Ok-clause-room : goal.returns-in-Ok-clause-room
returns-in-Ok-clause-room c = c.in-Ok.ensures.room

pub returns-in-Ok-clause-shown : goal.returns-in-Ok-clause-shown
returns-in-Ok-clause-shown c = λ now s f h a w. tree_for (record c.args.t.now { sessions = c.reserve_tree.new.self }) s
    (message_of c.args.m.now) now c.args.pipes
    (with_sessions c.args.t.now c.reserve_tree.new.self s h (c.in-Ok.ensures.same s h.sessions))

pub returns-in-Err-clause-shown : goal.returns-in-Err-clause-shown
returns-in-Err-clause-shown c = λ now s f h a w. with_sessions c.args.t.now c.reserve_tree.new.self s h (c.in-Err.ensures.same s h.sessions)

pub returns-in-Ok-clause-kept : goal.returns-in-Ok-clause-kept
returns-in-Ok-clause-kept c = sessions_kept c.args.t.now c.reserve_tree.new.self c.in-Ok.ensures.logons

pub returns-in-Err-clause-kept : goal.returns-in-Err-clause-kept
returns-in-Err-clause-kept c = sessions_kept c.args.t.now c.reserve_tree.new.self c.in-Err.ensures.logons
