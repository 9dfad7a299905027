use Rattle.std.proofs.Common.{refl}
use Rattle.server_plan.proofs.preparing.Kept.{sessions_keep, sessions_shown}
use Rattle.server_plan.proofs.preparing.memory.prepare_connection.Goals as goal

pub returns-in-Ok-clause-shown : goal.returns-in-Ok-clause-shown
returns-in-Ok-clause-shown c = λ s now e h.
    (sessions_shown c.args.t.now c.reserve_connection.new.self s h (c.reserve_connection.ensures.same s h.sessions), refl)

pub returns-in-Err-clause-shown : goal.returns-in-Err-clause-shown
returns-in-Err-clause-shown c = λ s now e h.
    sessions_shown c.args.t.now c.reserve_connection.new.self s h (c.reserve_connection.ensures.same s h.sessions)

pub returns-in-Ok-clause-room : goal.returns-in-Ok-clause-room
returns-in-Ok-clause-room c = λ a. c.in-Ok.ensures.room

pub returns-in-Ok-clause-kept : goal.returns-in-Ok-clause-kept
returns-in-Ok-clause-kept c = sessions_keep c.args.t.now c.reserve_connection.new.self c.reserve_connection.ensures.logons

pub returns-in-Err-clause-kept : goal.returns-in-Err-clause-kept
returns-in-Err-clause-kept c = sessions_keep c.args.t.now c.reserve_connection.new.self c.reserve_connection.ensures.logons
