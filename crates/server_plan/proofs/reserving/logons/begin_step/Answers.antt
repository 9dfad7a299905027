use Rattle.server_plan.proofs.reserving.Kept.{kept_twice, sessions_kept, with_sessions}
use Rattle.server_plan.proofs.reserving.logons.begin_step.Goals as goal

pub begin_linked-requires : goal.begin_linked-requires
begin_linked-requires c = c.in-Ok.ensures.room

pub returns-in-Ok-clause-room : goal.returns-in-Ok-clause-room
returns-in-Ok-clause-room c = c.begin_linked.ensures.room

pub returns-in-Ok-clause-shown : goal.returns-in-Ok-clause-shown
returns-in-Ok-clause-shown c = λ now i s f h a w. c.begin_linked.ensures.shown now i s f
    (with_sessions c.args.t.now c.reserve_session.new.self s h (c.in-Ok.ensures.same s h.sessions)) a w

pub returns-in-Ok-clause-step : goal.returns-in-Ok-clause-step
returns-in-Ok-clause-step c = c.begin_linked.ensures.step

pub returns-in-Ok-clause-kept : goal.returns-in-Ok-clause-kept
returns-in-Ok-clause-kept c = kept_twice c.args.t.now (record c.args.t.now { sessions = c.reserve_session.new.self }) c.begin_linked.new.t
    (sessions_kept c.args.t.now c.reserve_session.new.self c.in-Ok.ensures.logons) c.begin_linked.ensures.kept

pub returns-in-Err-clause-shown : goal.returns-in-Err-clause-shown
returns-in-Err-clause-shown c = λ now i s f h a w. with_sessions c.args.t.now c.reserve_session.new.self s h
    (c.in-Err.ensures.same s h.sessions)

pub returns-in-Err-clause-kept : goal.returns-in-Err-clause-kept
returns-in-Err-clause-kept c = sessions_kept c.args.t.now c.reserve_session.new.self c.in-Err.ensures.logons
