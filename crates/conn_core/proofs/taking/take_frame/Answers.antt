use Rattle.std.proofs.Common.{◌∙◌, arith, refl}
use Rattle.spec_world.specs.Hearing.{check_frame, text_of}
use Rattle.conn_core.specs.declared.end.ConnEnd.TheVariants.{Memory}
use Rattle.conn_core.specs.served.Serving.{Onward}
use Rattle.conn_core.proofs.Composed.{ended_once, fails_checked, lacks_all, memory_halts, once_halts, takes}
use Rattle.conn_core.proofs.taking.take_frame.Goals as goal

pub serve-requires-clause-order : goal.serve-requires-clause-order
serve-requires-clause-order g c = c.in-Ok.ensures.order

pub serve-requires-clause-none : goal.serve-requires-clause-none
serve-requires-clause-none g c = c.in-Ok-dealt_for.ensures.none

pub serve-requires-clause-room : goal.serve-requires-clause-room
serve-requires-clause-room g c = (let few = c.in-Ok-dealt_for.ensures.room in let long = c.len.ensures in
    let count = c.in-Ok.asked.messages.ok.0 in omega (arith, few, long, count))

pub returns-in-Err-clause-takes : goal.returns-in-Err-clause-takes
returns-in-Err-clause-takes g c = λ z s L records f state shows bound.
    let k = c.args.conn.now.id in
    let stopped = g.S.Serve.stopped c.args.server.now in
    let shown = Onward (g.S.Serve.shows c.args.server.now z.users) stopped stopped in
    ended_once shown z k c.args.now c.args.fresh s L records f (check_frame f c.args.frame.now) c.check.new.conn
    c.in-Err.why c.at_once.result
    c.at_once.ensures
    (fails_checked shown z k c.args.now c.args.fresh s L records f (check_frame f c.args.frame.now) c.check.new.conn c.in-Err.why
    (state, refl) (c.in-Err.ensures.checks k z.guid f shows))

pub returns-in-Err-clause-halted : goal.returns-in-Err-clause-halted
returns-in-Err-clause-halted g c = λ z s L records f state shows bound.
    once_halts f c.args.frame.now (g.S.Serve.stopped c.args.server.now) c.in-Err.why c.at_once.result c.at_once.ensures
    (c.in-Err.ensures.checks c.args.conn.now.id z.guid f shows)

pub returns-in-Err-dealt_for-clause-takes : goal.returns-in-Err-dealt_for-clause-takes
returns-in-Err-dealt_for-clause-takes g c = λ z s L records f state shows bound.
    let k = c.args.conn.now.id in
    let stopped = g.S.Serve.stopped c.args.server.now in
    let shown = Onward (g.S.Serve.shows c.args.server.now z.users) stopped stopped in
    ended_once shown z k c.args.now c.args.fresh s L records f (check_frame f c.args.frame.now) c.check.new.conn Memory
    c.at_once-in-Err-dealt_for.result
    c.at_once-in-Err-dealt_for.ensures
    (lacks_all shown z k c.args.now c.args.fresh s L records f (check_frame f c.args.frame.now) c.check.new.conn (state, refl))

pub returns-in-Err-dealt_for-clause-halted : goal.returns-in-Err-dealt_for-clause-halted
returns-in-Err-dealt_for-clause-halted g c = λ z s L records f state shows bound.
    memory_halts (g.S.Serve.stopped c.args.server.now) c.at_once-in-Err-dealt_for.result c.at_once-in-Err-dealt_for.ensures

pub returns-clause-takes : goal.returns-clause-takes
returns-clause-takes g c = λ z s L records f state shows bound.
    let mid = c.check.new.conn in
    (takes (Onward (g.S.Serve.shows c.serve.new.server z.users) (g.S.Serve.stopped c.args.server.now) (g.S.Serve.stopped
    c.serve.new.server)) z c.args.conn.now.id c.args.now c.args.fresh s L records f
    (text_of f.keys c.args.frame.now) mid c.serve.new.conn c.in-Ok.asked (g.S.Serve.stopped c.serve.new.server)
    c.serve.result shows.heard bound
    (c.in-Ok.ensures.checks c.args.conn.now.id z.guid f shows)
    (λ F end frame seals time greets alone asked few.
    c.serve.ensures.serves z s L records f F state end frame seals time greets alone asked few)).0

pub returns-clause-halted : goal.returns-clause-halted
returns-clause-halted g c = λ z s L records f state shows bound.
    let mid = c.check.new.conn in
    (takes (Onward (g.S.Serve.shows c.serve.new.server z.users) (g.S.Serve.stopped c.args.server.now) (g.S.Serve.stopped
    c.serve.new.server)) z c.args.conn.now.id c.args.now c.args.fresh s L records f
    (text_of f.keys c.args.frame.now) mid c.serve.new.conn c.in-Ok.asked (g.S.Serve.stopped c.serve.new.server)
    c.serve.result shows.heard bound
    (c.in-Ok.ensures.checks c.args.conn.now.id z.guid f shows)
    (λ F end frame seals time greets alone asked few.
    c.serve.ensures.serves z s L records f F state end frame seals time greets alone asked few)).1

pub returns-clause-spare : goal.returns-clause-spare
returns-clause-spare g c = λ none. c.serve.ensures.spare none ∙ c.check.ensures.spare
