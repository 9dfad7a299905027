use Rattle.spec_world.specs.Connection.{connection_step}
use Rattle.server_core.specs.Shown.{stopped_of}
use Rattle.world_steps.proofs.serving.Coming.{comes}
use Rattle.world_steps.proofs.serving.hearing.serve_frame.Goals as goal

pub returns-in-Some : goal.returns-in-Some
returns-in-Some c = λ z v L records f holds shows bound.
    let k = c.args.conn.now.id in
    comes k z.guid records z (connection_step z k c.args.now c.args.fresh v L f c.args.frame.now) c.take_own.new.server c.take_own.new.conn
    (stopped_of c.args.book.now.server) c.in-Some.taken c.served_of.result holds.goes_on c.served_of.ensures
    (c.in-Some.ensures z v L records f holds.held shows bound)
