use Rattle.std.proofs.Common.{sym, ◌∙◌}
use Rattle.conn_core.specs.served.Serving.{Onward}
use Rattle.conn_core.proofs.lone_server.Steps.{own_result}
use Rattle.conn_core.proofs.lone_server.taking.take_own.Goals as goal

pub returns-then-own : goal.returns-then-own
returns-then-own g c = λ z s L records f state shows bound.
    own_result c.own_step_law.ensures.own c.nothing_befell_law.ensures.none
    (Onward (g.S.Serve.shows c.take_frame-taken.new.server z.users) (g.S.Serve.stopped c.args.server.now)
    (g.S.Serve.stopped c.take_frame-taken.new.server)) z c.args.conn.now.id c.args.now c.args.fresh s L records f c.args.frame.now
    c.take_frame-taken.new.conn c.take_frame-taken.result
    (sym c.is_own_taken-own.ensures ∙ c.if-own.true) (c.take_frame-taken.ensures.takes z s L records f state shows bound)
