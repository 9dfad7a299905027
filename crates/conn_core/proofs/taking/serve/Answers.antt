use Rattle.conn_core.proofs.frame_messages.Places.{each_has}
use Rattle.conn_core.specs.served.Serving.{Onward}
use Rattle.conn_core.proofs.Composed.{served, stop_as, stopped_on}
use Rattle.conn_core.proofs.taking.serve.Goals as goal

pub finish-requires-clause-messages : goal.finish-requires-clause-messages
finish-requires-clause-messages g c = each_has c.carry_out.new.asked c.carry_out.ensures.order

pub finish-requires-clause-short : goal.finish-requires-clause-short
finish-requires-clause-short g c = c.carry_out.ensures.short

pub returns-in-Ok-clause-serves : goal.returns-in-Ok-clause-serves
returns-in-Ok-clause-serves g c = λ z s L records f F state shows frame seals moment greets alone asked bound.
    served (Onward (g.S.Serve.shows c.carry_out.new.server z.users) (g.S.Serve.stopped c.args.server.now) (g.S.Serve.stopped
    c.carry_out.new.server)) z c.args.moment.now.time c.args.moment.now.fresh s L records f F c.args.asked.now
    c.carry_out.new.asked c.carry_out.new.dealt c.args.conn.now c.finish.new.conn c.finish.result
    (c.in-Ok.ensures.deals z s L records F.server_end F state shows frame alone) shows frame.sealed
    c.carry_out.ensures.same moment seals greets
    asked bound (λ u l cs ss w end answers. c.finish.ensures.finishes z u l F.server_end cs ss w end answers)
    (g.S.Serve.stopped c.carry_out.new.server)

pub returns-in-Err-clause-serves : goal.returns-in-Err-clause-serves
returns-in-Err-clause-serves g c = λ z s L records f F state shows frame seals moment greets alone asked bound. (
  stopped_on (Onward (g.S.Serve.shows c.carry_out.new.server z.users) (g.S.Serve.stopped c.args.server.now) (g.S.Serve.stopped
      c.carry_out.new.server)) z c.args.conn.now.id c.args.moment.now.time c.args.moment.now.fresh s L records f F
      c.carry_out.new.asked c.carry_out.new.dealt c.args.conn.now c.in-Err.why c.end_of.result c.end_of.ensures
      (c.in-Err.ensures.deals z s L records F.server_end F state shows frame alone),
  λ count why. c.in-Err.ensures.stops count (stop_as c.in-Err.why c.end_of.result.why count c.end_of.ensures.why_is why),
)
