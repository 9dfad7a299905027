use Rattle.std.proofs.Common.{ap}
use Rattle.server_core.specs.declared.server.Server.{Server}
use Rattle.server_core.specs.declared.journaled_tables.state.ServerState.{ServerState}
use Rattle.server_core.proofs.server.Server.event.Goals as goal

pub returns : goal.returns
returns g c =
    let wrapped : ServerState g.row.D.Denot → Server g.row.D.Denot = λ x. record { state = x } in record {
      step = c.answer_event.ensures.step;
      any_moment = c.answer_event.ensures.any_moment;
      stopped = λ count is. let k = c.answer_event.ensures.stopped count is in (k.0, ap wrapped k.1);
      config = c.answer_event.ensures.config;
      early = c.answer_event.ensures.early;
    }
