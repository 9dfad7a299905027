use Rattle.std.proofs.Common.{◌==◌, ◌&&◌, ◌∙◌}
use Rattle.client_events.proofs.played_client.played.is_again.Goals as goal

pub returns : goal.returns
returns c = λ d s. c.both.ensures
    ∙ (λ t. (c.is_ready-ready.ensures.shown d s.table.session) t && (c.args.session == (c.id-own.ensures d s.table.session) t))
