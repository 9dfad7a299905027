use Rattle.server_core.proofs.durable_state.Leaving.{shut_shown}
use Rattle.server_core.proofs.durable_state.durable.Durable.shut.Goals as goal

pub returns : goal.returns
returns c = λ s i h st f p. shut_shown c.mark_left.new.self c.leave.new.self s c.args.id c.args.file c.args.options i st f p
    (c.in_ok-mark_left.ensures s h) c.leave.ensures.shows
