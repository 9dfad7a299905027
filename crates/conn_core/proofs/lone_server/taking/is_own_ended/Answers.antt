use Rattle.std.proofs.Common.{◌&&◌, not, Bool, ap, ◌∙◌}
use Rattle.conn_core.proofs.lone_server.taking.is_own_ended.Goals as goal

pub returns : goal.returns
returns c = c.both.ensures ∙ ap (λ (b : Bool). not c.args.ended.now.lacked && b) c.is_own.ensures
