use Rattle.server_core.proofs.Openings.{opening_is}
use Rattle.server_core.proofs.epoch.epoch_records.Goals as goal

pub returns : goal.returns
returns c = λ s v e. opening_is s c.args.state.now.version c.args.state.now.epoch c.in_ok-records.records c.push.new.self v e
    c.in_ok-records.ensures c.in_ok-push.ensures.ok
