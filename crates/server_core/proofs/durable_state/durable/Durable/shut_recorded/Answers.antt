use Rattle.spec_exchange.specs.State.{Server}
use Rattle.server_core.specs.durable_state.Durable.{DurableShown}
use Rattle.spec_exchange.specs.Fold.{shut_recorded}
use Rattle.server_core.proofs.durable_state.Choice.{on, off}
use Rattle.server_core.proofs.durable_state.Leaving.{row_file, row_options}
use Rattle.server_core.proofs.durable_state.durable.Durable.shut_recorded.Goals as goal

pub returns-in_default : goal.returns-in_default
returns-in_default c = λ s origin i h. off (λ (u : Server). DurableShown c.args.self.now u) (s.standing c.args.id)
    (shut_recorded s c.args.id) s
    (c.in_default.ensures s h.opens) h

pub returns-in-Ok : goal.returns-in-Ok
returns-in-Ok c = λ s origin i h.
    let k = c.in-Some.ensures s h.opens in
    on (λ (u : Server). DurableShown c.shut.new.self u) (s.standing c.args.id) (shut_recorded s c.args.id) s k.0
    (c.in-Ok.ensures s i h k.0 (row_file c.in-Some.row.now s c.args.id k) (row_options c.in-Some.row.now s c.args.id k))
