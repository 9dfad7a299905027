use Rattle.std.proofs.Common.{List, ℕ, ap, ◌∙◌}
use Rattle.spec_exchange.specs.CheckSetup.{count_channels}
use Rattle.server_checks.proofs.session_table.table.Sessions.channels.Goals as goal

pub returns : goal.returns
returns c = λ s h.
    c.channels_among.ensures s h
    ∙ ap (λ (v : List ℕ). count_channels s.session_on v c.args.session) (c.connections.ensures s h)
