use Rattle.std.proofs.Common.{◌≡◌, ◌≤◌, ◌+◌, drop}
use Rattle.spec_exchange.specs.State.{Server}
use Rattle.server_checks.specs.session_table.Shown.{ShowsSessions}
use Rattle.law_records.specs.leaving_opens.Out.{channels_left}
use Rattle.server_effects.proofs.leaving_opens.connections.channels_left.Given as goal

abbrev pub invariant-loop-connection : goal.invariant-loop-connection
invariant-loop-connection l =
    (l.count ≤ l.connection-index)
    × ((s : Server) → ShowsSessions l.sessions s
    → l.count + channels_left s.session_on l.lost (drop l.connection-index l.connections) l.session
    ≡ channels_left s.session_on l.lost l.connections l.session)
