use Rattle.std.proofs.Common.{◌≡◌, ◌≤◌, take}
use Rattle.spec_exchange.specs.State.{Server}
use Rattle.spec_exchange.specs.CheckSetup.{count_channels}
use Rattle.server_checks.specs.session_table.Shown.{ShowsSessions}
use Rattle.server_checks.proofs.session_table.table.Sessions.channels_among.Given as goal

abbrev pub invariant-loop-connection : goal.invariant-loop-connection
invariant-loop-connection l =
    (l.count ≤ l.connection-index)
    × ((s : Server) → ShowsSessions l.self s → l.count ≡ count_channels s.session_on (take l.connection-index l.connections) l.session)
