use Rattle.std.proofs.Common.{ap, nat_le}
use Rattle.spec_exchange.specs.CheckSetup.{max_sessions}
use Rattle.server_checks.proofs.tables.Tables.has_no_session_left.Goals as goal

pub returns : goal.returns
returns c = λ s t. ap (nat_le max_sessions) (c.count.ensures s t.sessions)
