use Rattle.std.proofs.Common.{ap}
use Rattle.spec_exchange.specs.Commands as asks
use Rattle.wire_commands.specs.values.Meaning.{message_of}
use Rattle.server_checks.proofs.event_heard.asked.without_token.Goals as goal

pub returns : goal.returns
returns c = ap (λ (k : asks.Command). record (message_of c.args.message) { command = k }) c.command_without_token.ensures
