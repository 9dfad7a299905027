use Rattle.std.proofs.Common.{◌∙◌}
use Rattle.wire_commands.specs.values.Meaning.{create_of, message_of, reconnect_of}
use Rattle.spec_exchange.specs.Commands.{Create}
use Rattle.server_checks.proofs.Creates.{attached_again, refused_reconnect}
use Rattle.server_checks.proofs.tables.Tables.check_reconnect.Goals as goal

pub returns-in-Some : goal.returns-in-Some
returns-in-Some c = λ s f t p. c.refuse.ensures (Create (create_of c.args.request.now))
    ∙ refused_reconnect s (message_of c.args.m.now) (create_of c.args.request.now) (reconnect_of c.args.reconnect) _ c.in-Some.status
    (c.user-user.ensures s t p) (c.in-Some.ensures s t.opens)

pub returns-in-None : goal.returns-in-None
returns-in-None c = λ s f t p. attached_again s (message_of c.args.m.now) (create_of c.args.request.now)
    (reconnect_of c.args.reconnect) _
    (c.user-user.ensures s t p) (c.in-None.ensures s t.opens)
