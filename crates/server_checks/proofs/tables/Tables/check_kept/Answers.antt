use Rattle.std.proofs.Common.{◌∙◌}
use Rattle.wire_commands.specs.values.Meaning.{create_of, durable_of, message_of}
use Rattle.spec_exchange.specs.Commands.{Create}
use Rattle.server_checks.proofs.Creates.{closed_before, refused_once, unkept}
use Rattle.server_checks.proofs.tables.Tables.check_kept.Goals as goal

pub returns-in-Some-Closed : goal.returns-in-Some-Closed
returns-in-Some-Closed c = λ s f t. c.refuse.ensures (Create (create_of c.args.request.now))
    ∙ closed_before s (message_of c.args.m.now) (create_of c.args.request.now)
    (durable_of c.args.durable) c.in-Some-Closed.field-0 c.in-Some-Closed.field-0-is
    (c.in-Some-Closed.ensures s t.opens)

pub returns-in-Some-Refused : goal.returns-in-Some-Refused
returns-in-Some-Refused c = λ s f t. c.refused_before.ensures (Create (create_of c.args.request.now)) s t
    ∙ refused_once s (message_of c.args.m.now) (create_of c.args.request.now)
    (durable_of c.args.durable) c.in-Some-Refused.field-0 c.in-Some-Refused.status
    c.in-Some-Refused.field-0-is (c.in-Some-Refused.ensures s t.opens)

pub returns-in-None : goal.returns-in-None
returns-in-None c = λ s f t. c.check_unkept.ensures s f t
    ∙ unkept s (message_of c.args.m.now) (create_of c.args.request.now) (durable_of c.args.durable) (c.in-None.ensures s t.opens)
