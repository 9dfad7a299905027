use Rattle.std.proofs.Common.{sym, ◌∙◌}
use Rattle.wire_commands.specs.values.Meaning.{message_of, setup_of}
use Rattle.spec_exchange.specs.Commands.{Setup}
use Rattle.server_checks.proofs.Sessions.{ciphered, no_cipher}
use Rattle.server_checks.proofs.tables.Tables.granted_session.Goals as goal

pub returns-then-lacks_cipher : goal.returns-then-lacks_cipher
returns-then-lacks_cipher c = λ s f t e. c.refuse.ensures (Setup (setup_of c.args.request.now))
    ∙ no_cipher s (message_of c.args.m.now) (setup_of c.args.request.now) c.args.user.now (sym (c.lacks_cipher.ensures s t)
    ∙ c.if-lacks_cipher.true)

pub returns : goal.returns
returns c = λ s f t e. c.counted_session.ensures s t e
    ∙ ciphered s (message_of c.args.m.now) (setup_of c.args.request.now) c.args.user.now (sym (c.lacks_cipher.ensures s t)
    ∙ c.if-lacks_cipher.false)
