use Rattle.std.proofs.Common.{refl, ap, sym, ◌∙◌}
use Rattle.wire_commands.specs.values.Meaning.{message_of, setup_of}
use Rattle.spec_exchange.specs.CheckSetup.{granted_session}
use Rattle.spec_exchange.specs.Commands as asks
use Rattle.server_checks.proofs.tables.Tables.check_second_token.Goals as goal

pub returns-in-Logon : goal.returns-in-Logon
returns-in-Logon c = λ s f t. c.granted_session.ensures s f t (rw c.in-Logon.is (ap asks.Logon (sym c.as_str.ensures)))
    ∙ (ap (granted_session s (message_of c.args.m.now) (setup_of c.args.request.now)) c.as_str.ensures ∙ rw c.in-Logon.is refl)
