use Rattle.std.proofs.Common.{refl, ap, ◌∙◌}
use Rattle.wire_commands.specs.values.Meaning.{message_of}
use Rattle.spec_exchange.specs.CheckSetup.{granted_binding}
use Rattle.server_checks.proofs.tables.Tables.check_second_binding.Goals as goal

pub returns-in-Logon : goal.returns-in-Logon
returns-in-Logon c = λ k s f t h. c.granted_binding.ensures k s f t h
    ∙ (ap (granted_binding s (message_of c.args.m.now)) c.as_str.ensures ∙ rw c.in-Logon.is refl)
