use Rattle.std.proofs.Common.{◌∙◌}
use Rattle.wire_commands.specs.values.Meaning.{message_of, setup_of}
use Rattle.server_checks.proofs.Sessions.{live_is}
use Rattle.server_checks.proofs.tables.Tables.check_binding.Goals as goal

pub returns-in-Some : goal.returns-in-Some
returns-in-Some c = λ s f t.
    let h = c.in-Some.ensures.shows s t.sessions in
    c.check_live_binding.ensures s f t h ∙ live_is s (message_of c.args.m.now) (setup_of c.args.request.now) h.0

pub returns-in-None : goal.returns-in-None
returns-in-None c = λ s f t. c.check_early_binding.ensures s f t (c.in-None.ensures.shows s t.sessions).0
