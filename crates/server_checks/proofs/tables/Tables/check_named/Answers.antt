use Rattle.std.proofs.Common.{sym, ◌∙◌}
use Rattle.wire_commands.specs.values.Meaning.{command_of, message_of}
use Rattle.server_checks.proofs.Commands.{named_is, unnamed_is}
use Rattle.server_checks.proofs.Passed.{passed}
use Rattle.server_checks.specs.verdicts.Views.{verdict_of}
use Rattle.server_checks.proofs.tables.Tables.check_named.Goals as goal

pub returns-in-Some : goal.returns-in-Some
returns-in-Some c = λ pipes s f t e i. passed c.check_open_of.result (verdict_of (command_of c.args.m.now.command)) _ _
    (sym (named_is s (message_of c.args.m.now) pipes (command_of c.args.m.now.command) c.in-Some.id i (sym c.in-Some.ensures)))
    (c.check_open_of.ensures s f t e)

pub returns-in-None : goal.returns-in-None
returns-in-None c = λ pipes s f t e i. c.refuse.ensures (command_of c.args.m.now.command)
    ∙ sym (unnamed_is s (message_of c.args.m.now) pipes (command_of c.args.m.now.command) i (sym c.in-None.ensures))
