use Rattle.std.proofs.Common.{◌≡◌, ap, subst, sym, ◌∙◌}
use Rattle.wire_commands.specs.values.Meaning.{command_of, message_of}
use Rattle.wire_commands.specs.declared.values.command.Command.{Command}
use Rattle.spec_exchange.specs.Check.{command_check}
use Rattle.spec_exchange.specs.CheckSetup.{tree_check}
use Rattle.spec_exchange.specs.Commands.{is_setup}
use Rattle.server_checks.proofs.Dispatch.{IsOnTree, no_setup, on_tree}
use Rattle.server_checks.proofs.Passed.{passed}
use Rattle.server_checks.specs.verdicts.Views.{verdict_of}
use Rattle.server_checks.proofs.tables.Tables.check_command.Goals as goal

pub returns-in-Setup : goal.returns-in-Setup
returns-in-Setup c = λ s f t h e. subst (λ (z : Command). verdict_of (command_of z) c.check_setup.result
    ≡ command_check s (message_of c.args.m.now) (command_of z)) (sym c.in-Setup.is) (c.check_setup.ensures s f t)

pub returns-in-TreeConnect : goal.returns-in-TreeConnect
returns-in-TreeConnect c = λ s f t h e.
    c.check_tree.ensures s f t (h (ap (λ (z : Command). is_setup (command_of z)) c.in-TreeConnect.is))
    ∙ (ap (tree_check s (message_of c.args.m.now)) c.as_str.ensures
    ∙ sym (ap (λ (z : Command). command_check s (message_of c.args.m.now) (command_of z)) c.in-TreeConnect.is))

pub returns-in_default : goal.returns-in_default
returns-in_default c = λ s f t h e.
    let n : IsOnTree c.args.m.now.command = record {
      unreadable = c.in_default.not-Unreadable;
      aside = c.in_default.not-Aside;
      setup = c.in_default.not-Setup;
      logoff = c.in_default.not-Logoff;
      tree_connect = c.in_default.not-TreeConnect;
    } in
    passed c.check_with_tree.result (verdict_of (command_of c.args.m.now.command)) _ _
    (on_tree s (message_of c.args.m.now) c.args.m.now.command n)
    (c.check_with_tree.ensures s f t (h (no_setup c.args.m.now.command n)) e)
