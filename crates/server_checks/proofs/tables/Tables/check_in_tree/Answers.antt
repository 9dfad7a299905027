use Rattle.std.proofs.Common.{◌≡◌, ap, subst, sym}
use Rattle.wire_commands.specs.values.Meaning.{command_of, message_of}
use Rattle.wire_commands.specs.declared.values.command.Command.{Command}
use Rattle.spec_exchange.specs.Check.{tree_command}
use Rattle.server_checks.proofs.Dispatch.{IsNamed, is_on_open}
use Rattle.server_checks.specs.verdicts.Views.{verdict_of}
use Rattle.server_checks.proofs.tables.Tables.check_in_tree.Goals as goal

pub returns-in-Create : goal.returns-in-Create
returns-in-Create c = λ s f t p e. subst (λ (z : Command). verdict_of (command_of z) c.check_create.result
    ≡ tree_command s (message_of c.args.m.now) c.args.pipes (command_of z)) (sym c.in-Create.is) (c.check_create.ensures s f t p)

pub returns-in-Ioctl : goal.returns-in-Ioctl
returns-in-Ioctl c = λ s f t p e. c.check_ioctl_in_tree.ensures c.args.pipes s f t e (ap command_of c.in-Ioctl.is)

pub returns-in_default : goal.returns-in_default
returns-in_default c = λ s f t p e.
    let n : IsNamed c.args.m.now.command = record {
      unreadable = c.in_default.not-Unreadable;
      tree_disconnect = c.in_default.not-TreeDisconnect;
      create = c.in_default.not-Create;
      ioctl = c.in_default.not-Ioctl;
    } in
    c.check_named.ensures c.args.pipes s f t e (is_on_open c.args.m.now.command n)
