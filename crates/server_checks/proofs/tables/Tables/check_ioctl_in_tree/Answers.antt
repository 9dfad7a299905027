use Rattle.std.proofs.Common.{ap, sym, subst, ◌∙◌}
use Rattle.wire_commands.specs.values.Meaning.{command_of, message_of}
use Rattle.spec_exchange.specs.Check.{tree_command}
use Rattle.server_checks.proofs.Dispatch.{free_is}
use Rattle.server_checks.specs.Looks.{IsOnOpen}
use Rattle.server_checks.proofs.tables.Tables.check_ioctl_in_tree.Goals as goal

pub returns-then-names_none : goal.returns-then-names_none
returns-then-names_none c = λ pipes s f t e k. c.check_free_ioctl.ensures (command_of c.args.m.now.command) s t
    ∙ (free_is s (message_of c.args.m.now) pipes c.args.file c.args.code c.args.room (sym c.names_none.ensures ∙ c.if-names_none.true)
    ∙ ap (tree_command s (message_of c.args.m.now) pipes) (sym k))

pub returns : goal.returns
returns c = λ pipes s f t e k. c.check_named.ensures pipes s f t e
    (subst IsOnOpen (sym k) (sym c.names_none.ensures ∙ c.if-names_none.false))
