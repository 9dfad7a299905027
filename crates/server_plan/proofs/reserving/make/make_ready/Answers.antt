use Rattle.std.proofs.Common.{ap}
use Rattle.wire_commands.specs.values.Meaning.{command_of}
use Rattle.wire_commands.specs.declared.values.command.Command.{Command}
use Rattle.server_checks.specs.verdicts.Views.{create_in}
use Rattle.server_plan.proofs.reserving.Kept.{all_kept}
use Rattle.server_plan.proofs.reserving.make.make_ready.Goals as goal

pub returns-in-Create-clause-room : goal.returns-in-Create-clause-room
returns-in-Create-clause-room c = c.create_ready.ensures.room

pub returns-in-Create-clause-shown : goal.returns-in-Create-clause-shown
returns-in-Create-clause-shown c = c.create_ready.ensures.shown
    (ap (λ (k : Command). create_in (command_of k)) c.in-Create.is)

pub returns-in-Create-clause-plain : goal.returns-in-Create-clause-plain
returns-in-Create-clause-plain c = c.create_ready.ensures.plain

pub returns-in-Create-clause-kept : goal.returns-in-Create-clause-kept
returns-in-Create-clause-kept c = c.create_ready.ensures.kept

pub returns-in_default-clause-shown : goal.returns-in_default-clause-shown
returns-in_default-clause-shown c = λ s f h a w. h

pub returns-in_default-clause-kept : goal.returns-in_default-clause-kept
returns-in_default-clause-kept c = all_kept c.args.t.now
