use Rattle.std.proofs.Common.{refl, ◌∙◌}
use Rattle.wire_commands.specs.values.Meaning.{command_of}
use Rattle.server_checks.proofs.verdicts.verdict.create_without_room.Goals as goal

pub returns-in-Create : goal.returns-in-Create
returns-in-Create c = c.refused_create.ensures (command_of c.args.m.now.command) ∙ rw c.in-Create.is refl
