use Rattle.std.proofs.Common.{sym, ap, ◌∙◌}
use Rattle.spec_exchange.specs.Effects.{create_records}
use Rattle.wire_commands.specs.values.Meaning.{command_of, message_of}
use Rattle.wire_commands.specs.declared.values.command.Command.{Command}
use Rattle.server_checks.specs.verdicts.Views.{create_in}
use Rattle.server_plan.proofs.owed_records.Told.{if_ok_by, no_create}
use Rattle.server_plan.proofs.owed_records.create.create_records.Goals as goal

pub returns-in-Create : goal.returns-in-Create
returns-in-Create c = λ s o t h room there i is.
    if_ok_by c.request_records.result (c.request_records.ensures s o t h room there i)
    (λ rs e. e ∙ ap (λ (k : Command). create_records s (message_of c.args.m.now) (create_in (command_of k)) c.args.found c.args.action
    c.args.now) (sym c.in-Create.is))

pub returns-in_default : goal.returns-in_default
returns-in_default c = λ s o t h room there i is. absurd (no_create c.args.m.now.command c.in_default.not-Create is)
