use Rattle.wire_commands.specs.values.Meaning.{client_command_of}
use Rattle.world_steps.proofs.Refusing.{result_with}
use Rattle.world_steps.proofs.sending.Asked.{asked_with}
use Rattle.world_steps.proofs.sending.asking.request_under.Goals as goal

pub returns-in-Ok : goal.returns-in-Ok
returns-in-Ok c =
    result_with c.request_with.result
    (λ r short. asked_with c.args.client.now c.args.salt c.args.number c.args.asking c.args.heading.now (client_command_of c.in-Ok.command) r
    c.requires c.in-Ok.ensures short)
    c.request_with.ensures
