use Rattle.std.proofs.Common.{◌∙◌, List, ℕ, ap}
use Rattle.spec_commands.specs.ReplyOf.{reply_of}
use Rattle.wire_commands.specs.values.Meaning.{client_command_of}
use Rattle.world_steps.proofs.taking.reading.read.Goals as goal

pub returns-in-Ok : goal.returns-in-Ok
returns-in-Ok c =
    c.in-Ok.ensures.hears
    ∙ ap (λ (v : List ℕ). reply_of (client_command_of c.args.command.now) c.args.response.now.header v) c.as_slice.ensures
