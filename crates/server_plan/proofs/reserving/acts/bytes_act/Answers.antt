use Rattle.wire_commands.specs.values.Meaning.{command_of}
use Rattle.server_checks.specs.verdicts.Views.{bytes_in}
use Rattle.server_plan.proofs.reserving.Differs.{bytes_differ}
use Rattle.server_plan.proofs.reserving.acts.bytes_act.Goals as goal

pub returns-in-Ok : goal.returns-in-Ok
returns-in-Ok c = λ s h x. bytes_differ s c.args.file c.args.now c.args.at c.bytes_of-bytes.result.now
    (bytes_in (command_of c.args.m.now.command)) c.in-Ok.held
    c.is_touched-touched.result c.differs.result c.differs.ensures c.bytes_of-bytes.ensures (c.in-Ok.ensures s h.files x)
    (c.is_touched-touched.ensures s h x)
