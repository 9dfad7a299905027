use Rattle.wire_commands.specs.values.Meaning.{command_of}
use Rattle.server_plan.proofs.reserving.Alters.{moved_ready}
use Rattle.server_plan.proofs.reserving.alter.path_ready.Goals as goal

pub returns-in-Ok-clause-shown : goal.returns-in-Ok-clause-shown
returns-in-Ok-clause-shown c = λ s replaced h x a. moved_ready (record c.args.t.now {
  tree = c.prepare_rename.new.self;
}) s c.args.file (command_of c.args.m.now.command)
    c.path_of-to.result.now c.in-Ok.moved replaced c.path_of-to.ensures (c.in-Ok.ensures.prepared s h x).1 a.1

pub returns-in-Err-clause-shown : goal.returns-in-Err-clause-shown
returns-in-Err-clause-shown c = λ s replaced h x a. (c.in-Err.ensures.prepared s h x).1
