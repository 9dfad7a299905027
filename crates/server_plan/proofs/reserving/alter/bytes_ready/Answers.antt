use Rattle.wire_commands.specs.values.Meaning.{command_of}
use Rattle.server_plan.proofs.reserving.Alters.{written_ready}
use Rattle.server_plan.proofs.reserving.alter.bytes_ready.Goals as goal

pub returns-then-is_empty-clause-shown : goal.returns-then-is_empty-clause-shown
returns-then-is_empty-clause-shown c = λ s h x a. h

pub returns-in-Ok-clause-shown : goal.returns-in-Ok-clause-shown
returns-in-Ok-clause-shown c = λ s h x a. written_ready (record c.args.t.now { tree = c.prepare_write.new.self }) s
    c.args.file c.args.at (command_of c.args.m.now.command)
    c.bytes_of-bytes.result.now c.in-Ok.bytes c.bytes_of-bytes.ensures (c.in-Ok.ensures.ready s h x a.1).1 (c.in-Ok.ensures.same s h)

pub returns-in-Err-clause-shown : goal.returns-in-Err-clause-shown
returns-in-Err-clause-shown c = λ s h x a. c.in-Err.ensures.same s h
