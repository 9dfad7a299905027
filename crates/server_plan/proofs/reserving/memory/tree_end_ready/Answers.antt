use Rattle.wire_commands.specs.values.Meaning.{message_of}
use Rattle.server_plan.proofs.reserving.Plain.{tree_end_for}
use Rattle.server_plan.proofs.reserving.memory.tree_end_ready.Goals as goal

pub returns-in-Ok-clause-shown : goal.returns-in-Ok-clause-shown
returns-in-Ok-clause-shown c = λ now s f h a w. tree_end_for c.args.t.now s (message_of c.args.m.now) now c.in-Ok.opens h
    (c.in-Ok.ensures s f h.opens)

pub returns-in-Err-clause-shown : goal.returns-in-Err-clause-shown
returns-in-Err-clause-shown c = λ now s f h a w. h
