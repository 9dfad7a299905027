use Rattle.wire_commands.specs.values.Meaning.{create_of}
use Rattle.server_plan.proofs.reserving.Made.{emptied_for, left_for}
use Rattle.server_plan.proofs.reserving.make.found_ready.Goals as goal

pub returns-then-empties-clause-shown : goal.returns-then-empties-clause-shown
returns-then-empties-clause-shown c = λ t s now h. emptied_for t s (create_of c.args.request.now) c.args.file
    c.file_attributes.result now c.empties.result c.file_attributes.ensures c.empties.ensures
    c.if-empties.true h

pub returns-clause-shown : goal.returns-clause-shown
returns-clause-shown c = λ t s now h. left_for t s (create_of c.args.request.now) c.args.file now c.empties.result
    c.empties.ensures c.if-empties.false h
