use Rattle.wire_commands.specs.values.Meaning.{create_of}
use Rattle.server_plan.proofs.reserving.Kept.{tree_others, tree_shown}
use Rattle.server_plan.proofs.reserving.Made.{made_ready, made_room}
use Rattle.server_plan.proofs.reserving.make.with_file.Goals as goal

pub returns-in-Ok-clause-room : goal.returns-in-Ok-clause-room
returns-in-Ok-clause-room c = λ x k h. made_room c.args.t.now c.file_ready.new.t x k c.in-Ok.file c.args.row
    c.in-Ok.ensures.kept c.in-Ok.ensures.room h

pub returns-in-Ok-clause-shown : goal.returns-in-Ok-clause-shown
returns-in-Ok-clause-shown c = λ s m action e h i. made_ready c.file_ready.new.t s m (create_of c.args.request.now)
    c.args.found action c.args.now
    c.in-Ok.file c.args.row e (tree_others c.args.t.now c.file_ready.new.t s c.in-Ok.ensures.kept h) (c.in-Ok.ensures.shown s h.files) i

pub returns-in-Ok-clause-kept : goal.returns-in-Ok-clause-kept
returns-in-Ok-clause-kept c = c.in-Ok.ensures.kept

pub returns-in-Err-clause-shown : goal.returns-in-Err-clause-shown
returns-in-Err-clause-shown c = λ s m action e h i. tree_shown c.args.t.now c.file_ready.new.t s c.in-Err.ensures.kept h
    (c.in-Err.ensures.shown s h.files)

pub returns-in-Err-clause-kept : goal.returns-in-Err-clause-kept
returns-in-Err-clause-kept c = c.in-Err.ensures.kept
