use Rattle.wire_commands.specs.values.Meaning.{message_of}
use Rattle.server_plan.proofs.reserving.Kept.{all_kept}
use Rattle.server_plan.proofs.reserving.make.counted_ready.Goals as goal

pub row_ready-requires : goal.row_ready-requires
row_ready-requires c = c.requires

pub returns-in-Ok-clause-room : goal.returns-in-Ok-clause-room
returns-in-Ok-clause-room c = c.row_ready.ensures.room c.args.m.now.session_id c.args.m.now.connection

pub returns-in-Ok-clause-shown : goal.returns-in-Ok-clause-shown
returns-in-Ok-clause-shown c = λ e s f h a w. c.row_ready.ensures.shown s (message_of c.args.m.now) c.args.action e h
    (c.in-Ok.ensures s h w)

pub returns-in-Ok-clause-plain : goal.returns-in-Ok-clause-plain
returns-in-Ok-clause-plain c = c.row_ready.ensures.plain

pub returns-in-Ok-clause-kept : goal.returns-in-Ok-clause-kept
returns-in-Ok-clause-kept c = c.row_ready.ensures.kept

pub returns-in-Err-clause-shown : goal.returns-in-Err-clause-shown
returns-in-Err-clause-shown c = λ e s f h a w. h

pub returns-in-Err-clause-kept : goal.returns-in-Err-clause-kept
returns-in-Err-clause-kept c = all_kept c.args.t.now
