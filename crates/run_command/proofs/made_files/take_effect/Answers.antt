use Rattle.run_command.proofs.Made.{cut_off, quiet, wrote}
use Rattle.run_command.proofs.made_files.take_effect.Goals as goal

pub returns-in-Write : goal.returns-in-Write
returns-in-Write c =
    wrote c.write_at.result c.args.op.now c.in-Write.create c.in-Write.at c.in-Write.bytes c.as_slice.result.now c.args.content.now
    c.write_at.new.content c.in-Write.is c.as_slice.ensures c.write_at.ensures

pub returns-in-SetEnd : goal.returns-in-SetEnd
returns-in-SetEnd c =
    cut_off c.args.op.now c.in-SetEnd.create c.in-SetEnd.length c.args.content.now c.set_end.new.self c.in-SetEnd.is
    c.set_end.ensures.shown

pub returns-in_default : goal.returns-in_default
returns-in_default c = quiet c.args.op.now c.args.content.now c.in_default.not-Write c.in_default.not-SetEnd
