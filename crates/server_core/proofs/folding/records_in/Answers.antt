use Rattle.server_core.proofs.Sound.{caused_of, not_read, read_as, unsound_as}
use Rattle.server_core.proofs.folding.records_in.Goals as goal

pub returns-then-are_sound-clause-read : goal.returns-then-are_sound-clause-read
returns-then-are_sound-clause-read c = read_as c.args.state.now.version c.args.body.now c.as_slice.result.now c.in-Ok.records
    c.as_slice-in-Ok.result.now c.are_sound.result c.as_slice.ensures c.as_slice-in-Ok.ensures c.in-Ok.ensures c.are_sound.ensures
    c.if-are_sound.true

pub returns-else-are_sound-clause-read : goal.returns-else-are_sound-clause-read
returns-else-are_sound-clause-read c = unsound_as c.args.state.now.version c.args.body.now c.as_slice.result.now c.in-Ok.records
    c.as_slice-in-Ok.result.now c.are_sound.result c.as_slice.ensures c.as_slice-in-Ok.ensures c.in-Ok.ensures c.are_sound.ensures
    c.if-are_sound.false

pub returns-in-Err-clause-read : goal.returns-in-Err-clause-read
returns-in-Err-clause-read c = not_read c.args.state.now.version c.args.gate c.args.body.now c.as_slice.result.now c.in-Err.error
    c.cause_of.result c.as_slice.ensures c.cause_of.ensures c.in-Err.ensures

pub returns-in-Err-clause-cause : goal.returns-in-Err-clause-cause
returns-in-Err-clause-cause c = caused_of c.args.gate c.in-Err.error c.cause_of.result c.cause_of.ensures
