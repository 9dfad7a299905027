use Rattle.std.proofs.Common.{◌≤◌, length, arith}
use Rattle.drill_command.proofs.Summed.{bytes_all, bytes_more}
use Rattle.drill_command.proofs.summing.bytes_of.Goals as goal

pub loop-place-preserved : goal.loop-place-preserved
loop-place-preserved c =
    bytes_more c.args.files.now c.loop-place.place c.file_at-file.result.now c.loop-place.bytes c.in_ok-more.more _ c.file_at-file.ensures
    c.in_ok-more.ensures c.loop-place.invariant

pub returns : goal.returns
returns c =
    let past : length c.args.files.now ≤ c.loop-place.place = (let t = c.loop-place-test.false in omega arith) in
    bytes_all c.args.files.now c.loop-place.place c.loop-place.bytes _ past c.loop-place.invariant
