use Rattle.std.proofs.Common.{◌<◌, length, rules}
use Rattle.base_outside.proofs.streams.Written.{put_done}
use Rattle.base_outside.proofs.streams.mem_disk.put.Goals as goal

pub returns-clause-ok : goal.returns-clause-ok
returns-clause-ok c =
    let some : 0 < length c.args.from.now = search rules in
    put_done
    c.args.bytes.now.items
    c.args.from.now
    c.lengthen.new.bytes.items
    c.overwrite.new.bytes
    c.args.at
    c.in-Some.end
    c.saturating_sub.result
    c.lengthen.new.bytes.len
    some
    (search rules)
    (search rules)
    c.in_ok-lengthen.ensures.ok
    (search rules)
    (search rules)
