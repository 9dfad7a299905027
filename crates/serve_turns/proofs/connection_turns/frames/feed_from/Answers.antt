use Rattle.std.proofs.Common.{◌<◌, length, arith}
use Rattle.serve_turns.proofs.connection_turns.Calls.{feeds_end, feeds_fail, feeds_lack, feeds_more}
use Rattle.serve_turns.proofs.connection_turns.frames.feed_from.Goals as goal

pub returns-in-Ok-eq0 : goal.returns-in-Ok-eq0
returns-in-Ok-eq0 g c =
    let some : 0 < length c.read.new.into = (let same = c.read.auto.into in let room = c.requires.room in omega arith) in
    feeds_end g.L.Link.told g.L.Link.given g.L.Link.left g.L.Link.written g.L.Link.faults g.L.Link.ended c.args.link.now c.read.new.self
    c.args.stream.now c.read.new.into c.in-Ok-eq0.field-0 c.in-Ok-eq0.field-0-test some c.in-Ok-eq0.ensures.given
    c.in-Ok-eq0.ensures.bytes c.in-Ok-eq0.ensures.written c.in-Ok-eq0.ensures.cause c.in-Ok-eq0.ensures.end

pub returns-in-Ok-feed : goal.returns-in-Ok-feed
returns-in-Ok-feed g c =
    feeds_more g.L.Link.told g.L.Link.given g.L.Link.left g.L.Link.written g.L.Link.faults g.L.Link.ended c.args.link.now c.read.new.self
    c.args.stream.now c.feed.new.self c.read.new.into c.in-Ok.count tt c.in-Ok.ensures.given c.in-Ok.ensures.bytes c.in-Ok.ensures.written
    c.in-Ok.ensures.cause c.in-Ok-feed.ensures.ok

pub returns-in-Err-feed : goal.returns-in-Err-feed
returns-in-Err-feed g c =
    feeds_lack g.L.Link.told g.L.Link.given g.L.Link.left g.L.Link.written g.L.Link.faults g.L.Link.ended c.args.link.now c.read.new.self
    c.args.stream.now c.feed.new.self c.read.new.into c.in-Ok.count c.in-Ok.ensures.given c.in-Ok.ensures.bytes c.in-Ok.ensures.written
    c.in-Ok.ensures.cause c.in-Err-feed.ensures.err

pub returns-in-Err : goal.returns-in-Err
returns-in-Err g c =
    feeds_fail g.L.Link.told g.L.Link.given g.L.Link.left g.L.Link.written g.L.Link.faults g.L.Link.ended c.args.link.now c.read.new.self
    c.args.stream.now c.fault_count.result c.in-Err.ensures.failed c.in-Err.ensures.written c.fault_count.ensures
    c.in-Err.ensures.cause.1
