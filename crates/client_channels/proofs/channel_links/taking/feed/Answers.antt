use Rattle.std.proofs.Common.{◌<◌, length, arith}
use Rattle.client_channels.proofs.channel_links.Coming.{feeds_end, feeds_fail, feeds_lack, feeds_more}
use Rattle.client_channels.proofs.channel_links.taking.feed.Goals as goal

pub returns-in-Ok-eq0-clause-feeds : goal.returns-in-Ok-eq0-clause-feeds
returns-in-Ok-eq0-clause-feeds g c =
    let some : 0 < length c.read.new.into = (let same = c.read.auto.into in let room = c.requires in omega arith) in
    feeds_end g.L.Link.told g.L.Link.given g.L.Link.left g.L.Link.written g.L.Link.faults g.L.Link.ended c.args.link.now c.read.new.self
    c.args.stream.now c.read.new.into c.in-Ok-eq0.field-0 c.in-Ok-eq0.field-0-test some c.in-Ok-eq0.ensures.bytes c.in-Ok-eq0.ensures.given
    c.in-Ok-eq0.ensures.written c.in-Ok-eq0.ensures.end

pub returns-in-Ok-feed-clause-feeds : goal.returns-in-Ok-feed-clause-feeds
returns-in-Ok-feed-clause-feeds g c =
    feeds_more g.L.Link.told g.L.Link.given g.L.Link.left g.L.Link.written g.L.Link.faults g.L.Link.ended c.args.link.now c.read.new.self
    c.args.stream.now c.feed.new.self _ c.in-Ok.ensures.given (λ t. (c.in-Ok.ensures.bytes t).next) c.in-Ok.ensures.written
    c.in-Ok.ensures.cause c.in-Ok-feed.ensures.ok

pub returns-in-Err-feed-clause-feeds : goal.returns-in-Err-feed-clause-feeds
returns-in-Err-feed-clause-feeds g c =
    feeds_lack g.L.Link.told g.L.Link.given g.L.Link.left g.L.Link.written g.L.Link.faults g.L.Link.ended c.args.link.now c.read.new.self
    c.args.stream.now c.feed.new.self _ c.in-Ok.ensures.given (λ t. (c.in-Ok.ensures.bytes t).next) c.in-Ok.ensures.written

pub returns-in-Err-clause-feeds : goal.returns-in-Err-clause-feeds
returns-in-Err-clause-feeds g c =
    feeds_fail g.L.Link.told g.L.Link.given g.L.Link.left g.L.Link.written g.L.Link.faults g.L.Link.ended c.args.link.now c.read.new.self
    c.args.stream.now c.in-Err.ensures.failed c.in-Err.ensures.written c.in-Err.ensures.cause.1
