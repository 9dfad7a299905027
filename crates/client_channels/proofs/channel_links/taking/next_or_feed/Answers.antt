use Rattle.client_channels.proofs.channel_links.Coming.{comes_by_feed, comes_next, fed_none}
use Rattle.client_channels.proofs.channel_links.taking.next_or_feed.Goals as goal

pub returns-in-Some-clause-comes : goal.returns-in-Some-clause-comes
returns-in-Some-clause-comes g c =
    comes_next g.L.Link.told g.L.Link.given g.L.Link.left g.L.Link.written g.L.Link.faults g.L.Link.ended c.args.link.now c.args.link.now
    c.args.stream.now c.args.stream.now c.next_of.new.stream c.in-Some.came
    (fed_none g.L.Link.told g.L.Link.given g.L.Link.left g.L.Link.written g.L.Link.faults g.L.Link.ended c.args.link.now
    c.args.stream.now) c.in-Some.ensures

pub returns-in-None-clause-comes : goal.returns-in-None-clause-comes
returns-in-None-clause-comes g c =
    comes_by_feed g.L.Link.told g.L.Link.given g.L.Link.left g.L.Link.written g.L.Link.faults g.L.Link.ended c.args.link.now c.feed.new.link
    c.args.stream.now c.next_of.new.stream c.feed.new.stream c.feed.result c.in-None.ensures.1 c.feed.ensures.feeds
