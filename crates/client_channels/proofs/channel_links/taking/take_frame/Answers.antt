use Rattle.std.proofs.Common.{refl, ◌∙◌}
use Rattle.client_channels.proofs.channel_links.Coming.{comes_later, fed_none, fed_on}
use Rattle.client_channels.proofs.channel_links.taking.take_frame.Goals as goal

pub loop-init : goal.loop-init
loop-init g c = record {
  room = refl;
  fed = fed_none g.L.Link.told g.L.Link.given g.L.Link.left g.L.Link.written g.L.Link.faults g.L.Link.ended c.args.link.now
      c.args.stream.now;
}

pub loop-preserved : goal.loop-preserved
loop-preserved g c = record {
  room = c.next_or_feed.ensures.length ∙ c.loop.invariant.room;
  fed = fed_on g.L.Link.told g.L.Link.given g.L.Link.left g.L.Link.written g.L.Link.faults g.L.Link.ended c.args.link.now c.loop.link
      c.next_or_feed.new.link c.args.stream.now c.loop.stream c.next_or_feed.new.stream c.loop.invariant.fed
      c.in-None-next_or_feed.ensures.comes;
}

pub returns-in-Some-next_or_feed-clause-comes : goal.returns-in-Some-next_or_feed-clause-comes
returns-in-Some-next_or_feed-clause-comes g c =
    comes_later g.L.Link.told g.L.Link.given g.L.Link.left g.L.Link.written g.L.Link.faults g.L.Link.ended c.args.link.now c.loop.link
    c.next_or_feed.new.link c.args.stream.now c.loop.stream c.next_or_feed.new.stream c.in-Some-next_or_feed.came c.loop.invariant.fed
    c.in-Some-next_or_feed.ensures.comes
