use Rattle.serve_turns.proofs.link_serving.Overs.{over_new}
use Rattle.serve_turns.proofs.link_serving.Rolls.{entered_others, entered_served}
use Rattle.serve_turns.specs.link_serving.Passage.{IsLinkAt, IsOfLink, ServesOver}
use Rattle.serve_turns.proofs.link_serving.serving.entered.Goals as goal

pub returns-clause-served : goal.returns-clause-served
returns-clause-served g c = λ from link behind is_new lasts fresh serves before others sent running rest count left old.
    let roll = c.args.roll.now in
    let e = c.put_end.ensures in
    entered_served (ServesOver
    (IsOfLink g.L.Link.told g.L.Link.given g.L.Link.left g.L.Link.written g.L.Link.faults g.L.Link.ended g.L.Link.number before others
    sent)
    (g.S.Service.serves c.args.service.now)) (IsLinkAt g.L.Link.told g.L.Link.number g.L.Link.left before others sent)
    roll.ends.items c.put_end.new.ends.items c.args.place c.args.end e.inside e.past running rest count link from c.args.seat.seat.me.0
    roll.seat.seat.me.0 c.rejoin.new.seat.seat.me.0 c.rejoin.ensures.rejoined is_new lasts
    (over_new g.L.Link.told g.L.Link.given g.L.Link.left g.L.Link.written g.L.Link.faults g.L.Link.ended g.L.Link.number
    (g.S.Service.serves c.args.service.now) before others sent c.args.place from link c.args.end c.args.seat.seat.me.0 behind fresh serves)
    left old

pub returns-clause-others : goal.returns-clause-others
returns-clause-others g c =
    let roll = c.args.roll.now in
    let e = c.put_end.ensures in
    entered_others roll.ends.items c.put_end.new.ends.items c.args.place c.args.end e.inside e.past
