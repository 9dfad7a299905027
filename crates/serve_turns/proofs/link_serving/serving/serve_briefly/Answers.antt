use Rattle.std.proofs.Common.{ap}
use Rattle.serve_turns.proofs.link_serving.Rolls.{at_once_served, new_seat}
use Rattle.serve_turns.specs.link_serving.Passage.{IsLinkAt, IsOfLink, ServesOver}
use Rattle.serve_turns.proofs.link_serving.serving.serve_briefly.Goals as goal

pub returns-clause-served : goal.returns-clause-served
returns-clause-served g c = λ before others sent running here was.
    let roll = c.args.roll.now in
    let link = c.args.link.now in
    let from = c.seat-seat.result.seat.me.0 in
    let made = c.seat-seat.new.from.seat.me.0 in
    let to = c.serve-end.new.seat.seat.me.0 in
    let s = c.serve-end.ensures in
    at_once_served (ServesOver
    (IsOfLink g.L.Link.told g.L.Link.given g.L.Link.left g.L.Link.written g.L.Link.faults g.L.Link.ended g.L.Link.number before others
    sent)
    (g.S.Service.serves c.args.service.now)) (IsLinkAt g.L.Link.told g.L.Link.number g.L.Link.left before others sent)
    roll.ends.items c.entered.new.roll.ends.items c.args.place from.number to.number link roll.seat.seat.me.0 made
    c.entered.new.roll.seat.seat.me.0
    (c.entered.ensures.served from link c.serve-end.new.link
    (new_seat made.opening from.number roll.seat.seat.me.0 from c.seat-seat.ensures.newcomer (ap (λ x. x.opening) c.seat-seat.ensures.made))
    s.same.2 c.requires.fresh s.serves before others sent)
    (ap (λ x. x.1.0) s.same.2) c.seat-seat.ensures.made running here was
