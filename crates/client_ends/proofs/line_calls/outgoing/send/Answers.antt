use Rattle.client_ends.proofs.line_calls.Sent.{affords, as_before, keeps_all, line_counts_behind, too_dear}
use Rattle.client_ends.proofs.line_calls.outgoing.send.Goals as goal

pub returns-then-held-cost : goal.returns-then-held-cost
returns-then-held-cost c = record {
  sends = λ n m charge s r e.
      let d = too_dear c.args.line.now n c.args.request.now.header.charge charge c.credits-held.result c.cost_of-cost.result s r.costs
      c.credits-held.ensures c.cost_of-cost.ensures c.if-held-cost.true in
      (d.0, d.1, s);
  counts = keeps_all c.args.line.now;
}

pub send_paid-requires : goal.send_paid-requires
send_paid-requires c = record {
  request = c.requires;
  room = c.in-Ok.ensures.room;
  held =
      affords c.args.request.now.header.charge c.credits-held.result c.cost_of-cost.result c.args.line.now.purse
      c.reserve.new.self.purse c.credits-held.ensures c.cost_of-cost.ensures c.reserve.ensures.purse c.if-held-cost.false;
}

pub returns-in-Ok : goal.returns-in-Ok
returns-in-Ok c = record {
  sends = λ n m charge s r e.
      c.send_paid.ensures.sends n m charge (as_before c.args.line.now c.reserve.new.self n c.reserve.ensures.shows c.reserve.ensures.keeps s) r e;
  counts = line_counts_behind c.args.line.now c.reserve.new.self c.send_paid.new.line c.send_paid.result c.reserve.ensures.keeps
      c.send_paid.ensures.counts;
}

pub returns-in-Err : goal.returns-in-Err
returns-in-Err c = record {
  sends = λ n m charge s r e. as_before c.args.line.now c.reserve.new.self n c.reserve.ensures.shows c.reserve.ensures.keeps s;
  counts = c.reserve.ensures.keeps;
}
