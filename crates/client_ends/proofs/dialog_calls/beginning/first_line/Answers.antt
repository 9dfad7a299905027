use Rattle.client_ends.proofs.dialog_calls.beginning.first_line.Goals as goal

pub returns : goal.returns
returns c = record {
  talk = λ n purse awaited. c.take_bound.ensures.talk n (c.in_ok-line.ensures.talk n purse awaited);
  keys = c.take_bound.ensures.keys;
  known = c.take_bound.ensures.known c.in_ok-line.ensures.plain;
}
