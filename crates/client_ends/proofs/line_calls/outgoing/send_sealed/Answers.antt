use Rattle.client_ends.proofs.line_calls.Sent.{keeps_all}
use Rattle.client_ends.proofs.line_calls.outgoing.send_sealed.Goals as goal

pub send_under-requires : goal.send_under-requires
send_under-requires c = record {
  request = c.requires.request;
  room = c.requires.room;
  held = c.requires.held;
  seals = c.requires.seals;
  cipher = c.has_cipher-ciphered.ensures.yes c.if-ciphered.true;
}

pub returns-else-ciphered : goal.returns-else-ciphered
returns-else-ciphered c = record {
  sends = λ n m charge s r e. absurd (c.has_cipher-ciphered.ensures.none c.if-ciphered.false (s.1.sealing c.requires.seals));
  counts = keeps_all c.args.line.now;
}
