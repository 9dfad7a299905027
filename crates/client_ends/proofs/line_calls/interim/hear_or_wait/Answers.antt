use Rattle.client_ends.proofs.line_calls.interim.hear_or_wait.Goals as goal

pub returns-then-encrypts : goal.returns-then-encrypts
returns-then-encrypts c = λ n s. c.hear_sealed.ensures n s c.if-encrypts.true

pub returns-else-encrypts : goal.returns-else-encrypts
returns-else-encrypts c = λ n s. c.hear_plain.ensures n s c.if-encrypts.false
