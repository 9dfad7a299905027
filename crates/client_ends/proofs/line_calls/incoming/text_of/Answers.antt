use Rattle.client_ends.proofs.line_calls.incoming.text_of.Goals as goal

pub returns-then-encrypts : goal.returns-then-encrypts
returns-then-encrypts c = λ n s. c.opened_text.ensures n s c.if-encrypts.true

pub returns-else-encrypts : goal.returns-else-encrypts
returns-else-encrypts c = λ n s. c.verified_text.ensures n s c.if-encrypts.false
