use Rattle.client_ends.proofs.line_calls.Texts.{too_short}
use Rattle.client_ends.proofs.line_calls.incoming.verified_text.Goals as goal

pub returns-then-size-lt64 : goal.returns-then-size-lt64
returns-then-size-lt64 c = λ n s plain. too_short c.args.line.now n c.args.frame.now s plain c.if-size-lt64.true
