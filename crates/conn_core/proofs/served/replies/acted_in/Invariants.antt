use Rattle.std.proofs.Common.{◌≡◌, drop}
use Rattle.conn_core.specs.served.Replies.{some_acted}
use Rattle.conn_core.proofs.served.replies.acted_in.Given as goal

abbrev pub invariant-loop-answer : goal.invariant-loop-answer
invariant-loop-answer l = some_acted (drop l.answer-index l.answers) ≡ some_acted l.answers
