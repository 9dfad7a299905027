use Rattle.std.proofs.Common.{◌≡◌, drop}
use Rattle.conn_core.specs.served.Replies.{some_lacked}
use Rattle.conn_core.proofs.served.replies.lacked_in.Given as goal

abbrev pub invariant-loop-answer : goal.invariant-loop-answer
invariant-loop-answer l = some_lacked (drop l.answer-index l.answers) ≡ some_lacked l.answers
