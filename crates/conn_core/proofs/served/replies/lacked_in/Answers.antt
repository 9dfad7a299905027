use Rattle.std.proofs.Common.{arith}
use Rattle.conn_core.proofs.served.Answers.{lacked_on, lacked_here, lacked_through}
use Rattle.conn_core.proofs.served.replies.lacked_in.Goals as goal

pub loop-answer-preserved : goal.loop-answer-preserved
loop-answer-preserved c = lacked_on c.args.answers.now c.loop-answer.answer-index c.answer-item.result c.lacks.result (grind arith)
    c.answer-item.is c.lacks.ensures c.if-lacks.false c.loop-answer.invariant

pub returns-then-lacks : goal.returns-then-lacks
returns-then-lacks c = lacked_here c.args.answers.now c.loop-answer.answer-index c.answer-item.result c.lacks.result (grind arith)
    c.answer-item.is c.lacks.ensures c.if-lacks.true c.loop-answer.invariant

pub returns : goal.returns
returns c = lacked_through c.args.answers.now c.loop-answer.answer-index (grind arith) c.loop-answer.invariant
