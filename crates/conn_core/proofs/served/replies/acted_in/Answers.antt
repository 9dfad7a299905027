use Rattle.std.proofs.Common.{arith}
use Rattle.conn_core.proofs.served.Answers.{acted_on, acted_here, acted_through}
use Rattle.conn_core.proofs.served.replies.acted_in.Goals as goal

pub loop-answer-preserved : goal.loop-answer-preserved
loop-answer-preserved c = acted_on c.args.answers.now c.loop-answer.answer-index c.answer-item.result c.acts.result (grind arith)
    c.answer-item.is c.acts.ensures c.if-acts.false c.loop-answer.invariant

pub returns-then-acts : goal.returns-then-acts
returns-then-acts c = acted_here c.args.answers.now c.loop-answer.answer-index c.answer-item.result c.acts.result (grind arith)
    c.answer-item.is c.acts.ensures c.if-acts.true c.loop-answer.invariant

pub returns : goal.returns
returns c = acted_through c.args.answers.now c.loop-answer.answer-index (grind arith) c.loop-answer.invariant
