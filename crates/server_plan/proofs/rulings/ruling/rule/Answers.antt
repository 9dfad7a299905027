use Rattle.server_plan.proofs.rulings.Ruled.{absent_of, accept_ruled, end_ruled, faulty_of, is_heard, said_ruled, stop_ruled}
use Rattle.server_plan.proofs.rulings.ruling.rule.Goals as goal

pub returns-in-Ok-clause-ruled : goal.returns-in-Ok-clause-ruled
returns-in-Ok-clause-ruled c = λ s f h. said_ruled s c.args.asked.now _ _ c.in-Ok.verdict c.in-Says.is
    (c.in-Ok.ensures.verdict s f h)

pub returns-in-Err-clause-sure : goal.returns-in-Err-clause-sure
returns-in-Err-clause-sure c = λ n. absurd (is_heard c.args.asked.now _ _ c.in-Says.is n)

pub returns-in-Err-clause-absent : goal.returns-in-Err-clause-absent
returns-in-Err-clause-absent c = λ s m h e n. c.in-Err.ensures.absent s h (absent_of s c.args.asked.now _ _ m c.in-Says.is e n)

pub returns-in-Err-clause-faulty : goal.returns-in-Err-clause-faulty
returns-in-Err-clause-faulty c = λ m e n. c.in-Err.ensures.faulty (faulty_of c.args.asked.now _ _ m c.in-Says.is e n)

pub returns-in-Accept-clause-ruled : goal.returns-in-Accept-clause-ruled
returns-in-Accept-clause-ruled c = λ s f h. accept_ruled s c.args.asked.now _ c.on_accept.result c.in-Accept.is
    (c.on_accept.ensures s h)

pub returns-in-End-clause-ruled : goal.returns-in-End-clause-ruled
returns-in-End-clause-ruled c = λ s f h. end_ruled s c.args.asked.now _ c.in-End.is

pub returns-in-Stop-clause-ruled : goal.returns-in-Stop-clause-ruled
returns-in-Stop-clause-ruled c = λ s f h. stop_ruled s c.args.asked.now c.in-Stop.is
