use Rattle.client_ends.proofs.line_calls.Replies.{headless, message_answers}
use Rattle.client_ends.proofs.line_calls.incoming.answered.Goals as goal

pub returns-in-Some : goal.returns-in-Some
returns-in-Some c = λ n s.
    message_answers n c.args.m.now c.in-Some.header c.answered_by.result c.in-Some.ensures.0 c.in-Some.ensures.1 (c.answered_by.ensures n s)

pub returns-in-None : goal.returns-in-None
returns-in-None c = λ n s. headless n c.args.m.now c.in-None.ensures
