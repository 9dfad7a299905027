use Rattle.std.proofs.Common.{ℕ, List, Option, sym, subst}
use Rattle.spec_world.specs.Dialog.{if_response, response_in}
use Rattle.client_ends.specs.line_calls.Hearing.{LineHears}
use Rattle.client_ends.proofs.line_calls.Replies.{untold}
use Rattle.client_ends.proofs.line_calls.incoming.hear.Goals as goal

pub returns-in-Ok : goal.returns-in-Ok
returns-in-Ok c = λ n s.
    subst (λ (o : Option (List ℕ)). LineHears n (if_response (response_in o)) c.take_reply.new.line c.take_reply.result)
    (sym (c.in-Ok.ensures n s.1)) (c.take_reply.ensures n s)

pub returns-in-Err : goal.returns-in-Err
returns-in-Err c = λ n s. untold n c.args.line.now _ c.in-Err.why s (c.in-Err.ensures n s.1)
