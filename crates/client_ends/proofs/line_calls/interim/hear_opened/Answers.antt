use Rattle.std.proofs.Common.{List, ℕ, Some, subst}
use Rattle.spec_world.specs.Dialog.{if_response, response_in}
use Rattle.client_ends.specs.line_calls.Interim.{TakesInterim, interim_to}
use Rattle.client_ends.proofs.line_calls.Interims.{gives_answer, gives_error, gives_none}
use Rattle.client_ends.proofs.line_calls.interim.hear_opened.Goals as goal

pub returns-then-taken : goal.returns-then-taken
returns-then-taken c = λ n s.
    gives_none n _ _ c.take_interim-taken.new.line c.take_interim-taken.result c.if-taken.true
    (subst (λ (m : List ℕ). TakesInterim n (interim_to n (if_response (response_in (Some m)))) c.take_interim-taken.new.line
    c.take_interim-taken.result) c.as_slice.ensures (c.take_interim-taken.ensures n s))

pub returns-in-Ok : goal.returns-in-Ok
returns-in-Ok c = λ n s.
    gives_answer n _ _ c.take_interim-taken.new.line c.take_reply.new.line c.take_interim-taken.result c.in-Ok.answer c.if-taken.false
    (subst (λ (m : List ℕ). TakesInterim n (interim_to n (if_response (response_in (Some m)))) c.take_interim-taken.new.line
    c.take_interim-taken.result) c.as_slice.ensures (c.take_interim-taken.ensures n s)) (c.in-Ok.ensures n)

pub returns-in-Err : goal.returns-in-Err
returns-in-Err c = λ n s.
    gives_error n _ _ c.take_interim-taken.new.line c.take_reply.new.line c.take_interim-taken.result c.in-Err.why c.if-taken.false
    (subst (λ (m : List ℕ). TakesInterim n (interim_to n (if_response (response_in (Some m)))) c.take_interim-taken.new.line
    c.take_interim-taken.result) c.as_slice.ensures (c.take_interim-taken.ensures n s)) (c.in-Err.ensures n)
