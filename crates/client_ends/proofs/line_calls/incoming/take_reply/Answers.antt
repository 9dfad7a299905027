use Rattle.std.proofs.Common.{ℕ, List, Some, subst}
use Rattle.spec_world.specs.Dialog.{if_response, response_in}
use Rattle.client_ends.specs.line_calls.Hearing.{IsLineAnswer, Unheard}
use Rattle.client_ends.proofs.line_calls.Replies.{seals_kept}
use Rattle.client_ends.proofs.line_calls.incoming.take_reply.Goals as goal

pub returns-in-Some : goal.returns-in-Some
returns-in-Some c = λ n s.
    let h = c.in-Some.answer.header in
    let a : IsLineAnswer n c.args.message h c.in-Some.answer.token =
    subst (λ (m : List ℕ). IsLineAnswer n m h c.in-Some.answer.token) c.as_slice.ensures (c.in-Some.ensures n s.0) in (
      a.heard,
      a.waits,
      a.operations,
      (c.pay_in.ensures.shows n s.0, seals_kept c.args.line.now c.pay_in.new.self n h c.pay_in.ensures.keeps s.1),
    )

pub returns-in-None : goal.returns-in-None
returns-in-None c = λ n s.
    (subst (λ (m : List ℕ). Unheard n (if_response (response_in (Some m)))) c.as_slice.ensures (c.in-None.ensures n s.0), s)
