use Rattle.spec_world.specs.Dialog.{if_response, response_in}
use Rattle.std.proofs.Common.{Some}
use Rattle.client_ends.proofs.line_calls.Interims.{answered_interim, unheard_interim}
use Rattle.client_ends.proofs.line_calls.interim.interim.Goals as goal

pub returns-in-Some : goal.returns-in-Some
returns-in-Some c = λ n s.
    answered_interim n c.args.m.now c.in-Some.found.header c.in-Some.found.token c.pending_only.result (c.in-Some.ensures n s) c.pending_only.ensures

pub returns-in-None : goal.returns-in-None
returns-in-None c = λ n s. unheard_interim n (if_response (response_in (Some c.args.m.now))) (c.in-None.ensures n s)
