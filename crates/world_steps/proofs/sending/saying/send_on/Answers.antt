use Rattle.std.proofs.Common.{◌<◌, ◌^◌, length, List, ℕ, Ok, sym, subst}
use Rattle.client_ends.specs.line_calls.Sending.{LineSends}
use Rattle.client_ends.specs.ends.Shown.{token_of}
use Rattle.world_steps.proofs.Refusing.{result_with}
use Rattle.world_steps.proofs.sending.saying.send_on.Goals as goal

pub returns-in-Ok : goal.returns-in-Ok
returns-in-Ok c =
    result_with c.up_of.result
    (λ u is. record {
      token = is.0;
      short = subst (λ (v : List ℕ). length v < 2 ^ 60) (sym is.1) is.2;
      sends = λ n m charge shown asked id.
          subst (λ (v : List ℕ). LineSends n m charge (token_of c.args.request.now.token) c.send.new.line (Ok v)) (sym is.1)
          (c.in-Ok.ensures.sends n m charge shown asked id);
    }) c.up_of.ensures
