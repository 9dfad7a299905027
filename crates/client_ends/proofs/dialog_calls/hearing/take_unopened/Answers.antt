use Rattle.std.proofs.Common.{Bool, subst}
use Rattle.client_ends.specs.dialog_calls.Ending.{IsLacking}
use Rattle.client_ends.proofs.dialog_calls.hearing.take_unopened.Goals as goal

pub returns : goal.returns
returns c = record {
  refused = c.refuse.ensures;
  lacking = subst (λ (b : Bool). IsLacking c.args.why b) c.if-lacks.false c.is_lacking-lacks.ensures;
}
