use Rattle.std.proofs.Common.{List, subst}
use Rattle.world_ends.specs.declared.sides.Channel.{Channel}
use Rattle.world_steps.specs.sending.Sending.{ChoosesOn}
use Rattle.world_steps.proofs.Refusing.{result_with}
use Rattle.world_steps.proofs.sending.pushing.push_lowest.Goals as goal

pub returns-in-Ok : goal.returns-in-Ok
returns-in-Ok c =
    result_with c.go_out.result
    (λ u goes. record {
      told = c.in-Ok.act;
      chosen = subst (λ (v : List Channel). ChoosesOn c.args.client.now v c.args.k c.in-Ok.act c.choose.new.client) c.as_slice.ensures.value
          c.in-Ok.ensures;
      goes = goes;
    }) c.go_out.ensures
