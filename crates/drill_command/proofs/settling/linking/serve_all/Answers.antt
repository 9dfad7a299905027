use Rattle.std.proofs.Common.{slice_get, ap, subst, true, List, Option}
use Rattle.world_ends.specs.declared.sides.Channel.{Channel}
use Rattle.drill_command.specs.settling.Parts.{IsCount}
use Rattle.world_steps.proofs.events.Coming.{result_as}
use Rattle.drill_command.proofs.settling.Counted.{serves_as}
use Rattle.drill_command.proofs.settling.linking.serve_all.Goals as goal

pub returns : goal.returns
returns c = λ z d h.
    let x = c.args.world.now in
    let counted = subst (λ (o : Option Channel). IsCount true o c.count_of-most.result)
    (ap (λ (v : List Channel). slice_get v c.args.k) c.deref.ensures.value) c.count_of-most.ensures in
    result_as z c.serve_on.new.world c.serve_on.result _ _ (serves_as z x d c.args.k c.count_of-most.result h counted)
    (c.serve_on.ensures z d h)
