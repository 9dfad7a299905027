use Rattle.world_steps.proofs.events.Coming.{result_as}
use Rattle.drill_command.proofs.settling.Rounds.{pushed}
use Rattle.drill_command.proofs.settling.linking.push_one.Goals as goal

pub returns : goal.returns
returns c = λ z d h. result_as z c.go.new.world c.go.result _ _ (pushed z d c.args.k) (c.go.ensures z d h)
