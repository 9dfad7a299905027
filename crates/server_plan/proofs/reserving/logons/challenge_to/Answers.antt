use Rattle.server_checks.specs.session_table.Logons.{begun_of}
use Rattle.server_plan.proofs.reserving.Steps.{made_challenge}
use Rattle.server_plan.proofs.reserving.logons.challenge_to.Goals as goal

pub returns : goal.returns
returns c = let k = c.gathered.ensures in made_challenge (begun_of c.args.begun.now) c.args.fresh c.args.now _ _ _ _ _ _
    c.in_ok-list.ensures
    k.0 k.1 k.2 c.in_ok-made.ensures.kept c.in_ok-made.ensures.token
