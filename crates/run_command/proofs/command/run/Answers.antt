use Rattle.run_command.specs.Running.{RunsOver}
use Rattle.run_command.proofs.Gone.{gone}
use Rattle.run_command.proofs.command.run.Goals as goal

pub returns-in-Ok : goal.returns-in-Ok
returns-in-Ok g c =
    gone (RunsOver g.N.L.Link.told g.N.L.Link.given g.N.L.Link.left g.N.L.Link.written g.N.L.Link.faults g.N.L.Link.ended g.N.Net.faults)
    c.seed_from-seed.result _ c.guid_from-guid.result _ _ _ _ _ _ _ _ _ _ _ c.args.net c.run_script.result.net c.in-Ok.script
    c.run_script.result.ending c.seed_from-seed.ensures.seed (rw c.seed_from-seed.ensures.rest at c.guid_from-guid.ensures) c.in-Ok.ensures
    c.run_script.ensures
