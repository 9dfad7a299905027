use Rattle.run_command.proofs.Ended.{ends_well}
use Rattle.run_command.specs.Running.{RunsOver}
use Rattle.run_command.proofs.complete.complete_law.Goals as goal

pub returns : goal.returns
returns g c = ends_well (RunsOver g.N.L.Link.told g.N.L.Link.given g.N.L.Link.left g.N.L.Link.written g.N.L.Link.faults g.N.L.Link.ended g.N.Net.faults)
