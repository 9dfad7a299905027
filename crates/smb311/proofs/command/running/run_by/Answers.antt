use Rattle.std.proofs.Common.{None, Some, refl}
use Rattle.run_command.specs.Running.{RunsOver}
use Rattle.smb311.proofs.command.Said.{as_run, never_none}
use Rattle.smb311.proofs.command.running.run_by.Goals as goal

pub returns-in-Some-clause-ends : goal.returns-in-Some-clause-ends
returns-in-Some-clause-ends g c =
    as_run (RunsOver g.N.L.Link.told g.N.L.Link.given g.N.L.Link.left g.N.L.Link.written g.N.L.Link.faults g.N.L.Link.ended
    g.N.Net.faults) _ _ _ _ _ _ _ _ _ _ _ _ (Some c.in-Some.at) _ c.run_at.result.status c.in-Some.ensures c.run_at.ensures

pub returns-in-Some-clause-words_first : goal.returns-in-Some-clause-words_first
returns-in-Some-clause-words_first g c = λ e. absurd (never_none _ _ c.in-Some.ensures e)

pub returns-in-None-clause-ends : goal.returns-in-None-clause-ends
returns-in-None-clause-ends g c =
    as_run (RunsOver g.N.L.Link.told g.N.L.Link.given g.N.L.Link.left g.N.L.Link.written g.N.L.Link.faults g.N.L.Link.ended
    g.N.Net.faults) _ _ _ _ _ _ _ _ _ _ _ _ None _ c.run_nothing.result.status c.in-None.ensures
    (refl, refl, c.run_nothing.ensures.net, c.run_nothing.ensures.prints)

pub returns-in-None-clause-words_first : goal.returns-in-None-clause-words_first
returns-in-None-clause-words_first g c = λ e. refl
