use Rattle.law_runs.proofs.logons.Shown.{Laws}
use Rattle.law_runs.proofs.logons.Logged.{tokens}
use Rattle.law_runs.proofs.logons.tokens_law.Goals as goal

pub returns : goal.returns
returns c =
    let laws : Laws = record {
      resp = c.resp_law.ensures;
      challenge = c.challenge_law.ensures;
      answer = c.answer_law.ensures;
      logon = c.own_logon_law.ensures;
    } in
    record { lawful = tokens laws }
