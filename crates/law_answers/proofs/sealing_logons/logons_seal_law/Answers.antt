use Rattle.law_answers.proofs.sealing_logons.Runs.{seals_have_ciphers}
use Rattle.law_answers.proofs.sealing_logons.logons_seal_law.Goals as goal

pub returns : goal.returns
returns c = record { seals = seals_have_ciphers }
