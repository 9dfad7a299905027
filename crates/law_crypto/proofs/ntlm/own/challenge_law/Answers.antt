use Rattle.law_crypto.proofs.ntlm.Reading.{challenge_reads}
use Rattle.law_crypto.proofs.ntlm.own.challenge_law.Goals as goal

pub returns : goal.returns
returns c = λ first server second now v long reads made. challenge_reads first server second now v long reads made
