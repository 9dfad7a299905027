use Rattle.law_crypto.proofs.ntlm.Reading.{answer_reads}
use Rattle.law_crypto.proofs.ntlm.own.answer_law.Goals as goal

pub returns : goal.returns
returns c = λ c first second third v challenge key reads made. answer_reads c first second third v challenge key reads made
