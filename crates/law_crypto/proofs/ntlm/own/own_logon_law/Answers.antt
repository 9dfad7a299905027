use Rattle.std.proofs.Common.{◌≡◌, ◌∙◌, refl, sym, ap, Ok, arith}
use Rattle.spec_crypto.specs.tokens.Messages.{Type2Value, type2_in}
use Rattle.spec_crypto.specs.tokens.Acceptor.{challenge_value}
use Rattle.spec_crypto.specs.tokens.Answer.{client_flags, first_message}
use Rattle.law_crypto.proofs.ntlm.Again.{type1_again}
use Rattle.law_crypto.proofs.ntlm.Reading.{challenge_reads, answer_reads, is_answer, same_ok}
use Rattle.law_crypto.proofs.ntlm.Logons.{own_verdict}
use Rattle.law_crypto.proofs.ntlm.own.own_logon_law.Goals as goal

pub returns : goal.returns
unfolding first_message
returns c = λ c users u server second third now v client user long made reads answer.
    let first = type1_again (record { flags = client_flags }) (refl, (omega arith, (omega arith, tt))) in
    let due : type2_in second ≡ Ok (challenge_value (record { flags = client_flags }) server now) = challenge_reads
    first_message server second now (record { flags = client_flags }) long first made in
    let is : v ≡ challenge_value (record { flags = client_flags }) server now = same_ok _ _ (sym reads ∙ due) in
    own_verdict c users u server first_message second third v client.challenge client.key client.ascii user.named
    user.password (ap (λ (x : Type2Value). x.challenge) is)
    (answer_reads c first_message second third v client.challenge client.key reads answer) (is_answer c first_message
    second third v answer).1
