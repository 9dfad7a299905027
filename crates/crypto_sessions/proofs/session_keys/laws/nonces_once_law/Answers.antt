use Rattle.crypto_sessions.proofs.session_keys.Repeats.{given_once}
use Rattle.crypto_sessions.proofs.session_keys.laws.nonces_once_law.Goals as goal

pub returns : goal.returns
returns c = λ old behind later last first second small g calls h. given_once old behind later last first second small g calls h
