use Rattle.crypto_sessions.proofs.ntlmv2.Info.{info_spelled}
use Rattle.crypto_sessions.proofs.ntlmv2.acceptor.info_at.Goals as goal

pub returns : goal.returns
returns c = let e = info_spelled c.args.now in cc
