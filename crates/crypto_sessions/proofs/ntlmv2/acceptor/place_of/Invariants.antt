use Rattle.crypto_sessions.proofs.ntlmv2.Named.{SoFar}
use Rattle.crypto_sessions.proofs.ntlmv2.acceptor.place_of.Given as goal

abbrev pub invariant-users : goal.invariant-users
invariant-users l = SoFar l.name l.users l.k l.place
