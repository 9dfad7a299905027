use Rattle.std.proofs.Common.{length}
use Rattle.crypto_sessions.proofs.ntlmv2.Walks.{IsSearched}
use Rattle.crypto_sessions.proofs.ntlmv2.pairs.pair_of.Given as goal

abbrev pub invariant-pairs : goal.invariant-pairs
invariant-pairs l = IsSearched l.id l.bytes l.rest

abbrev pub decreases-pairs : goal.decreases-pairs
decreases-pairs l = length l.rest
