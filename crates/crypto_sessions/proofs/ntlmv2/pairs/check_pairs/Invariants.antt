use Rattle.std.proofs.Common.{◌≡◌, ◌+◌, length}
use Rattle.crypto_sessions.proofs.ntlmv2.Walks.{IsChecked}
use Rattle.crypto_sessions.proofs.ntlmv2.pairs.check_pairs.Given as goal

abbrev pub invariant-pairs : goal.invariant-pairs
invariant-pairs l = IsChecked l.at l.bytes l.place l.rest × (l.place + length l.rest ≡ l.at + length l.bytes)

abbrev pub decreases-pairs : goal.decreases-pairs
decreases-pairs l = length l.rest
