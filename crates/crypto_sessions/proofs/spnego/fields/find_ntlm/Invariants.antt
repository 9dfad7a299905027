use Rattle.std.proofs.Common.{◌<◌, ◌+◌, ◌^◌, length}
use Rattle.crypto_sessions.specs.spnego.Pieces.{der_piece}
use Rattle.crypto_sessions.proofs.spnego.Mechanisms.{IsSearched}
use Rattle.crypto_sessions.proofs.spnego.fields.find_ntlm.Given as goal

abbrev pub invariant-mechanisms : goal.invariant-mechanisms
invariant-mechanisms l = IsSearched (der_piece l.p) (der_piece l.rest) l.found × (l.rest.at + length l.rest.bytes.now < 2 ^ 63)

abbrev pub decreases-mechanisms : goal.decreases-mechanisms
decreases-mechanisms l = length l.rest.bytes.now
