use Rattle.std.proofs.Common.{◌≡◌, true}
use Rattle.spec_crypto.specs.tokens.Acceptor.{ascii_below}
use Rattle.crypto_sessions.proofs.ntlmv2.acceptor.is_ascii.Given as goal

abbrev pub invariant-bytes : goal.invariant-bytes
invariant-bytes l = ascii_below l.bytes l.k ≡ true
