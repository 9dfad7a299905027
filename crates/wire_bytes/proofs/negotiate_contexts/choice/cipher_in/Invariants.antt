use Rattle.std.proofs.Common.{◌≡◌, drop}
use Rattle.spec_crypto.specs.sessions.Choice.{cipher_of}
use Rattle.wire_bytes.proofs.negotiate_contexts.choice.cipher_in.Given as goal

abbrev pub invariant-ciphers : goal.invariant-ciphers
invariant-ciphers l = cipher_of l.ciphers ≡ cipher_of (drop l.k l.ciphers)
