use Rattle.std.proofs.Common.{◌≡◌, drop}
use Rattle.spec_crypto.specs.sessions.Choice.{signing_of}
use Rattle.wire_bytes.proofs.negotiate_contexts.choice.signing_in.Given as goal

abbrev pub invariant-signings : goal.invariant-signings
invariant-signings l = signing_of l.signings ≡ signing_of (drop l.k l.signings)
