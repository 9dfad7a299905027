use Rattle.std.proofs.Common.{◌≡◌, ◌∙◌, ℕ, ap, sym, length, drop, arith}
use Rattle.spec_crypto.specs.sessions.Choice.{cipher_of}
use Rattle.wire_bytes.proofs.negotiate_contexts.Firsts.{cipher_none}
use Rattle.wire_bytes.proofs.negotiate_contexts.choice.cipher_in.Goals as goal

pub returns : goal.returns
returns c =
    let all = c.args.ciphers.now in
    let end : c.ciphers.k ≡ length all = (let a = c.ciphers.auto.k-end in let b = c.ciphers-test.false in omega arith) in
    sym (c.ciphers.invariant ∙ (ap (λ (k : ℕ). cipher_of (drop k all)) end ∙ cipher_none all))
