use Rattle.std.proofs.Common.{◌≡◌, ◌∙◌, ℕ, ap, sym, length, drop, arith}
use Rattle.spec_crypto.specs.sessions.Choice.{signing_of}
use Rattle.wire_bytes.proofs.negotiate_contexts.Firsts.{signing_none}
use Rattle.wire_bytes.proofs.negotiate_contexts.choice.signing_in.Goals as goal

pub returns : goal.returns
returns c =
    let all = c.args.signings.now in
    let end : c.signings.k ≡ length all = (let a = c.signings.auto.k-end in let b = c.signings-test.false in omega arith) in
    sym (c.signings.invariant ∙ (ap (λ (k : ℕ). signing_of (drop k all)) end ∙ signing_none all))
