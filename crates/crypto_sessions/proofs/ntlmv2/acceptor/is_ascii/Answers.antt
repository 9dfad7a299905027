use Rattle.std.proofs.Common.{◌≡◌, ℕ, length, sym, subst, ◌∙◌, true, false, arith}
use Rattle.spec_crypto.specs.tokens.Acceptor.{ascii_below}
use Rattle.crypto_sessions.proofs.ntlmv2.Texts.{odd_is_not, byte_is_not, none_below, one_more, all_are}
use Rattle.crypto_sessions.proofs.ntlmv2.acceptor.is_ascii.Goals as goal

pub bytes-init : goal.bytes-init
bytes-init c = none_below c.args.bytes.now

pub bytes-preserved : goal.bytes-preserved
bytes-preserved c = one_more c.args.bytes.now c.bytes.k c.bytes.invariant (sym c.is_ascii_at.ensures ∙ c.if-not-is_ascii_at.false)

pub returns-then-bytes-ne0 : goal.returns-then-bytes-ne0
returns-then-bytes-ne0 c = sym (odd_is_not c.args.bytes.now c.if-bytes-ne0.true)

pub returns-then-not-is_ascii_at : goal.returns-then-not-is_ascii_at
returns-then-not-is_ascii_at c = sym (byte_is_not c.args.bytes.now c.bytes.k (omega arith) (sym c.is_ascii_at.ensures ∙
    c.if-not-is_ascii_at.true))

pub returns : goal.returns
returns c =
    let end : c.bytes.k ≡ length c.args.bytes.now = omega arith in
    sym (all_are c.args.bytes.now c.if-bytes-ne0.false (subst (λ (k : ℕ). ascii_below c.args.bytes.now k ≡ true) end c.bytes.invariant))
