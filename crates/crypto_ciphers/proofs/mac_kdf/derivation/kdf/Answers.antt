use Rattle.std.proofs.Common.{◌≡◌, ◌++◌, replicate, ⊎_elim, ap, ◌∙◌, arith}
use Rattle.crypto_ciphers.proofs.mac_kdf.Derivations.{derived-128, derived-256}
use Rattle.crypto_ciphers.proofs.mac_kdf.derivation.kdf.Goals as goal

pub returns-then-bits-eq256 : goal.returns-then-bits-eq256
returns-then-bits-eq256 c = derived-256 c.args.key.now c.args.label.now c.args.context.now c.first_output-output.result
    c.args.bits c.if-bits-eq256.true (omega arith) c.first_output-output.ensures

pub returns : goal.returns
returns c =
    let out = c.first_output-output.result in
    let is : c.args.bits ≡ 128 = ⊎_elim (λ e. e) (λ e. absurd (c.if-bits-eq256.false e)) c.requires in
    ap (λ l. l ++ replicate 16 0) c.copy_from_slice.ensures.after ∙ derived-128 c.args.key.now c.args.label.now
    c.args.context.now out c.args.bits is (omega arith) c.first_output-output.ensures
