use Rattle.std.proofs.Common.{Bool, true, if◌then◌else◌, refl, sym, ap, ◌∙◌}
use Rattle.spec_crypto.specs.sessions.Signing.{verifies}
use Rattle.client_ends.proofs.response_faults.tree.judge_signed.Goals as goal

pub returns-then-encrypts : goal.returns-then-encrypts
returns-then-encrypts c =
    (ap (λ (b : Bool). if b then true else verifies c.args.line.now.keys.signing c.args.m.now) c.if-encrypts.true, refl)

pub returns-then-signed : goal.returns-then-signed
returns-then-signed c = (
  ap (λ (b : Bool). if b then true else verifies c.args.line.now.keys.signing c.args.m.now) c.if-encrypts.false
      ∙ (sym c.verify-signed.ensures ∙ c.if-signed.true),
  refl,
)

pub returns-else-signed : goal.returns-else-signed
returns-else-signed c = (
  ap (λ (b : Bool). if b then true else verifies c.args.line.now.keys.signing c.args.m.now) c.if-encrypts.false
      ∙ (sym c.verify-signed.ensures ∙ c.if-signed.false),
  refl,
)
