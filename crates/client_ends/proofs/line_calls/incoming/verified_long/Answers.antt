use Rattle.std.proofs.Common.{List, ℕ, Some, sym, ap, ◌∙◌}
use Rattle.client_ends.proofs.line_calls.Texts.{unverified, verified}
use Rattle.client_ends.proofs.line_calls.incoming.verified_long.Goals as goal

pub returns-in-Ok : goal.returns-in-Ok
returns-in-Ok c = λ n s plain.
    verified c.args.line.now n c.args.frame.now s plain (sym c.verify-verified.ensures ∙ c.if-verified.true)
    ∙ ap (λ (b : List ℕ). Some b) (sym c.in-Ok.ensures)

pub returns-else-verified : goal.returns-else-verified
returns-else-verified c = λ n s plain.
    unverified c.args.line.now n c.args.frame.now s plain (sym c.verify-verified.ensures ∙ c.if-verified.false)
