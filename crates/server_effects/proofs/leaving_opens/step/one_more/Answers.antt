use Rattle.std.proofs.Common.{◌+◌, ap, arith}
use Rattle.server_effects.specs.declared.leaving_opens.leaving.Left.{Left}
use Rattle.server_effects.proofs.leaving_opens.step.one_more.Goals as goal

pub returns-then-left-count_of : goal.returns-then-left-count_of
returns-then-left-count_of c = λ s o le. ap (λ (x : Left). x.opens + 1) c.of-left.ensures

pub returns-else-left-count_of : goal.returns-else-left-count_of
returns-else-left-count_of c = λ s o le.
    let e = c.count_of.ensures s o in
    let l = ap (λ (x : Left). x.opens) c.of-left.ensures in
    absurd (omega arith)
