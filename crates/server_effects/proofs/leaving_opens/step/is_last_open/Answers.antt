use Rattle.std.proofs.Common.{ap, arith}
use Rattle.std.proofs.lemmas.Bool.Decides.{nat_tests}
use Rattle.server_effects.specs.declared.leaving_opens.leaving.Left.{Left}
use Rattle.server_effects.proofs.leaving_opens.step.is_last_open.Goals as goal

pub returns : goal.returns
returns c = λ s o.
    let e = c.count_of.ensures s o in
    let l = ap (λ (x : Left). x.opens) c.of.ensures in
    let k = c.saturating_sub.ensures in
    grind (arith, nat_tests)
