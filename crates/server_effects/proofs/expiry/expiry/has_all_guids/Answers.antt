use Rattle.std.proofs.Common.{arith}
use Rattle.std.proofs.lemmas.Bool.Decides.{nat_tests}
use Rattle.server_effects.proofs.expiry.expiry.has_all_guids.Goals as goal

pub returns : goal.returns
returns c = λ s o.
    let e = c.expired_count.ensures s o in
    grind (arith, nat_tests)
