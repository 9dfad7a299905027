use Rattle.std.proofs.Common.{ap}
use Rattle.law_records.proofs.effects.Counts.{carried_same, expired_same}
use Rattle.law_records.proofs.effects.carried_law.Goals as goal

pub returns : goal.returns
returns c =
    record {
      counts = λ s now r. ap (λ x. x.0) (carried_same s now r);
      limits = λ s now r. ap (λ x. x.1) (carried_same s now r);
      expired = λ s o. ap (λ x. x.0) (expired_same s o);
      limited = λ s o. ap (λ x. x.1) (expired_same s o);
    }
