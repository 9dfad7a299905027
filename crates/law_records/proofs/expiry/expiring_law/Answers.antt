use Rattle.spec_exchange.specs.Records.{origin_at}
use Rattle.spec_exchange.specs.Step.{carried_out, connection_of, expire, expire_records, ruling}
use Rattle.law_records.proofs.expiry.Fit.{same_fits, unfit_both}
use Rattle.law_records.proofs.expiry.Step.{Dated, alone_by, behind_by, none_by, records_by, unfit_by}
use Rattle.law_records.proofs.expiry.expiring_law.Goals as goal

pub returns : goal.returns
returns c =
    let k = c.dated_law.ensures in
    let law : Dated = record { ruled = k.ruled; owed = k.owed; front = k.front; expired = k.expired } in record {
      alone = alone_by law;
      records = records_by law;
      none = none_by;
      behind = λ s now o e h k f. behind_by law s now o e h k f;
      unfit = unfit_by law;
      front = λ s now o e f.
          unfit_both s (expire_records s (origin_at (connection_of e)) o) (carried_out (expire s o) now (ruling (expire s o) e)).records f;
      counted = λ s o rs. same_fits s (expire s o) rs (c.carried_law.ensures.expired s o) (c.carried_law.ensures.limited s o);
    }
