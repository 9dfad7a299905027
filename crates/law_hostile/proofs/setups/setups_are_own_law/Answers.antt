use Rattle.law_hostile.proofs.greeted.Bytes.{NegotiateReads}
use Rattle.law_hostile.proofs.setups.Own.{setups_own}
use Rattle.law_hostile.proofs.setups.setups_are_own_law.Goals as goal

pub returns : goal.returns
returns c =
    let l = c.negotiate_request_law.ensures in
    let law : NegotiateReads = record { one = l.one; whole = l.whole; given = l.given; again = l.again } in
    record { own = setups_own c.resp_law.ensures law }
