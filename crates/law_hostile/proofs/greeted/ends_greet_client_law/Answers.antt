use Rattle.law_hostile.proofs.greeted.Bytes.{NegotiateReads}
use Rattle.law_hostile.proofs.greeted.Greeting.{ends_greet, requests_own}
use Rattle.law_hostile.proofs.greeted.ends_greet_client_law.Goals as goal

pub returns : goal.returns
returns c =
    let l = c.negotiate_request_law.ensures in
    let law : NegotiateReads = record { one = l.one; whole = l.whole; given = l.given; again = l.again } in
    record { greet = ends_greet law; own = requests_own law }
