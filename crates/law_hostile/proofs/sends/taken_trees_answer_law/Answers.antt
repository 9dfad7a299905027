use Rattle.law_hostile.proofs.greeted.Bytes.{NegotiateReads}
use Rattle.law_hostile.proofs.greeted.Greeting.{requests_own}
use Rattle.law_hostile.proofs.sends.Trees.{taken_trees}
use Rattle.law_hostile.proofs.sends.taken_trees_answer_law.Goals as goal

pub returns : goal.returns
returns c =
    let l = c.negotiate_request_law.ensures in
    let law : NegotiateReads = record { one = l.one; whole = l.whole; given = l.given; again = l.again } in
    record {
      answers = taken_trees c.headers_law.ensures.lawful c.commands_law.ensures.lawful c.trees_law.ensures.lawful (requests_own law);
    }
