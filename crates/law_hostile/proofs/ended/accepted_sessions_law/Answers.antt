use Rattle.law_hostile.proofs.ended.Accepted.{accepted_is_begun, accepted_ends_before}
use Rattle.law_hostile.proofs.ended.accepted_sessions_law.Goals as goal

pub returns : goal.returns
returns c =
    record { begun = accepted_is_begun c.resp_law.ensures; before = accepted_ends_before c.resp_law.ensures }
