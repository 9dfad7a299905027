use Rattle.law_hostile.proofs.ended.Ordering.{accepted_given, accepted_new}
use Rattle.law_hostile.proofs.ended.accepted_once_law.Goals as goal

pub returns : goal.returns
returns c = record { new = accepted_new c.resp_law.ensures; given = accepted_given c.resp_law.ensures }
