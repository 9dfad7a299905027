use Rattle.law_hostile.proofs.ids.Frames.{own_requests_meant}
use Rattle.law_hostile.proofs.meant.own_requests_law.Goals as goal

pub returns : goal.returns
returns c = record { meant = own_requests_meant }
