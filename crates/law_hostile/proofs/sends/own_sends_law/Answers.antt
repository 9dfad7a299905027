use Rattle.law_hostile.proofs.sends.Runs.{own_sends}
use Rattle.law_hostile.proofs.sends.own_sends_law.Goals as goal

pub returns : goal.returns
returns c = record { sends = own_sends }
