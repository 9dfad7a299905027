use Rattle.law_hostile.proofs.ended.Standing.{servers_stand, sessions_over}
use Rattle.law_hostile.proofs.ended.servers_stand_law.Goals as goal

pub returns : goal.returns
returns c = record { stand = servers_stand; over = sessions_over }
