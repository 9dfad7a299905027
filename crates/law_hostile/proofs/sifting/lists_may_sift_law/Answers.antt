use Rattle.law_hostile.proofs.sifting.OfConnections.{connections_sift}
use Rattle.law_hostile.proofs.sifting.OfSessions.{sessions_sift}
use Rattle.law_hostile.proofs.sifting.OfKinds.{kinds_sift}
use Rattle.law_hostile.proofs.sifting.OfCreates.{creates_sift}
use Rattle.law_hostile.proofs.sifting.OfLocks.{locks_sift}
use Rattle.law_hostile.proofs.sifting.OfNewest.{newest_sifts}
use Rattle.law_hostile.proofs.sifting.lists_may_sift_law.Goals as goal

pub returns-clause-connections : goal.returns-clause-connections
returns-clause-connections c = connections_sift

pub returns-clause-sessions : goal.returns-clause-sessions
returns-clause-sessions c = sessions_sift

pub returns-clause-kinds : goal.returns-clause-kinds
returns-clause-kinds c = kinds_sift

pub returns-clause-creates : goal.returns-clause-creates
returns-clause-creates c = creates_sift

pub returns-clause-locks : goal.returns-clause-locks
returns-clause-locks c = locks_sift

pub returns-clause-newest : goal.returns-clause-newest
returns-clause-newest c = newest_sifts
