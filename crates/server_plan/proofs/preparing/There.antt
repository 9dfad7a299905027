-- A new open's session is there, where its records can be told.
use Rattle.spec_exchange.specs.State.{Message, Server}
use Rattle.spec_exchange.specs.Verdict.{Verdict, Refuse, Give, KeepRefusal, Repeat, Attach, Make, TurnDown, Tell, Show}
use Rattle.spec_exchange.specs.Verdict.{KeepSlot, PutRanges, Alter, CloseOpen, Challenge, ChallengeBinding, Begin, Join}
use Rattle.spec_exchange.specs.Verdict.{EndSession, AddTree, DropTree}
use Rattle.server_plan.specs.owed_records.Owing.{Owing}
use Rattle.server_plan.specs.reserving.Readies.{SessionIsThere}

pub there_by : (s : Server) (m : Message) (v : Verdict) → Owing s m v → SessionIsThere s m v
there_by s m (Refuse status) h = tt
there_by s m (Give body) h = tt
there_by s m (KeepRefusal guid status) h = tt
there_by s m (Repeat o r) h = tt
there_by s m (Attach o r) h = tt
there_by s m (Make r found action) h = h.1
there_by s m (TurnDown o status) h = tt
there_by s m (Tell o body) h = tt
there_by s m (Show o last body) h = tt
there_by s m (KeepSlot o index number status elements) h = tt
there_by s m (PutRanges o index number ranges elements) h = tt
there_by s m (Alter o change body) h = tt
there_by s m (CloseOpen o body) h = tt
there_by s m Challenge h = tt
there_by s m (ChallengeBinding session) h = tt
there_by s m (Begin session user previous r is_quiet) h = tt
there_by s m (Join session) h = tt
there_by s m (EndSession session is_quiet) h = tt
there_by s m (AddTree pipes) h = tt
there_by s m DropTree h = tt
