-- What the server's answers say, for whichever check answered.
use Rattle.std.proofs.Common.{◌≡◌, ℕ, false, refl}
use Rattle.spec_exchange.specs.Status.{user_session_deleted}
use Rattle.spec_exchange.specs.Commands.{Command, Aside, Unreadable, Setup, Logoff, TreeConnect, TreeDisconnect, Create}
use Rattle.spec_exchange.specs.Commands.{Close, Flush, Read, Write, Lock, Ioctl, ListDirectory, QueryFile, QueryVolume}
use Rattle.spec_exchange.specs.Commands.{SetInfo}
use Rattle.spec_exchange.specs.State.{Server, Message, Heard, Answer}
use Rattle.spec_exchange.specs.Verdict.{Verdict, Refuse, Give, KeepRefusal, Repeat, Attach, Make, TurnDown, Tell, Show}
use Rattle.spec_exchange.specs.Verdict.{KeepSlot, PutRanges, Alter, CloseOpen, Challenge, ChallengeBinding, Begin, Join}
use Rattle.spec_exchange.specs.Verdict.{EndSession, AddTree, DropTree}
use Rattle.spec_exchange.specs.Effects.{apply}
use Rattle.spec_exchange.specs.Step.{step}
use Rattle.spec_exchange.specs.Network.{answer_to}
use Rattle.law_server.proofs.tables.Doors.{by_verdict}

-- a message whose session is gone does nothing
abbrev pub DeletedIsQuiet : Answer → Type 0
DeletedIsQuiet A = A.reply.status ≡ user_session_deleted → A.acted ≡ false

deleted_by : (s : Server) (m : Message) (now : ℕ) (v : Verdict) → DeletedIsQuiet (apply s m now v)
deleted_by s m now (Refuse status) = λ e. refl
deleted_by s m now (Give body) = λ e. refl
deleted_by s m now (KeepRefusal guid status) = λ e. refl
deleted_by s m now (Repeat o r) = λ e. refl
deleted_by s m now (Attach o r) = λ e. refl
deleted_by s m now (Make r found action) = λ e. absurd (cc)
deleted_by s m now (TurnDown o status) = λ e. refl
deleted_by s m now (Tell o body) = λ e. refl
deleted_by s m now (Show o last body) = λ e. refl
deleted_by s m now (KeepSlot o index number status elements) = λ e. refl
deleted_by s m now (PutRanges o index number ranges elements) = λ e. absurd (cc)
deleted_by s m now (Alter o change body) = λ e. absurd (cc)
deleted_by s m now (CloseOpen o body) = λ e. absurd (cc)
deleted_by s m now Challenge = λ e. refl
deleted_by s m now (ChallengeBinding session) = λ e. refl
deleted_by s m now (Begin session user previous r is_quiet) = λ e. absurd (cc)
deleted_by s m now (Join session) = λ e. refl
deleted_by s m now (EndSession session is_quiet) = λ e. absurd (cc)
deleted_by s m now (AddTree pipes) = λ e. refl
deleted_by s m now DropTree = λ e. absurd (cc)

deleted_step : (s : Server) (now : ℕ) (m : Message) → DeletedIsQuiet (step s now (Heard m))
deleted_step s now m = by_verdict DeletedIsQuiet s now m (λ t v records b f. deleted_by t m now v)

pub deleted_is_quiet : (s : Server) (now : ℕ) (m : Message) (c : Command) → DeletedIsQuiet (answer_to s now m c)
deleted_is_quiet s now m (Aside status) = λ e. refl
deleted_is_quiet s now m (Unreadable status) = deleted_step s now m
deleted_is_quiet s now m (Setup request) = deleted_step s now m
deleted_is_quiet s now m Logoff = deleted_step s now m
deleted_is_quiet s now m (TreeConnect share) = deleted_step s now m
deleted_is_quiet s now m TreeDisconnect = deleted_step s now m
deleted_is_quiet s now m (Create request) = deleted_step s now m
deleted_is_quiet s now m (Close file query) = deleted_step s now m
deleted_is_quiet s now m (Flush file) = deleted_step s now m
deleted_is_quiet s now m (Read file at size minimum channel) = deleted_step s now m
deleted_is_quiet s now m (Write file at bytes channel) = deleted_step s now m
deleted_is_quiet s now m (Lock file index number elements) = deleted_step s now m
deleted_is_quiet s now m (Ioctl file code room) = deleted_step s now m
deleted_is_quiet s now m (ListDirectory file class restart single pattern room) = deleted_step s now m
deleted_is_quiet s now m (QueryFile file class room) = deleted_step s now m
deleted_is_quiet s now m (QueryVolume file class room) = deleted_step s now m
deleted_is_quiet s now m (SetInfo file setting) = deleted_step s now m
