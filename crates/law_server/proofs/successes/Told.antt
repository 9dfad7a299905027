-- What such a success tells.
use Rattle.std.proofs.Common.{◌≡◌, ℕ, ◌==◌, true, false, List, subst, None}
use Rattle.spec_exchange.specs.Status.{success}
use Rattle.spec_exchange.specs.Commands.{Command, Aside, Unreadable, Setup, Logoff, TreeConnect, TreeDisconnect, Create}
use Rattle.spec_exchange.specs.Commands.{Close, Flush, Read, Write, Lock, Ioctl, ListDirectory, QueryFile, QueryVolume, SetInfo}
use Rattle.spec_exchange.specs.State.{Server, Message, Record, Heard}
use Rattle.spec_exchange.specs.Effects.{apply}
use Rattle.spec_exchange.specs.Verdict.{Verdict, Refuse, Give, KeepRefusal, Repeat, Attach, Make, TurnDown, Tell, Show}
use Rattle.spec_exchange.specs.Verdict.{KeepSlot, PutRanges, Alter, CloseOpen, Challenge, ChallengeBinding, Begin, Join}
use Rattle.spec_exchange.specs.Verdict.{EndSession, AddTree, DropTree}
use Rattle.spec_exchange.specs.Step.{step}
use Rattle.spec_exchange.specs.Network.{answer_to}
use Rattle.law_server.proofs.tables.Doors.{by_verdict, recorded}
use Rattle.law_server.specs.successes.Bodies.{is_simple, IsBodyTold, BodiesAreTold}
use Rattle.law_server.proofs.successes.Checks.{TellsOf, finds_told}

clash : {X : Type 0} (n : ℕ) → (n == success) ≡ false → n ≡ success → X
clash n off is = absurd (let h : true ≡ false = subst (λ i. (i == success) ≡ false) is off in cc)

by_status : (c : Command) (s : Server) (m : Message) (now : ℕ) (records : List Record) (v : Verdict) → TellsOf c v
    → (recorded (apply s m now v) records).reply.status ≡ success → IsBodyTold c (recorded (apply s m now v) records).reply.body
by_status c s m now records (Refuse status) f ok = clash status f ok
by_status c s m now records (TurnDown o status) f ok = clash status f ok
by_status c s m now records (KeepSlot o index number status elements) f ok = clash status f ok
by_status c s m now records (PutRanges o index number ranges elements) f ok = f
by_status c s m now records (Give body) f ok = f
by_status c s m now records (Tell o body) f ok = f
by_status c s m now records (Alter o change body) f ok = f
by_status c s m now records (CloseOpen o body) f ok = f
by_status c s m now records (KeepRefusal guid status) f ok = absurd f
by_status c s m now records (Repeat o r) f ok = absurd f
by_status c s m now records (Attach o r) f ok = absurd f
by_status c s m now records (Make r found action) f ok = absurd f
by_status c s m now records (Show o last body) f ok = f
by_status c s m now records Challenge f ok = absurd f
by_status c s m now records (ChallengeBinding session) f ok = absurd f
by_status c s m now records (Begin session user previous r is_quiet) f ok = absurd f
by_status c s m now records (Join session) f ok = absurd f
by_status c s m now records (EndSession session is_quiet) f ok = absurd f
by_status c s m now records (AddTree pipes) f ok = absurd f
by_status c s m now records DropTree f ok = absurd f

stepped : (s : Server) (now : ℕ) (m : Message) → is_simple m.command ≡ true → m.fault ≡ None
    → (step s now (Heard m)).reply.status ≡ success → IsBodyTold m.command (step s now (Heard m)).reply.body
stepped s now m e fault =
    by_verdict (λ A. A.reply.status ≡ success → IsBodyTold m.command A.reply.body) s now m
    (λ t v records b f. by_status m.command t m now records v (finds_told t m v fault e f))

absent : {X : Type 0} → false ≡ true → X
absent e = absurd (let h : false ≡ true = e in cc)

by_command : (s : Server) (now : ℕ) (m : Message) (c : Command) → is_simple c ≡ true → is_simple m.command ≡ true → m.fault ≡ None
    → (answer_to s now m c).reply.status ≡ success → IsBodyTold m.command (answer_to s now m c).reply.body
by_command s now m (Aside status) i e fault ok = absent i
by_command s now m (Unreadable status) i e fault ok = stepped s now m e fault ok
by_command s now m (Setup request) i e fault ok = stepped s now m e fault ok
by_command s now m Logoff i e fault ok = stepped s now m e fault ok
by_command s now m (TreeConnect share) i e fault ok = stepped s now m e fault ok
by_command s now m TreeDisconnect i e fault ok = stepped s now m e fault ok
by_command s now m (Create request) i e fault ok = stepped s now m e fault ok
by_command s now m (Close file query) i e fault ok = stepped s now m e fault ok
by_command s now m (Flush file) i e fault ok = stepped s now m e fault ok
by_command s now m (Read file at size minimum channel) i e fault ok = stepped s now m e fault ok
by_command s now m (Write file at bytes channel) i e fault ok = stepped s now m e fault ok
by_command s now m (Lock file index number elements) i e fault ok = stepped s now m e fault ok
by_command s now m (Ioctl file code room) i e fault ok = stepped s now m e fault ok
by_command s now m (ListDirectory file class restart single pattern room) i e fault ok = stepped s now m e fault ok
by_command s now m (QueryFile file class room) i e fault ok = stepped s now m e fault ok
by_command s now m (QueryVolume file class room) i e fault ok = stepped s now m e fault ok
by_command s now m (SetInfo file setting) i e fault ok = stepped s now m e fault ok

pub bodies_are_told : BodiesAreTold
bodies_are_told w x e fault ok = by_command w.server w.moment x.message x.message.command e e fault ok
