-- What the success of a CREATE tells.
use Rattle.std.proofs.Common.{◌≡◌, ℕ, ◌==◌, Bool, true, false, List, refl, sym, subst, None}
use Rattle.spec_exchange.specs.Status.{success}
use Rattle.spec_exchange.specs.Commands.{Command, Create, CreateRequest}
use Rattle.spec_exchange.specs.State.{Server, Message, Record, Heard, Body, Empty, Created, Closed, Content, Count, Interfaces, ObjectId, Listing}
use Rattle.spec_exchange.specs.State.{FileInfo, VolumeInfo, SetUp, Connected}
use Rattle.spec_exchange.specs.Effects.{apply, create_reply, make_open, next_open}
use Rattle.spec_exchange.specs.Verdict.{Verdict, Refuse, Give, KeepRefusal, Repeat, Attach, Make, TurnDown, Tell, Show}
use Rattle.spec_exchange.specs.Verdict.{KeepSlot, PutRanges, Alter, CloseOpen, Challenge, ChallengeBinding, Begin, Join}
use Rattle.spec_exchange.specs.Verdict.{EndSession, AddTree, DropTree}
use Rattle.spec_exchange.specs.Step.{step}
use Rattle.spec_exchange.specs.Network.{answer_to, run, start}
use Rattle.law_sessions.proofs.messages.Lists.{front_up}
use Rattle.law_server.proofs.tables.Doors.{by_verdict, recorded}
use Rattle.law_answers.specs.statuses.Creates.{TellsOpen, CreatesTell}
use Rattle.law_answers.proofs.statuses.Checks.{LowServer}
use Rattle.law_answers.proofs.statuses.Keeps.{before}
use Rattle.law_answers.proofs.statuses.Opening.{Opens, finds_open}
use Rattle.law_answers.proofs.statuses.Waits.{plain_up}
use Rattle.law_answers.proofs.statuses.Runs.{low_world}

clash : {X : Type 0} (n : ℕ) → (n == success) ≡ false → n ≡ success → X
clash n off is = absurd (let h : true ≡ false = subst (λ i. (i == success) ≡ false) is off in cc)

abbrev is_created : Body → Bool
is_created (Created reply) = true
is_created _ = false

absent : {X : Type 0} → false ≡ true → X
absent e = absurd (let h : false ≡ true = e in cc)

created_in : (b : Body) → is_created b ≡ true → TellsOpen b
created_in (Created reply) e = (reply, refl)
created_in Empty e = absent e
created_in (Closed info) e = absent e
created_in (Content bytes) e = absent e
created_in (Count count) e = absent e
created_in (Interfaces address) e = absent e
created_in (ObjectId file) e = absent e
created_in (Listing class entries) e = absent e
created_in (FileInfo class path info access options position) e = absent e
created_in (VolumeInfo class room used) e = absent e
created_in (SetUp encrypts number) e = absent e
created_in (Connected kind capabilities access) e = absent e

told : (s : Server) (m : Message) (now : ℕ) (records : List Record) (v : Verdict) → Opens v
    → (recorded (apply s m now v) records).reply.status ≡ success → TellsOpen (recorded (apply s m now v) records).reply.body
told s m now records (Refuse status) f ok = clash status f ok
told s m now records (KeepRefusal guid status) f ok = clash status f ok
told s m now records (Repeat o r) f ok = created_in (create_reply s o r (s.opened o).action) refl
told s m now records (Attach o r) f ok = created_in (create_reply s o r 1) refl
told s m now records (Make r found action) f ok =
    created_in (create_reply (make_open s m r found action now) (next_open s) r action) refl
told s m now records (Give body) f ok = absurd f
told s m now records (TurnDown o status) f ok = absurd f
told s m now records (Tell o body) f ok = absurd f
told s m now records (Show o last body) f ok = absurd f
told s m now records (KeepSlot o index number status elements) f ok = absurd f
told s m now records (PutRanges o index number ranges elements) f ok = absurd f
told s m now records (Alter o change body) f ok = absurd f
told s m now records (CloseOpen o body) f ok = absurd f
told s m now records Challenge f ok = absurd f
told s m now records (ChallengeBinding session) f ok = absurd f
told s m now records (Begin session user previous r is_quiet) f ok = absurd f
told s m now records (Join session) f ok = absurd f
told s m now records (EndSession session is_quiet) f ok = absurd f
told s m now records (AddTree pipes) f ok = absurd f
told s m now records DropTree f ok = absurd f

stepped : (s : Server) (now : ℕ) (m : Message) (r : CreateRequest) → m.fault ≡ None → m.command ≡ Create r → LowServer s
    → (step s now (Heard m)).reply.status ≡ success → TellsOpen (step s now (Heard m)).reply.body
stepped s now m r fault e low =
    by_verdict (λ A. A.reply.status ≡ success → TellsOpen A.reply.body) s now m
    (λ t v records b f. told t m now records v (finds_open t m r v fault e (before s now t b low) f))

answered : (s : Server) (now : ℕ) (m : Message) (r : CreateRequest) (c : Command) → c ≡ Create r → m.fault ≡ None → m.command ≡ Create r
    → LowServer s → (answer_to s now m c).reply.status ≡ success → TellsOpen (answer_to s now m c).reply.body
answered s now m r c is fault e low =
    subst (λ d. (answer_to s now m d).reply.status ≡ success → TellsOpen (answer_to s now m d).reply.body) (sym is)
    (stepped s now m r fault e low)

pub creates_tell : CreatesTell
creates_tell z es k x xs r h e =
    let w = run es (start z) in
    let m = x.message in
    let i = plain_up z es k 0 x (front_up (w.conns k).up x xs h) in
    answered w.server w.moment m r m.command e i.fault e (low_world z es).0
