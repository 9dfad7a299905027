-- The steps of the server that one event makes, each an event of the server itself.
use Rattle.std.specs.Prelude.{◌≡◌, ◌⊎◌, ℕ, List, [], ◌∷◌, ◌++◌, Option, Some, None, Result, Ok, Err}
use Rattle.spec_exchange.specs.State as model
use Rattle.spec_exchange.specs.Step.{step}
use Rattle.spec_journal.specs.Forms.{StandsFor}
use Rattle.spec_wire.specs.journal.Moments.{LeavesOnly}
use Rattle.spec_crypto.specs.tokens.Tokens.{Users}
use Rattle.spec_world.specs.Ends.{Logons}
use Rattle.spec_world.specs.Lacking.{alone_records, Expires}
use Rattle.law_waiting.specs.wait_steps.WaitStep.{Fails, Lacks, MadeStep}
use Rattle.law_waiting.specs.wait_steps.WaitStep as waits
use Rattle.server_checks.specs.event_heard.Heard.{heard_event}
use Rattle.server_checks.specs.setups.Setups.{progress_of}
use Rattle.server_checks.specs.declared.setups.error.EventError.{EventError}
use Rattle.server_checks.specs.declared.setups.error.EventError.TheVariants.{Memory, DiskFault, Stopped}
use Rattle.server_checks.specs.declared.event_heard.event.ServerEvent.{ServerEvent}
use Rattle.server_checks.specs.declared.event_heard.event.ServerEvent.TheVariants as events
use Rattle.server_core.specs.journaled_tables.Beside.{logons_behind}
use Rattle.server_core.specs.Reading.{BodiesSpell}
use Rattle.server_core.specs.crash.Left.{IsRecorded}
use Rattle.server_core.specs.journaled_tables.Holds.{EventAnswers, EventLeavesBodies, JournaledGoesOn, JournaledHolds, uncounted}
use Rattle.server_core.specs.journaled_tables.Shown.{ServerShown}
use Rattle.server_effects.specs.declared.answering.Answer.{Answer}
use Rattle.server_core.specs.declared.journaled_tables.state.ServerState.{ServerState}
use Rattle.wire_commands.specs.declared.values.request.Message.{Message}
use Rattle.wire_commands.specs.values.Meaning.{message_of}

-- what the server hears at a step: the event itself, or a waiter's message
abbrev pub IsHeardAs : ServerEvent → Option waits.Waiter → ServerEvent → Type 0
IsHeardAs own None e = e ≡ own
IsHeardAs own (Some w) e = (m : Message) × (e ≡ events.Message m) × (message_of m ≡ w.message)

-- ---- what befell a step is what the server answered, and its records and logons are those that then stand

-- it found no memory, and is as before, or behind an expiry alone
abbrev pub LacksBy : ℕ → MadeStep → model.ServerEvent → List model.Record → Type 0
LacksBy now x e front = ((x.mishap ≡ Some (Lacks x.server)) × (front ≡ []))
    ⊎ ((o : ℕ) × (t : model.Server) × Expires x.server now e t o × (x.mishap ≡ Some (Lacks t)) × (front ≡ alone_records x.server now e o))

-- its disk failed, behind the event's change or that of an expiry alone
abbrev pub FailsBy : ℕ → MadeStep → model.ServerEvent → ℕ → Logons → Logons → Logons → Type 0
FailsBy now x e count L M N = ((x.mishap ≡ Some (Fails (uncounted x.server x.answer.server) count)) × (N ≡ M))
    ⊎ ((o : ℕ) × (t : model.Server) × Expires x.server now e t o × (x.mishap ≡ Some (Fails (uncounted x.server t) count)) × (N ≡ L))

abbrev pub Befell : ℕ → Result Answer EventError → MadeStep → model.ServerEvent → Logons → Logons → Logons → List model.Record → Type 0
Befell now (Ok r) x e L M N front = (x.mishap ≡ None) × (N ≡ M) × (front ≡ x.answer.records)
Befell now (Err Memory) x e L M N front = (N ≡ L) × LacksBy now x e front
Befell now (Err (DiskFault count)) x e L M N front = (front ≡ []) × FailsBy now x e count L M N
Befell now (Err (Stopped count)) x e L M N front = ⊥

module _ {D : Type 0} (told : Type 0) (seen : D → List ℕ) (may_leave : D → List ℕ → Type 0) (moment : D → ℕ) (left_since : D → ℕ → List ℕ → Type 0) (faults : D → ℕ) (users : Users) (now : ℕ)
    (own : ServerEvent) where
  -- the server was asked; where its disk tells its bytes, so is what a crash left of it
  pub record StepAsked (c d : ServerState D) (L : Logons) (records : List model.Record) (x : MadeStep) (N : Logons) (front : List model.Record)
      : Type 0 where
    pub event : ServerEvent
    pub heard : IsHeardAs own x.waiter event
    pub result : Result Answer EventError
    pub answers : EventAnswers told seen may_leave [] faults c d users x.server L records now event result
    pub answer : x.answer ≡ step x.server now (heard_event users L x.server event)
    pub befell : Befell now result x (heard_event users L x.server event) L
        (logons_behind users L event now (progress_of (heard_event users L x.server event) x.answer.reply)) N front
    pub any_moment : told → (bodies : List (List ℕ)) → JournaledGoesOn seen may_leave [] c x.server records bodies
        → LeavesOnly moment left_since c.journal.disk d.journal.disk
        (EventLeavesBodies x.server now (heard_event users L x.server event) bodies)

  -- or there was no memory to ask it
  pub record NotAsked (c d : ServerState D) (L : Logons) (x : MadeStep) (N : Logons) (front : List model.Record) : Type 0 where
    pub same : d ≡ c
    pub mishap : x.mishap ≡ Some (Lacks x.server)
    pub logons : N ≡ L
    pub none : front ≡ []

  -- of a server that held the step's state, and went on
  abbrev pub StepGoes : ServerState D → ServerState D → Logons → List model.Record → MadeStep → Logons → List model.Record → Type 0
  StepGoes c d L records x N front = JournaledHolds told seen may_leave c x.server L records × (c.stopped ≡ None)
      × (StepAsked c d L records x N front ⊎ NotAsked c d L x N front)

  -- one step after the other, with the records of all
  abbrev pub Steps : ServerState D → ServerState D → Logons → List model.Record → List MadeStep → Logons → List model.Record → Type 0
  Steps c d L records [] M written = (d ≡ c) × (M ≡ L) × (written ≡ [])
  Steps c d L records (x ∷ xs) M written =
      (b : ServerState D) × (N : Logons) × (front : List model.Record) × (rest : List model.Record)
      × StepGoes c b L records x N front × Steps b d N (records ++ front) xs M rest × (written ≡ front ++ rest)

-- ---- a crash at any moment of such steps

module _ (users : Users) (now : ℕ) (own : ServerEvent) where
  -- Bodies that spell the records so far stand for the step's state, and the bytes for them, or for what a crash within its event leaves.
  pub record StepLeaves (L : Logons) (records : List model.Record) (x : MadeStep) (bytes : List ℕ) : Type 0 where
    pub bodies : List (List ℕ)
    pub recorded : IsRecorded x.server records bodies
    pub stands : StandsFor bytes bodies
        ⊎ ((event : ServerEvent) × IsHeardAs own x.waiter event × EventLeavesBodies x.server now (heard_event users L x.server event) bodies bytes)

  -- So it is at one of the steps, behind those before it, or the bytes stand for the records of all. No waiter's step moves logons.
  abbrev pub StepsLeave : Logons → List model.Record → List MadeStep → List ℕ → Type 0
  StepsLeave L records [] bytes = (bodies : List (List ℕ)) × BodiesSpell bodies records × StandsFor bytes bodies
  StepsLeave L records (x ∷ xs) bytes = StepLeaves L records x bytes ⊎ ((N : Logons) × StepsLeave N (records ++ x.answer.records) xs bytes)

-- it shows a state, and holds it with its records as long as no call of its disk failed
pub record HoldsTill {D : Type 0} (told : Type 0) (seen : D → List ℕ) (may_leave : D → List ℕ → Type 0) (c : ServerState D) (s : model.Server)
    (L : Logons) (records : List model.Record) : Type 0 where
  pub shown : ServerShown c.tables s L
  pub holds : c.stopped ≡ None → JournaledHolds told seen may_leave c s L records
