-- An event that goes through the server, alone or behind the expiry of an open.
use Rattle.std.specs.Prelude.{◌≡◌, ℕ, List, ◌++◌, Some, None, Result, MatchResult, false, true, nat_le, ⊤}
use Rattle.spec_exchange.specs.Records.{fits}
use Rattle.spec_exchange.specs.State as model
use Rattle.spec_exchange.specs.Step.{carried_out, due, event_answer, expire, max_expired_guids, ruling, step, with_deadlines, written_down}
use Rattle.journal.specs.disk_journal.Journal.{OnlyRoom}
use Rattle.law_snapshots.specs.snapshots.Pieces.{SnapshotPiece}
use Rattle.server_checks.specs.event_heard.Heard.{event_of, heard_event}
use Rattle.server_checks.specs.declared.event_heard.asked.Asked.{Asked}
use Rattle.server_checks.specs.declared.event_heard.event.ServerEvent.{ServerEvent}
use Rattle.journal_bytes.specs.record_bodies.Body.{IsBodyOf}
use Rattle.server_checks.specs.Shown.{TablesShown}
use Rattle.server_core.specs.declared.event_step.expiring.Behind.{Behind}
use Rattle.server_core.specs.declared.event_step.expiring.Behind.TheVariants.{Answered, NoneExpires}
use Rattle.server_checks.specs.setups.Setups.{progress_of}
use Rattle.server_checks.specs.declared.setups.error.EventError.{EventError}
use Rattle.server_effects.specs.expiry.Expired.{IsExpired}
use Rattle.server_effects.specs.declared.expiry.expiry.Expired.{Expired}
use Rattle.server_core.specs.journaled_tables.Beside.{logons_behind}
use Rattle.server_core.specs.journaled_tables.Counted.{front_of}
use Rattle.server_core.specs.journaled_tables.Heard.{IsJournaledHeard}
use Rattle.server_core.specs.journaled_tables.Holds.{EventRefused, JournaledHeld, HoldsOver, StepAnswers}
use Rattle.server_core.specs.declared.journaled_tables.state.ServerState.{ServerState}
use Rattle.server_checks.specs.session_table.Logons.{LogonsShown}
use Rattle.spec_crypto.specs.tokens.Tokens.{Users}
use Rattle.spec_world.specs.Ends.{Logons}

-- the server, which goes on, hears an event in this state
pub record ExpiryAsks {D : Type 0} (told : Type 0) (seen : D → List ℕ) (may_leave : D → List ℕ → Type 0) (base : List SnapshotPiece)
    (c : ServerState D)
    (users : Users) (s : model.Server) (L : Logons) (records : List model.Record) (now : ℕ) (e : ServerEvent) (a : Asked) : Type 0 where
  pub holds : HoldsOver told seen may_leave base c s L records
  pub goes_on : c.stopped ≡ None
  pub users_are : users ≡ c.tables.config.users
  pub heard : IsJournaledHeard users L s e a
  pub said : step s now (heard_event users L s e) ≡ step s now (event_of a)

-- an open is due, and one may expire
pub record MayExpire (s : model.Server) (now o : ℕ) : Type 0 where
  pub is_due : due (with_deadlines s now) now ≡ Some o
  pub kept : nat_le max_expired_guids s.expired_count ≡ false

-- this is the body of its records
abbrev pub IsExpiryFront : model.Server → Asked → ℕ → List ℕ → Type 0
IsExpiryFront s a o front = IsBodyOf front (front_of s (event_of a) o)

-- and they fit
pub record HasFront (s : model.Server) (a : Asked) (o : ℕ) (front : List ℕ) : Type 0 where
  pub body : IsExpiryFront s a o front
  pub room : fits s (front_of s (event_of a) o) ≡ true

-- the open was taken out: the server goes on with the state y without it, but for what the tables show
pub record TakenOut {D : Type 0} (told : Type 0) (seen : D → List ℕ) (may_leave : D → List ℕ → Type 0) (base : List SnapshotPiece)
    (c : ServerState D)
    (users : Users) (s : model.Server) (L : Logons) (records : List model.Record) (now : ℕ) (e : ServerEvent) (a : Asked) (o : ℕ)
    (x : Expired) (y : model.Server) : Type 0 where
  pub logons : LogonsShown c.tables.sessions L.keys L.pending
  pub held : JournaledHeld told seen may_leave base c s records
  pub users_are : users ≡ c.tables.config.users
  pub heard : IsJournaledHeard users L s e a
  pub said : step s now (heard_event users L s e) ≡ step s now (event_of a)
  pub out : IsExpired c.tables.opens x s o
  pub state_is : y ≡ expire s o

-- and they show that state
pub record Without {D : Type 0} (told : Type 0) (seen : D → List ℕ) (may_leave : D → List ℕ → Type 0) (base : List SnapshotPiece)
    (c : ServerState D)
    (users : Users) (s : model.Server) (L : Logons) (records : List model.Record) (now : ℕ) (e : ServerEvent) (a : Asked) (o : ℕ)
    (x : Expired) (y : model.Server) : Type 0 where
  pub apart : TakenOut told seen may_leave base c users s L records now e a o x y
  pub tables : TablesShown c.tables y

-- the records of an expiry and those of the event on the state y behind it
abbrev pub both_from : model.Server → model.Server → ℕ → model.ServerEvent → ℕ → List model.Record
both_from s y now e o = front_of s e o ++ (carried_out y now (ruling y e)).records

-- it has its answer, or none expires and the state is as before
abbrev pub BehindAnswers : {D : Type 0} → Type 0 → (D → List ℕ) → (D → List ℕ → Type 0) → List SnapshotPiece → ServerState D
    → model.Server → Logons
    → List model.Record → ℕ → ServerEvent → model.ServerEvent → Asked → Behind → Type 0
BehindAnswers told seen may_leave base c s L records now event e a (Answered r) =
    StepAnswers told seen may_leave base c s L records now event r (step s now e)
BehindAnswers told seen may_leave base c s L records now event e a NoneExpires = HoldsOver told seen may_leave base c s L records
    × (step s now e ≡ written_down (event_answer (with_deadlines s now) now (event_of a)))

abbrev pub BehindEnds : {D : Type 0} → Type 0 → (D → List ℕ) → (D → List ℕ → Type 0) → List SnapshotPiece → (D → ℕ) → ServerState D
    → ServerState D
    → Users → model.Server → Logons → List model.Record → ℕ → ServerEvent → Asked → Result Behind EventError → Type 0
BehindEnds told seen may_leave base faults old new users s L records now e a result =
    let ev = heard_event users L s e in MatchResult result
    (λ b. BehindAnswers told seen may_leave base new s L records now e ev a b)
    (λ x. EventRefused told seen may_leave base faults x old new s L records now ev
    (logons_behind users L e now (progress_of ev (step s now ev).reply)))

-- the disk is as before
abbrev pub StaysWhereNone : {D : Type 0} → ServerState D → ServerState D → Behind → Type 0
StaysWhereNone old new (Answered r) = ⊤
StaysWhereNone old new NoneExpires = OnlyRoom old.journal new.journal × (new.stopped ≡ old.stopped)
