-- What a step of the world tells (this project's): a note, or why the world doesn't meet the event.
use Rattle.std.specs.Prelude.{◌≡◌, ℕ, nat_lt, Bool, true, false, not, ◌||◌, if◌then◌else◌, List, [], ◌∷◌, Option, Some, None, is_none}
use Rattle.spec_exchange.specs.Table.{is_filled}
use Rattle.spec_exchange.specs.Status.{no_memory}
use Rattle.spec_exchange.specs.Network.{Event, Submit, Open, Push, Serve, Take, Cut, Drop, Restart, Crash, Wait, Finish, is_possible}
use Rattle.spec_exchange.specs.Network.{max_channel}
use Rattle.spec_world.specs.Settings.{WorldSettings}
use Rattle.spec_world.specs.Connection.{LastTaken, ConnectionStep}
use Rattle.spec_world.specs.Given.{GivenStep}
use Rattle.spec_world.specs.World.{World, step_at}
use Rattle.spec_world.specs.Events.{ByteEvent, Plain, Tamper, may_tamper, bytes_run, bytes_start}

-- ---- the note: the last reply's status, none where no reply was made; whether a message of the step acted

pub record StepNote : Type 0 where
  pub status : Option ℕ
  pub acted : Bool

abbrev pub no_note : StepNote
no_note = record { status = None; acted = false }

abbrev pub has_acted : Option LastTaken → Bool
has_acted None = false
has_acted (Some t) = t.answer.acted

abbrev pub note_of_step : ConnectionStep → StepNote
note_of_step S = record { status = S.status; acted = has_acted S.taken }

-- where an event found no memory, its status is told in place of the last reply's
abbrev pub note_of_given : GivenStep → StepNote
note_of_given G = record { status = if G.lacked then Some no_memory else G.step.status; acted = has_acted G.step.taken }

abbrev pub front_note : WorldSettings → World → ℕ → List (List ℕ) → StepNote
front_note z w k [] = no_note
front_note z w k (b ∷ bs) = note_of_step (step_at z w k b)

-- A Serve's, and that of a Crash that keeps: its replies are made and go nowhere. Every other step has the note of none.
abbrev pub event_note : WorldSettings → World → Event → StepNote
event_note z w (Serve k) = front_note z w k (w.wires k).up
event_note z w (Crash k kept) = if kept then front_note z w k (w.wires k).up else no_note
event_note z w _ = no_note

abbrev pub step_note : WorldSettings → World → ByteEvent → StepNote
step_note z w (Plain e) = event_note z w e
step_note z w (Tamper k up change) = no_note

-- ---- the refusal: the end that the event needs isn't open; the list that it needs is empty; what it would open is in use

pub data WorldError : Type 0 where
  NoChannel : (k : ℕ) → WorldError
  NothingThere : (k : ℕ) → WorldError
  InUse : (k : ℕ) → WorldError

abbrev pub unless_open : Bool → ℕ → Option WorldError
unless_open is_open k = if is_open then None else Some (NoChannel k)

-- a closed end is told before an empty list
abbrev pub unless_there : Bool → List (List ℕ) → ℕ → Option WorldError
unless_there is_open frames k = if not is_open then Some (NoChannel k) else if is_filled frames then None else Some (NothingThere k)

abbrev pub making_error : Option ℕ → Option WorldError
making_error None = None
making_error (Some j) = Some (InUse j)

-- There are connections from 0 to 255. An end of this one that is open is told before another one's session in the making.
abbrev pub open_error : World → ℕ → Option WorldError
open_error w k =
    if not (nat_lt k max_channel) then Some (NoChannel k)
    else if (w.values.conns k).client_open || (w.values.conns k).server_open then Some (InUse k)
    else making_error w.values.client.making

-- The program makes a Finish of a client without a session alone, so it has no refusal.
abbrev pub event_error : World → Event → Option WorldError
event_error w (Submit g op) = None
event_error w (Open k) = open_error w k
event_error w (Push k slotless pick) = unless_open (w.values.client.ready k) k
event_error w (Serve k) = unless_there (w.values.conns k).server_open (w.wires k).up k
event_error w (Take k) = unless_there (w.values.conns k).client_open (w.wires k).down k
event_error w (Cut k) = unless_open (w.values.conns k).client_open k
event_error w (Drop k) = unless_open (w.values.conns k).server_open k
event_error w Restart = None
event_error w (Crash k kept) = unless_there (w.values.conns k).server_open (w.wires k).up k
event_error w (Wait n) = None
event_error w (Finish refusal) = None

abbrev pub step_error : World → ByteEvent → Option WorldError
step_error w (Plain e) = event_error w e
step_error w (Tamper k up change) =
    if up then unless_there (w.values.conns k).server_open (w.wires k).up k
    else unless_there (w.values.conns k).client_open (w.wires k).down k

-- ---- an event is refused exactly where the world doesn't meet it, over every run

abbrev pub is_met : World → ByteEvent → Bool
is_met w (Plain e) = is_possible w.values e
is_met w (Tamper k up change) = may_tamper w k up

abbrev pub is_finish : ByteEvent → Bool
is_finish (Plain (Finish refusal)) = true
is_finish _ = false

abbrev pub RefusalsAreTold : Type 0
RefusalsAreTold =
    (z : WorldSettings) (events : List ByteEvent) (e : ByteEvent) → is_finish e ≡ false →
    is_met (bytes_run z events (bytes_start z)) e ≡ is_none (step_error (bytes_run z events (bytes_start z)) e)
