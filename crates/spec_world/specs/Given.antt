-- A frame whose events went otherwise than by the step alone (this project's): each message's own answer, as a shared server gives it, an
-- event that found no memory, and a SESSION_SETUP for which no random bytes are left. Where each answer is the step's own it is
-- `connection_step`.
use Rattle.std.specs.Prelude.{ℕ, ◌+◌, nat_le, Bool, true, false, not, ◌&&◌, if◌then◌else◌, List, [], ◌∷◌, ◌++◌, Option, Some, None}
use Rattle.std.specs.Prelude.{is_some}
use Rattle.spec_exchange.specs.Table.{is_filled}
use Rattle.std.specs.Prelude.{Result, Ok, Err}
use Rattle.spec_wire.specs.messages.Frames.{Front, Waits, Whole, Breaks, front}
use Rattle.spec_exchange.specs.Status.{no_memory, insufficient_resources}
use Rattle.spec_exchange.specs.Commands.{Command, Aside}
use Rattle.spec_exchange.specs.State.{Server, Message, Answer}
use Rattle.spec_wire.specs.credits.Window.{after_grant}
use Rattle.spec_wire.specs.declared.messages.header.Header.{Header}
use Rattle.spec_world.specs.Settings.{ServerSettings}
use Rattle.spec_world.specs.Ends.{ServerEnd, Logons, ConnEnd, BadFrame, Stopped}
use Rattle.spec_world.specs.Hearing.{Checked, Frame, check_frame, is_setup}
use Rattle.spec_world.specs.Related.{Turn, Goes, Fails, turn_of, carried_past}
use Rattle.spec_world.specs.Connection.{Going, heard_message, said_failed, went_by, went_heard, went_turn, beginning, answered}
use Rattle.spec_world.specs.Connection.{ConnectionStep, ended_by}

-- what became of an event; a message has one where it is no NEGOTIATE, ECHO or CANCEL and no setup past the random bytes
pub data Given : Type 0 where
  Answered : (moment : ℕ) (fresh : List ℕ) (logons : Logons) (answer : Answer) → Given  -- with the logons as it found them
  NoMemory : (server : Server) → Given  -- the server behind it: as before, or changed by one expiry alone
  Stops : (count : ℕ) → Given  -- the server has stopped, and the connection ends unanswered

-- NEGOTIATE and ECHO have none, nor has a CANCEL
abbrev pub has_event : Command → Bool
has_event (Aside status) = false
has_event _ = true

-- A connection that is served has random bytes for 4,096 SESSION_SETUPs; so many came before this one.
abbrev pub is_past_setups : ℕ → Header → Bool
is_past_setups before h = is_setup h && nat_le 4096 before

-- ---- one message after the other, each with an event taking the next of what is given

pub record Dealt : Type 0 where
  pub going : Going
  pub left : List Given
  pub setups : ℕ  -- how many of the connection had an event
  pub lacked : Bool  -- an event found no memory
  pub missing : Bool  -- nothing was given for an event
  pub stopped : Option ℕ

-- ---- an error in place of a reply: the message's own ids are handed on

abbrev pub went_refused : ServerEnd → Going → Checked → ℕ → Going
went_refused f g c status = record g {
  window = after_grant c.header.credits g.window;
  carried = Some (carried_past g.carried c status);
  replies = g.replies ++ said_failed f g.window c status ∷ [];
}

-- the message is the one that the server hears by the logons as the event found them
abbrev pub went_answered : ServerSettings → ℕ → ℕ → List ℕ → ServerEnd → Going → Checked → Option Message → Answer → Going
went_answered z k moment fresh f g c None A = g
went_answered z k moment fresh f g c (Some m) A = went_by z k moment fresh f g c m A

abbrev pub dealt_by : ServerSettings → ℕ → ServerEnd → Dealt → Checked → Given → Dealt
dealt_by z k f d c (Answered moment fresh L A) = record d {
  going = went_answered z k moment fresh f (record d.going { logons = L }) c (heard_message z L k f c) A;
}
dealt_by z k f d c (NoMemory s) = record d { going = record (went_refused f d.going c no_memory) { server = s }; lacked = true }
dealt_by z k f d c (Stops count) = record d { stopped = Some count }

abbrev pub counted_setups : Dealt → Checked → Dealt
counted_setups d c = if is_setup c.header then record d { setups = d.setups + 1 } else d

abbrev pub dealt_next : ServerSettings → ℕ → ServerEnd → Dealt → Checked → List Given → Dealt
dealt_next z k f d c [] = record d { missing = true }
dealt_next z k f d c (x ∷ xs) = dealt_by z k f (counted_setups (record d { left = xs }) c) c x

abbrev pub dealt_heard : ServerSettings → ℕ → ℕ → List ℕ → ServerEnd → Dealt → Checked → Option Message → Dealt
dealt_heard z k now fresh f d c None = record d { going = went_heard z k now fresh f d.going c None }
dealt_heard z k now fresh f d c (Some m) =
    if not (has_event m.command) then record d { going = went_heard z k now fresh f d.going c (Some m) }
    else if is_past_setups d.setups c.header then record d { going = went_refused f d.going c insufficient_resources }
    else dealt_next z k f d c d.left

abbrev pub dealt_turn : ServerSettings → ℕ → ℕ → List ℕ → ServerEnd → Dealt → Checked → Turn → Dealt
dealt_turn z k now fresh f d old (Goes c) = dealt_heard z k now fresh f d c (heard_message z d.going.logons k f c)
dealt_turn z k now fresh f d old (Fails status) = record d { going = went_turn z k now fresh f d.going old (Fails status) }

-- behind a stop no message has an event
unfoldable pub dealt_all : ServerSettings → ℕ → ℕ → List ℕ → ServerEnd → Dealt → List Checked → Dealt
dealt_all z k now fresh f d [] = d
dealt_all z k now fresh f d (c ∷ cs) =
    if is_some d.stopped then d
    else dealt_all z k now fresh f (dealt_turn z k now fresh f d c (turn_of d.going.carried c)) cs

-- ---- what a frame leaves, whether an event of it found no memory, and whether just as much was given as it has events

pub record GivenStep : Type 0 where
  pub step : ConnectionStep
  pub lacked : Bool
  pub setups : ℕ
  pub matches : Bool

abbrev pub dealt_of : ServerSettings → ℕ → ℕ → List ℕ → ℕ → Server → Logons → List Given → Frame → Dealt
dealt_of z k now fresh before s L given x =
    dealt_all z k now fresh x.server_end
    (record {
      going = beginning s L x.server_end;
      left = given;
      setups = before;
      lacked = false;
      missing = false;
      stopped = None;
    }) x.messages

abbrev pub dealt_step : ServerEnd → Bool → Going → Option ℕ → ConnectionStep
dealt_step f sealed g None = answered f sealed g
dealt_step f sealed g (Some count) = ended_by g.server g.logons f g.taken (Stopped count)

abbrev pub given_of : ServerSettings → ℕ → ℕ → List ℕ → ℕ → Server → Logons → ServerEnd → List Given → Result Frame ConnEnd → GivenStep
given_of z k now fresh before s L f given (Err why) = record {
  step = ended_by s L f None why;
  lacked = false;
  setups = before;
  matches = not (is_filled given);
}
given_of z k now fresh before s L f given (Ok x) =
    let d = dealt_of z k now fresh before s L given x in
    record {
      step = dealt_step x.server_end x.sealed d.going d.stopped;
      lacked = d.lacked;
      setups = d.setups;
      matches = not d.missing && not (is_filled d.left);
    }

abbrev pub given_step : ServerSettings → ℕ → ℕ → List ℕ → ℕ → Server → Logons → ServerEnd → List Given → List ℕ → GivenStep
given_step z k now fresh before s L f given frame = given_of z k now fresh before s L f given (check_frame f frame)

-- ---- over a stream: a lead byte that isn't 0, and a length past the limit, end the connection as a frame's own faults do (2.1)

abbrev pub front_end : Front → Option ConnEnd
front_end Waits = None
front_end (Whole message rest) = None
front_end (Breaks refusal) = Some BadFrame

-- what stands at the front of a stream does; nothing while it waits for more
abbrev pub stream_step_of : ServerSettings → ℕ → ℕ → List ℕ → ℕ → Server → Logons → ServerEnd → List Given → Front → Option GivenStep
stream_step_of z k now fresh before s L f given Waits = None
stream_step_of z k now fresh before s L f given (Whole message rest) = Some (given_step z k now fresh before s L f given message)
stream_step_of z k now fresh before s L f given (Breaks refusal) = Some (given_of z k now fresh before s L f given (Err BadFrame))

abbrev pub stream_step : ServerSettings → ℕ → ℕ → List ℕ → ℕ → Server → Logons → ServerEnd → List Given → List ℕ → Option GivenStep
stream_step z k now fresh before s L f given stream = stream_step_of z k now fresh before s L f given (front stream)
