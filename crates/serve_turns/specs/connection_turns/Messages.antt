-- The messages of a checked frame in code, one after the other, each with a turn where it asks something.
use Rattle.std.specs.Prelude.{◌≡◌, ◌⊎◌, ◌≤◌, ℕ, ◌+◌, ◌==◌, min, if◌then◌else◌, true, false, List, [], ◌∷◌, ◌++◌, length, take}
use Rattle.std.specs.Prelude.{Option, Some, None, Result, Ok, Err, option_map, slice_get}
use Rattle.spec_exchange.specs.State as model
use Rattle.spec_exchange.specs.Status.{insufficient_resources}
use Rattle.spec_world.specs.Ends.{ServerEnd, Logons}
use Rattle.spec_world.specs.Given as gives
use Rattle.spec_world.specs.Given.{Given, is_past_setups}
use Rattle.spec_world.specs.Hearing as hearing
use Rattle.spec_world.specs.Related as related
use Rattle.spec_world.specs.Settings.{ServerSettings}
use Rattle.conn_core.specs.Shown.{ShowsEnd}
use Rattle.conn_core.specs.declared.conn.Conn.{Conn}
use Rattle.conn_core.specs.declared.end.ConnEnd.{ConnEnd}
use Rattle.conn_core.specs.declared.end.ConnEnd.TheVariants.{Memory, Stopped}
use Rattle.conn_core.specs.declared.frame_messages.checked.Checked.{Checked}
use Rattle.conn_core.specs.declared.frame_messages.checked.CheckedFrame.{CheckedFrame}
use Rattle.conn_core.specs.frame_messages.Checking.{ShowsFrame, ShowsGoing, holds_setup, message_in}
use Rattle.conn_core.specs.declared.frame_events.handing.Dealt.{Dealt}
use Rattle.conn_core.specs.declared.requests.hearing.Told.{Told}
use Rattle.conn_core.specs.declared.related.related.Carry.{Carry}
use Rattle.conn_core.specs.related.Carrying.{carry_of}
use Rattle.conn_core.specs.frame_events.Dealing.{Alone, DealsOne, EventAnswer, RefusesOne, SameCommands}
use Rattle.conn_core.specs.frame_events.Shared.{GivenSoFar, asked_all, first_dealt}
use Rattle.conn_core.specs.frame_events.SoFar.{Facts}
use Rattle.conn_core.specs.message_replies.Replying.{AreMessagesSaid, FailRightly, ShowsTaken, has_message_event}
use Rattle.conn_core.specs.requests.Asking.{IsRequestTold}
use Rattle.serve_turns.specs.declared.connection_turns.state.ConnectionState.{ConnectionState}
use Rattle.serve_turns.specs.declared.event_book.turn.Answer.{Answer}
use Rattle.serve_turns.specs.declared.event_book.turn.Asks.{Asks}
use Rattle.serve_turns.specs.declared.event_book.turn.Turn.{Turn}
use Rattle.serve_turns.specs.declared.shared_book.view.View.{View}
use Rattle.serve_turns.specs.connection_turns.Frames.{AreAtOnce, AreFor, AreGiven, AreOfSuch}
use Rattle.serve_turns.specs.connection_turns.Turning.{message_turn}
use Rattle.serve_turns.specs.event_book.History.{AllMeet, Course, Placed}

-- ---- one message that goes its way

-- what the connection tells of the message at its place
abbrev pub TellsOf : Conn → CheckedFrame → ℕ → Told → Type 0
TellsOf conn x at t = (guid : List ℕ) (f : ServerEnd) (m : Checked) (c : hearing.Checked) → ShowsEnd conn.id guid conn f
    → slice_get x.messages.items at ≡ Some m → ShowsGoing x.bytes.items m c → IsRequestTold f c t

-- one more SESSION_SETUP had an event, if it is one; the count stands still at the last value of its type
abbrev pub Counts : ℕ → Checked → ℕ → Type 0
Counts before m after = after ≡ (if m.header.command == 1 then min (before + 1) 4294967295 else before)

module _ {B : Type 0} where
  -- It took one turn, in which the server was given it with what the connection tells of it.
  pub record TakesTurn (v : View B Turn Answer) (now : ℕ) (fresh : List ℕ) (old : ConnectionState) (x : CheckedFrame) (at : ℕ) (m : Checked)
      (new : ConnectionState) (reply : EventAnswer) (w : View B Turn Answer) : Type 0 where
    pub event : has_message_event m ≡ true
    pub asks : Asks
    pub frame : asks.frame ≡ x
    pub place : asks.at ≡ at
    pub told : TellsOf old.conn x at asks.told
    pub connection : asks.told.connection ≡ old.conn.id
    pub fresh_is : asks.told.fresh ≡ fresh
    pub turn : Placed
    pub own : w.own ≡ v.own ++ turn ∷ []
    pub is_turn : turn.1.event ≡ message_turn now asks
    pub is : turn.1.reply.reply ≡ reply
    pub conn : new.conn ≡ old.conn
    pub setups : Counts old.setups m new.setups

-- ---- and what it hands on

module _ {B : Type 0} where
  -- It asks nothing, and takes no turn.
  pub record AsksNothing (v : View B Turn Answer) (old : ConnectionState) (m : Checked) (bytes : List ℕ) (y : Option related.Carry)
      (d : Dealt) (new : ConnectionState) (e : Dealt) (result : Result Carry ConnEnd) (w : View B Turn Answer) : Type 0 where
    pub none : has_message_event m ≡ false
    pub deals : DealsOne m bytes y None d e result
    pub state : new ≡ old
    pub same : w ≡ v

  -- A SESSION_SETUP behind as many as the server hears is refused without a turn.
  pub record RefusesLate (v : View B Turn Answer) (old : ConnectionState) (m : Checked) (bytes : List ℕ) (y : Option related.Carry)
      (d : Dealt) (new : ConnectionState) (e : Dealt) (result : Result Carry ConnEnd) (w : View B Turn Answer) : Type 0 where
    pub event : has_message_event m ≡ true
    pub late : is_past_setups old.setups m.header ≡ true
    pub refuses : RefusesOne m bytes y insufficient_resources d e result
    pub state : new ≡ old
    pub same : w ≡ v

  pub record DealsInTurn (v : View B Turn Answer) (now : ℕ) (fresh : List ℕ) (old : ConnectionState) (x : CheckedFrame) (at : ℕ)
      (m : Checked)
      (y : Option related.Carry) (d : Dealt) (new : ConnectionState) (e : Dealt) (result : Result Carry ConnEnd) (w : View B Turn Answer)
      : Type 0 where
    pub early : is_past_setups old.setups m.header ≡ false
    pub given : EventAnswer
    pub deals : DealsOne m (message_in x.bytes.items m) y given d e result
    pub takes : TakesTurn v now fresh old x at m new given w

  abbrev pub DealsBy : View B Turn Answer → ℕ → List ℕ → ConnectionState → CheckedFrame → ℕ → Checked → Option related.Carry → Dealt
      → ConnectionState → Dealt → Result Carry ConnEnd → View B Turn Answer → Type 0
  DealsBy v now fresh old x at m y d new e result w = AsksNothing v old m (message_in x.bytes.items m) y d new e result w
      ⊎ (RefusesLate v old m (message_in x.bytes.items m) y d new e result w ⊎ DealsInTurn v now fresh old x at m y d new e result w)

  abbrev pub DealsFor : View B Turn Answer → ℕ → List ℕ → ConnectionState → CheckedFrame → ℕ → Option related.Carry → Dealt
      → ConnectionState → Dealt → Result Carry ConnEnd → View B Turn Answer → Type 0
  DealsFor v now fresh old x at y d new e result w = (m : Checked) → slice_get x.messages.items at ≡ Some m
      → DealsBy v now fresh old x at m y d new e result w

-- ---- all messages of a frame: what the definitions make of them by what their turns were given

-- what was given is just enough, for these messages
pub record DealtBy (z : ServerSettings) (h : Course) (k now : ℕ) (fresh : List ℕ) (server : model.Server) (logons : Logons)
    (f : ServerEnd) (before : ℕ) (cs : List hearing.Checked)
    (turns : List Placed) (d : gives.Dealt) : Type 0 where
  pub given : List Given
  pub are : AreGiven h turns given
  pub is : d ≡ gives.dealt_all z k now fresh f (first_dealt server logons f before given) cs
  pub asked : AreFor k f (asked_all z k now fresh f (first_dealt server logons f before given) cs) turns
  pub none_missing : d.missing ≡ false
  pub none_left : d.left ≡ []

-- Memory ran out: these turns are for the first of them, of which the last one's reply may be lost.
pub record MessagesLack (z : ServerSettings) (h : Course) (k now : ℕ) (fresh : List ℕ) (server : model.Server) (logons : Logons)
    (f : ServerEnd) (before : ℕ) (cs : List hearing.Checked)
    (turns : List Placed) : Type 0 where
  pub given : List Given
  pub answered : List Placed
  pub lost : List Placed
  pub turns_are : turns ≡ answered ++ lost
  pub one : length lost ≤ 1
  pub are : AreGiven h answered given
  pub count : ℕ
  pub asked : AreFor k f (asked_all z k now fresh f (first_dealt server logons f before given) (take count cs)) turns

-- all went on: the messages with what they took over, and their replies
pub record MessagesGo (z : ServerSettings) (now : ℕ) (f : ServerEnd) (cs : List hearing.Checked) (x : CheckedFrame) (e : Dealt)
    (d : gives.Dealt) : Type 0 where
  pub goes : d.stopped ≡ None
  pub taken : List hearing.Checked
  pub shows : ShowsTaken x.bytes.items x.messages.items taken
  pub commands : SameCommands taken cs
  pub fails : FailRightly x.messages.items
  pub said : AreMessagesSaid z now f x.messages.items taken e.replies.items.items f.window d.going.replies d.going.window

abbrev pub MessagesEnd : ServerSettings → Course → ℕ → ℕ → List ℕ → model.Server → Logons → ServerEnd → ConnectionState
    → List hearing.Checked → List Placed
    → ConnectionState → CheckedFrame → Dealt → Result Unit ConnEnd → Type 0
MessagesEnd z h k now fresh server logons f old cs turns new x e (Ok u) = (d : gives.Dealt) × DealtBy z h k now fresh server logons f
    old.setups cs turns d
    × (new.setups ≡ d.setups) × MessagesGo z now f cs x e d
MessagesEnd z h k now fresh server logons f old cs turns new x e (Err (Stopped count)) = (d : gives.Dealt) × DealtBy z h k now fresh
    server logons f old.setups cs turns d
    × (d.stopped ≡ Some count)
MessagesEnd z h k now fresh server logons f old cs turns new x e (Err Memory) = MessagesLack z h k now fresh server logons f old.setups
    cs turns
MessagesEnd z h k now fresh server logons f old cs turns new x e (Err why) = ⊥

-- ---- its first messages, whatever is given to those behind them; these turns are for those of them that have an event

pub record MessagesSoFar (z : ServerSettings) (h : Course) (k now : ℕ) (fresh : List ℕ) (server : model.Server) (logons : Logons)
    (f : ServerEnd) (before : ℕ) (cs : List hearing.Checked) (at : ℕ)
    (turns : List Placed) (setups : ℕ) (x : CheckedFrame) (e : Dealt) (y : Option related.Carry) : Type 0 where
  pub d : gives.Dealt
  pub more : List model.Record
  pub facts : Facts z k now fresh server logons f cs at at x e y more (record { dealt = d; mishaps = [] })
  pub begins : GivenSoFar z k now fresh f (first_dealt server logons f before []) cs at d
  pub are : AreGiven h turns begins.given
  pub asked : AreFor k f begins.asks turns
  pub counted : setups ≡ d.setups

-- behind one more of them
abbrev pub MessageSteps : ServerSettings → Course → ℕ → ℕ → List ℕ → model.Server → Logons → ServerEnd → ℕ → List hearing.Checked → ℕ
    → List Placed → ℕ → CheckedFrame
    → Dealt → Result (Option Carry) ConnEnd → Type 0
MessageSteps z h k now fresh server logons f before cs at turns setups x e (Ok y) =
    MessagesSoFar z h k now fresh server logons f before cs at turns setups x e (option_map carry_of y)
MessageSteps z h k now fresh server logons f before cs at turns setups x e (Err (Stopped count)) =
    (d : gives.Dealt) × DealtBy z h k now fresh server logons f before cs turns d × (d.stopped ≡ Some count)
MessageSteps z h k now fresh server logons f before cs at turns setups x e (Err Memory) = MessagesLack z h k now fresh server logons f
    before cs turns
MessageSteps z h k now fresh server logons f before cs at turns setups x e (Err why) = ⊥

module _ {B : Type 0} where
  pub record TakesMessage (v : View B Turn Answer) (now : ℕ) (fresh : List ℕ) (old : ConnectionState) (x : CheckedFrame) (at : ℕ)
      (y : Option related.Carry) (e : Dealt) (new : ConnectionState) (x' : CheckedFrame) (e' : Dealt)
      (result : Result (Option Carry) ConnEnd) (w : View B Turn Answer) : Type 0 where
    pub turns : List Placed
    pub own : w.own ≡ v.own ++ turns
    pub at_once : AreAtOnce now fresh turns
    pub of_frame : AreOfSuch (holds_setup x.messages.items) turns
    pub conn : new.conn ≡ old.conn
    pub steps : (z : ServerSettings) (h : Course) (server : model.Server) (logons : Logons) (f : ServerEnd) (cs : List hearing.Checked)
        (before : ℕ) (former : List Placed)
        → AllMeet z h turns → ShowsEnd old.conn.id z.guid old.conn f → Alone cs → length x.messages.items ≡ length cs
        → MessagesSoFar z h old.conn.id now fresh server logons f before cs at former old.setups x e y
        → MessageSteps z h old.conn.id now fresh server logons f before cs (at + 1) (former ++ turns) new.setups x' e' result

  pub record TakesMessages (v : View B Turn Answer) (now : ℕ) (fresh : List ℕ) (old : ConnectionState) (x : CheckedFrame)
      (new : ConnectionState)
      (y : CheckedFrame) (e : Dealt) (result : Result Unit ConnEnd) (w : View B Turn Answer) : Type 0 where
    pub turns : List Placed
    pub own : w.own ≡ v.own ++ turns
    pub at_once : AreAtOnce now fresh turns
    pub of_frame : AreOfSuch (holds_setup x.messages.items) turns
    pub conn : new.conn ≡ old.conn
    pub kept : (y.sealed ≡ x.sealed) × (y.moment ≡ x.moment)
    pub ends : (z : ServerSettings) (h : Course) (server : model.Server) (logons : Logons) (f : ServerEnd) (F : hearing.Frame)
        → AllMeet z h turns
        → ShowsEnd old.conn.id z.guid old.conn f → ShowsFrame x F → Alone F.messages
        → MessagesEnd z h old.conn.id now fresh server logons f old F.messages turns new y e result
