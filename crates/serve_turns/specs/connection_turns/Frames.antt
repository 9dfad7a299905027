-- The frames of one connection, each by what was given for its events.
use Rattle.std.specs.Prelude.{◌≡◌, ◌≤◌, ℕ, Bool, true, List, [], ◌∷◌, ◌++◌, length, take, Some, None}
use Rattle.std.specs.Prelude.{Result, Ok, Err, slice_get, ⊤, ◌⊎◌}
use Rattle.spec_exchange.specs.State as model
use Rattle.spec_world.specs.Answering.{Seal}
use Rattle.spec_world.specs.Ends as world
use Rattle.spec_world.specs.Ends.{ServerEnd, Logons}
use Rattle.spec_world.specs.Given.{Given, GivenStep, given_step}
use Rattle.spec_world.specs.Hearing.{Checked, Frame, check_frame}
use Rattle.spec_world.specs.Settings.{ServerSettings}
use Rattle.conn_core.specs.declared.end.ConnEnd.{ConnEnd}
use Rattle.conn_core.specs.declared.end.ConnEnd.TheVariants as ends
use Rattle.conn_core.specs.declared.frame_messages.checked.Checked as code
use Rattle.conn_core.specs.frame_messages.Checking.{ShowsGoing, holds_setup}
use Rattle.conn_core.specs.reply_sealing.Saying.{all_framed}
use Rattle.conn_core.specs.frame_events.Shared.{asked_all, first_dealt}
use Rattle.conn_core.specs.reply_frames.Replying.{EndsAs}
use Rattle.conn_core.specs.requests.Asking.{IsRequestTold}
use Rattle.serve_turns.specs.declared.event_book.turn.Asks.{Asks}
use Rattle.serve_turns.specs.declared.event_book.turn.What.{What}
use Rattle.serve_turns.specs.declared.event_book.turn.What.TheVariants.{Accept, Message, End}
use Rattle.serve_turns.specs.event_book.History.{Course, On, Placed, Stand}

-- ---- turns of a connection for these messages, in order

-- the turn shows the message, and was told by this end
pub record IsFor (k : ℕ) (f : ServerEnd) (c : Checked) (a : Asks) : Type 0 where
  pub message : code.Checked
  pub here : slice_get a.frame.messages.items a.at ≡ Some message
  pub shows : ShowsGoing a.frame.bytes.items message c
  pub told : IsRequestTold f c a.told
  pub connection : a.told.connection ≡ k

abbrev pub IsTurnFor : ℕ → ServerEnd → Checked → What → Type 0
IsTurnFor k f c (Accept j) = ⊥
IsTurnFor k f c (Message a) = IsFor k f c a
IsTurnFor k f c (End j) = ⊥

abbrev pub AreFor : ℕ → ServerEnd → List Checked → List Placed → Type 0
AreFor k f [] [] = ⊤
AreFor k f (c ∷ cs) (x ∷ xs) = IsTurnFor k f c x.1.event.what × AreFor k f cs xs
AreFor k f [] (x ∷ xs) = ⊥
AreFor k f (c ∷ cs) [] = ⊥

-- what the history gave at their places
abbrev pub AreGiven : Course → List Placed → List Given → Type 0
AreGiven h [] [] = ⊤
AreGiven h (x ∷ xs) (g ∷ gs) = (h.given x.0 ≡ Some g) × AreGiven h xs gs
AreGiven h [] (g ∷ gs) = ⊥
AreGiven h (x ∷ xs) [] = ⊥

-- ---- turns of one moment, for which the connection told these random bytes

abbrev pub HasBytes : List ℕ → What → Type 0
HasBytes fresh (Accept k) = ⊤
HasBytes fresh (Message a) = a.told.fresh ≡ fresh
HasBytes fresh (End k) = ⊤

abbrev pub AreAtOnce : ℕ → List ℕ → List Placed → Type 0
AreAtOnce now fresh [] = ⊤
AreAtOnce now fresh (x ∷ xs) = (x.1.event.now ≡ now) × HasBytes fresh x.1.event.what × AreAtOnce now fresh xs

-- ---- turns for messages of a frame that holds a SESSION_SETUP, or of one that holds none

abbrev pub IsOfSuch : Bool → What → Type 0
IsOfSuch setup (Accept k) = ⊤
IsOfSuch setup (Message a) = holds_setup a.frame.messages.items ≡ setup
IsOfSuch setup (End k) = ⊤

abbrev pub AreOfSuch : Bool → List Placed → Type 0
AreOfSuch setup [] = ⊤
AreOfSuch setup (x ∷ xs) = IsOfSuch setup x.1.event.what × AreOfSuch setup xs

-- where the place of the first of them found a server that goes on, it stood so
abbrev pub FindsFirst : Course → List Placed → model.Server → Logons → Type 0
FindsFirst h [] s L = ⊤
FindsFirst h (x ∷ xs) s L = (stand : Stand) → h.found x.0 ≡ On stand → (stand.server ≡ s) × (stand.logons ≡ L)

-- ---- one frame: its turns are those of its messages, all of the frame's moment and with its random bytes, and what the connection makes
-- of what they were given, from the state on that the first of them found

abbrev pub AreAsked : ServerSettings → ℕ → ℕ → List ℕ → ℕ → model.Server → Logons → List Given → Result Frame world.ConnEnd → List Placed
    → Type 0
AreAsked z k now fresh before s L given (Ok x) turns =
    AreFor k x.server_end (asked_all z k now fresh x.server_end (first_dealt s L x.server_end before given) x.messages) turns
AreAsked z k now fresh before s L given (Err why) turns = turns ≡ []

pub record TakesFrame (z : ServerSettings) (h : Course) (k : ℕ) (f : ServerEnd) (before : ℕ) (frame : List ℕ) (turns : List Placed)
    (G : GivenStep) : Type 0 where
  pub now : ℕ
  pub fresh : List ℕ
  pub server : model.Server
  pub logons : Logons
  pub at_once : AreAtOnce now fresh turns
  pub first : FindsFirst h turns server logons
  pub given : List Given
  pub are : AreGiven h turns given
  pub is : G ≡ given_step z k now fresh before server logons f given frame
  pub matches : G.matches ≡ true
  pub asked : AreAsked z k now fresh before server logons given (check_frame f frame) turns

-- it was answered, and the connection goes on
pub record Answers (z : ServerSettings) (h : Course) (k : ℕ) (f : ServerEnd) (before : ℕ) (frame : List ℕ) (turns : List Placed)
    (bytes : List ℕ) (f' : ServerEnd) (before' : ℕ) (seals : List Seal) : Type 0 where
  pub step : GivenStep
  pub takes : TakesFrame z h k f before frame turns step
  pub goes_on : step.step.ends ≡ None
  pub bytes_are : bytes ≡ all_framed step.step.frames
  pub behind : f' ≡ step.step.server_end
  pub setups : before' ≡ step.setups
  pub seals_are : seals ≡ step.step.sealings

-- frames that were answered, one after the other
unfoldable pub AnswersAll : ServerSettings → Course → ℕ → ServerEnd → ℕ → List (List ℕ) → List Placed → List ℕ → ServerEnd → ℕ
    → List Seal → Type 0
AnswersAll z h k f before [] turns bytes f' before' seals =
    (turns ≡ []) × (bytes ≡ []) × (f' ≡ f) × (before' ≡ before) × (seals ≡ [])
AnswersAll z h k f before (frame ∷ frames) turns bytes f' before' seals =
    (own : List Placed) × (later : List Placed) × (said : List ℕ) × (rest : List ℕ) × (g : ServerEnd) × (setups : ℕ)
    × (made : List Seal) × (more : List Seal) × Answers z h k f before frame own said g setups made
    × AnswersAll z h k g setups frames later rest f' before' more × (turns ≡ own ++ later) × (bytes ≡ said ++ rest)
    × (seals ≡ made ++ more)

-- ---- a frame that was not answered

-- it ended the connection, for its own cause; its events stand
pub record EndsFrame (z : ServerSettings) (h : Course) (k : ℕ) (f : ServerEnd) (before : ℕ) (frame : List ℕ) (turns : List Placed)
    (why : ConnEnd) : Type 0 where
  pub step : GivenStep
  pub takes : TakesFrame z h k f before frame turns step
  pub cause : EndsAs why step.step.ends

-- Memory ran out: its turns are those of its first messages, of which the last one's reply may be lost, or there was none.
pub record LacksFrame (z : ServerSettings) (h : Course) (k : ℕ) (f : ServerEnd) (before : ℕ) (frame : List ℕ) (turns : List Placed)
    : Type 0 where
  pub now : ℕ
  pub fresh : List ℕ
  pub server : model.Server
  pub logons : Logons
  pub at_once : AreAtOnce now fresh turns
  pub first : FindsFirst h turns server logons
  pub given : List Given
  pub answered : List Placed
  pub lost : List Placed
  pub turns_are : turns ≡ answered ++ lost
  pub one : length lost ≤ 1
  pub are : AreGiven h answered given
  pub asked : (turns ≡ []) ⊎ ((x : Frame) × (count : ℕ) × (check_frame f frame ≡ Ok x)
      × AreAsked z k now fresh before server logons given (Ok (record x { messages = take count x.messages })) turns)

abbrev pub StopsFrame : ServerSettings → Course → ℕ → ServerEnd → ℕ → List ℕ → List Placed → ConnEnd → Type 0
StopsFrame z h k f before frame turns ends.Memory = LacksFrame z h k f before frame turns
StopsFrame z h k f before frame turns why = EndsFrame z h k f before frame turns why
