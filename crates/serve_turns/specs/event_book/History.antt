-- A server's history in the model: what each event found, and what it came to. No book is looked at.
use Rattle.std.specs.Prelude.{◌≡◌, ℕ, ◌+◌, List, [], ◌∷◌, length, Option, Some, None, Result, Ok, Err, slice_get, ⊤, ◌⊎◌}
use Rattle.spec_exchange.specs.Network.{answer_to}
use Rattle.spec_exchange.specs.State as model
use Rattle.spec_world.specs.Ends.{Logons}
use Rattle.spec_world.specs.Given.{Given, Answered, NoMemory, Stops}
use Rattle.spec_world.specs.Settings.{ServerSettings}
use Rattle.server_checks.specs.declared.event_heard.event.ServerEvent.{ServerEvent}
use Rattle.server_checks.specs.declared.event_heard.event.ServerEvent.TheVariants as events
use Rattle.conn_core.specs.declared.frame_messages.checked.Checked.{Checked}
use Rattle.conn_core.specs.frame_messages.Checking.{message_in}
use Rattle.conn_core.specs.declared.requests.hearing.Told.{Told}
use Rattle.conn_core.specs.requests.Telling.{told_message}
use Rattle.conn_core.specs.frame_events.Dealing.{EventAnswer}
use Rattle.conn_core.specs.frame_events.Telling.{ToldGives}
use Rattle.conn_core.specs.served.Serving.{ServerServes, Showing}
use Rattle.conn_core.specs.declared.served.error.ServeError.{ServeError}
use Rattle.conn_core.specs.declared.served.error.ServeError.TheVariants as errors
use Rattle.conn_core.specs.declared.served.serve.Reply.{Reply}
use Rattle.serve_turns.specs.declared.event_book.turn.Answer.{Answer}
use Rattle.serve_turns.specs.declared.event_book.turn.Asks.{Asks}
use Rattle.serve_turns.specs.declared.event_book.turn.Turn.{Turn}
use Rattle.serve_turns.specs.declared.event_book.turn.What.{What}
use Rattle.serve_turns.specs.declared.event_book.turn.What.TheVariants.{Accept, Message, End}
use Rattle.serve_turns.specs.declared.shared_book.view.Entry.{Entry}

-- ---- what the server is at a place of its history

pub record Stand : Type 0 where
  pub server : model.Server
  pub logons : Logons
  pub records : List model.Record

-- it goes on; or its disk failed, at this count of faults, and nothing more is taken
pub data Standing : Type 0 where
  On : (stand : Stand) → Standing
  Off : (count : ℕ) → Standing

-- it goes on at this state and no other
abbrev pub StandsAt : Standing → Showing
StandsAt to s L records = to ≡ On (record { server = s; logons = L; records = records })

-- ---- a message: the step's answer at what it found, and what the connection's half takes of it

abbrev pub GivenBy : ℕ → Told → Stand → model.Message → Result Reply ServeError → Standing → Option Given → Type 0
GivenBy now t old x (Ok r) to g = g ≡ Some (Answered now t.fresh old.logons (answer_to old.server now x x.command))
GivenBy now t old x (Err errors.Memory) to g = (s : Stand) × (to ≡ On s) × (g ≡ Some (NoMemory s.server))
GivenBy now t old x (Err (errors.Unanswered acted)) to g = g ≡ None
GivenBy now t old x (Err (errors.Stopped count)) to g = (to ≡ Off count) × (g ≡ Some (Stops count))

-- nothing of a message that asks nothing
abbrev pub GivenIf : ℕ → Told → Stand → Option model.Message → EventAnswer → Standing → Option Given → Type 0
GivenIf now t old (Some x) (Some r) to g = GivenBy now t old x r to g
GivenIf now t old None (Some r) to g = ⊥
GivenIf now t old due None to g = g ≡ None

pub record MeetsMessage (z : ServerSettings) (old : Stand) (now : ℕ) (a : Asks) (t : Answer) (g : Option Given) (to : Standing)
    : Type 0 where
  pub message : Checked
  pub here : slice_get a.frame.messages.items a.at ≡ Some message
  pub back : t.frame ≡ Some a.frame
  pub gives : ToldGives (StandsAt to) z now old.server old.logons old.records a.told message a.frame.bytes.items t.reply
  pub given : GivenIf now a.told old (told_message z old.logons a.told message (message_in a.frame.bytes.items message)) t.reply to g

-- ---- a connection that is made or lost

abbrev pub StopsAt : Result Reply ServeError → Standing → Type 0
StopsAt (Err (errors.Stopped count)) to = to ≡ Off count
StopsAt _ to = ⊤

pub record MeetsOther (z : ServerSettings) (old : Stand) (now : ℕ) (e : ServerEvent) (t : Answer) (g : Option Given) (to : Standing)
    : Type 0 where
  pub reply : Result Reply ServeError
  pub is : t.reply ≡ Some reply
  pub none_given : g ≡ None
  pub serves : ServerServes (StandsAt to) z.users old.server old.logons old.records now e reply
  pub stops : StopsAt reply to

-- ---- one event

abbrev pub MeetsOn : ServerSettings → Stand → ℕ → What → Answer → Option Given → Standing → Type 0
MeetsOn z old now (Accept k) t g to = MeetsOther z old now (events.Accept k) t g to
MeetsOn z old now (Message a) t g to = MeetsMessage z old now a t g to
MeetsOn z old now (End k) t g to = MeetsOther z old now (events.End k) t g to

-- behind a failure of the disk every event is answered so, with the same count
pub record MeetsOff (count : ℕ) (t : Answer) (g : Option Given) (to : Standing) : Type 0 where
  pub reply : t.reply ≡ Some (Err (errors.Stopped count))
  pub given : g ≡ Some (Stops count)
  pub stays : to ≡ Off count

-- what an event meets that finds the server so
abbrev pub MeetsFrom : ServerSettings → Standing → Entry Turn Answer → Option Given → Standing → Type 0
MeetsFrom z (On old) e g to = MeetsOn z old e.event.now e.event.what e.reply g to
MeetsFrom z (Off count) e g to = MeetsOff count e.reply g to

-- In front of an event the journal may be written anew: then it takes so many bytes, no records stand in it behind what it begins with, and
-- all else is as it was. The disk may fail in that too.
abbrev pub IsRenewed : Standing → Standing → Type 0
IsRenewed (On a) (On b) = (b ≡ a)
    ⊎ ((n : ℕ) × (b ≡ record { server = record a.server { journal = n }; logons = a.logons; records = [] }))
IsRenewed (On a) (Off count) = ⊤
IsRenewed (Off c) (On b) = ⊥
IsRenewed (Off c) (Off d) = c ≡ d

-- a turn: what its place found, renewed or not, and the event
abbrev pub Meets : ServerSettings → Standing → Entry Turn Answer → Option Given → Standing → Type 0
Meets z from e g to = (mid : Standing) × IsRenewed from mid × MeetsFrom z mid e g to

-- ---- the whole history: what was given at each place, and where it leads

unfoldable pub Runs : ServerSettings → Standing → List (Entry Turn Answer) → List (Option Given) → Standing → Type 0
Runs z from [] [] to = from ≡ to
Runs z from (e ∷ es) (g ∷ gs) to = (next : Standing) × Meets z from e g next × Runs z next es gs to
Runs z from [] (g ∷ gs) to = ⊥
Runs z from (e ∷ es) [] to = ⊥

-- ---- some entries of a history: what each place found, and what was given there

pub record Course : Type 0 where
  pub found : ℕ → Standing
  pub given : ℕ → Option Given

-- an event with its place in the history
abbrev pub Placed : Type 0
Placed = ℕ × Entry Turn Answer

abbrev pub MeetsAt : ServerSettings → Course → Placed → Type 0
MeetsAt z h x = Meets z (h.found x.0) x.1 (h.given x.0) (h.found (x.0 + 1))

abbrev pub AllMeet : ServerSettings → Course → List Placed → Type 0
AllMeet z h [] = ⊤
AllMeet z h (x ∷ xs) = MeetsAt z h x × AllMeet z h xs

-- the course of a whole history: each event meets what its place found
pub record RunsBy (z : ServerSettings) (from : Standing) (log : List (Entry Turn Answer)) (h : Course) (to : Standing) : Type 0 where
  pub begins : h.found 0 ≡ from
  pub meets : (i : ℕ) (e : Entry Turn Answer) → slice_get log i ≡ Some e → MeetsAt z h (i, e)
  pub ends : h.found (length log) ≡ to
