-- What taking a whole frame over a server tells.
use Rattle.std.specs.Prelude.{◌≡◌, ◌<◌, ◌≤◌, ℕ, Bool, true, false, if◌then◌else◌, List, ◌++◌, length, take, is_some}
use Rattle.std.specs.Prelude.{Option, Some, Result, Ok, Err, ⊤, ◌⊎◌}
use Rattle.spec_exchange.specs.State as model
use Rattle.spec_exchange.specs.Status.{no_memory}
use Rattle.spec_world.specs.Settings.{ServerSettings}
use Rattle.spec_world.specs.Ends as ends
use Rattle.spec_world.specs.Ends.{ServerEnd, Logons}
use Rattle.spec_world.specs.Hearing as hearing
use Rattle.spec_world.specs.Hearing.{check_frame}
use Rattle.spec_world.specs.Connection.{ConnectionStep}
use Rattle.spec_world.specs.Given.{GivenStep}
use Rattle.spec_world.specs.Mishaps.{Mishap, owned_of, AreLeft}
use Rattle.spec_world.specs.Notes as notes
use Rattle.conn_core.specs.declared.conn.Conn.{Conn}
use Rattle.conn_core.specs.declared.end.ConnEnd.{ConnEnd}
use Rattle.conn_core.specs.declared.end.ConnEnd.TheVariants.{Memory, Stopped}
use Rattle.conn_core.specs.served.Replies.{some_acted, some_lacked}
use Rattle.conn_core.specs.served.Serving.{Showing}
use Rattle.conn_core.specs.reply_frames.Replying.{EndsAs, WalkGoes}
use Rattle.conn_core.specs.frame_events.Dealing.{taken_records}
use Rattle.conn_core.specs.frame_events.Written.{AreWritten}
use Rattle.conn_core.specs.declared.frame_events.handing.Dealt.{Dealt}
use Rattle.conn_core.specs.declared.end.Ended.{Ended}
use Rattle.conn_core.specs.declared.taking.StepNote.{StepNote}
use Rattle.conn_core.specs.declared.taking.Taken.{Taken}

abbrev pub note_of : StepNote → notes.StepNote
note_of n = record { status = n.status; acted = n.acted }

-- what the events of a frame came to, in an end
pub record IsEnded (why : ConnEnd) (d : Dealt) (e : Ended) : Type 0 where
  pub why_is : e.why ≡ why
  pub acted : e.acted ≡ some_acted d.replies.items.items
  pub took : e.took ≡ d.took
  pub lacked : e.lacked ≡ some_lacked d.replies.items.items

-- What befell the frame's events, as many as it has, and the step that this makes: without a mishap the connection's own. Where an
-- event found no memory the server is as before, or changed by one expiry alone. heard is what was checked of the frame.
pub record IsOwned (z : ServerSettings) (k now : ℕ) (fresh : List ℕ) (s : model.Server) (L : Logons) (f : ServerEnd)
    (heard : Result hearing.Frame ends.ConnEnd) (G : GivenStep) : Type 0 where
  pub mishaps : List (Option Mishap)
  pub is : G ≡ owned_of z k now fresh s L f mishaps heard
  pub matches : G.matches ≡ true
  pub left : AreLeft z k now fresh s L mishaps heard

-- the server shows what the step leaves, with the records that its events wrote: those of the messages that were taken, where no event
-- found no memory
pub record IsFrameLeft (shown : Showing) (written : List model.Record → Type 0) (records : List model.Record) (G : GivenStep) : Type 0 where
  pub more : List model.Record
  pub records_are : G.lacked ≡ false → more ≡ taken_records G.step.taken
  pub wrote : written more
  pub state : shown G.step.server G.step.logons (records ++ more)

-- a message acted, one was taken, an event found no memory
pub record IsFrameTold (acted took lacked : Bool) (G : GivenStep) : Type 0 where
  pub acted_is : acted ≡ notes.has_acted G.step.taken
  pub took_is : took ≡ is_some G.step.taken
  pub lacked_is : lacked ≡ G.lacked

pub record FrameTakesOn (shown : Showing) (written : List model.Record → Type 0) (k : ℕ) (guid : List ℕ) (records : List model.Record)
    (new : Conn) (t : Taken) (G : GivenStep) : Type 0 where
  pub goes : WalkGoes k guid G.step t.bytes new
  pub note : note_of t.note ≡ notes.note_of_given G
  pub told : IsFrameTold t.note.acted t.took t.lacked G
  pub left : IsFrameLeft shown written records G

-- an end in place of an answer; what was carried out stands
pub record FrameEndsAt (shown : Showing) (written : List model.Record → Type 0) (records : List model.Record) (e : Ended) (G : GivenStep)
    : Type 0 where
  pub told : IsFrameTold e.acted e.took e.lacked G
  pub left : IsFrameLeft shown written records G
  pub why : EndsAs e.why G.step.ends

-- a server that stopped; what it shows then is its own matter
pub record FrameStopsAt (e : Ended) (count : ℕ) (G : GivenStep) : Type 0 where
  pub told : IsFrameTold e.acted e.took e.lacked G
  pub why : G.step.ends ≡ Some (ends.Stopped count)

-- Where memory is missing for the answer as a whole all events were carried out.
pub record LacksRoom (shown : Showing) (written : List model.Record → Type 0) (records : List model.Record) (e : Ended) (G : GivenStep)
    : Type 0 where
  pub told : IsFrameTold e.acted e.took e.lacked G
  pub left : IsFrameLeft shown written records G

-- or none, where it is missing for the frame
pub record LacksAll (shown : Showing) (s : model.Server) (L : Logons) (records : List model.Record) (e : Ended) : Type 0 where
  pub told : (e.acted ≡ false) × (e.took ≡ false) × (e.lacked ≡ false)
  pub state : shown s L records

-- the first messages of a frame alone
abbrev pub first_of : ℕ → hearing.Frame → hearing.Frame
first_of count F = record F { messages = take count F.messages }

-- or those of the first messages alone, where it is missing for the reply to the last of these, whose event stands
pub record LacksReply (shown : Showing) (z : ServerSettings) (k now : ℕ) (fresh : List ℕ) (s : model.Server) (L : Logons)
    (records : List model.Record) (f : ServerEnd) (heard : Result hearing.Frame ends.ConnEnd) (e : Ended) : Type 0 where
  pub frame : hearing.Frame
  pub heard_is : heard ≡ Ok frame
  pub count : ℕ
  pub first : (0 < count) × (count ≤ length frame.messages)
  pub given : GivenStep
  pub owned : IsOwned z k now fresh s L f (Ok (first_of count frame)) given
  pub told : IsFrameTold e.acted e.took e.lacked given
  pub left : IsFrameLeft shown (AreWritten z k now fresh s L owned.mishaps (Ok (first_of count frame))) records given

abbrev pub FrameEndsBy : Showing → ServerSettings → ℕ → ℕ → List ℕ → model.Server → Logons → List model.Record → ServerEnd
    → Result hearing.Frame ends.ConnEnd → Ended → ConnEnd → Type 0
FrameEndsBy shown z k now fresh s L records f heard e Memory =
    LacksAll shown s L records e
    ⊎ (((G : GivenStep) × (own : IsOwned z k now fresh s L f heard G)
    × LacksRoom shown (AreWritten z k now fresh s L own.mishaps heard) records e G)
    ⊎ LacksReply shown z k now fresh s L records f heard e)
FrameEndsBy shown z k now fresh s L records f heard e (Stopped count) =
    (G : GivenStep) × IsOwned z k now fresh s L f heard G × FrameStopsAt e count G
FrameEndsBy shown z k now fresh s L records f heard e why =
    (G : GivenStep) × (own : IsOwned z k now fresh s L f heard G)
    × FrameEndsAt shown (AreWritten z k now fresh s L own.mishaps heard) records e G

abbrev pub TakesBy : Showing → ServerSettings → ℕ → ℕ → List ℕ → model.Server → Logons → List model.Record → ServerEnd
    → Result hearing.Frame ends.ConnEnd → Conn → Result Taken Ended → Type 0
TakesBy shown z k now fresh s L records f heard new (Ok t) =
    (G : GivenStep) × (own : IsOwned z k now fresh s L f heard G)
    × FrameTakesOn shown (AreWritten z k now fresh s L own.mishaps heard) k z.guid records new t G
TakesBy shown z k now fresh s L records f heard new (Err e) = FrameEndsBy shown z k now fresh s L records f heard e e.why

-- an event of the frame found no memory
abbrev pub frame_lacked : Result Taken Ended → Bool
frame_lacked (Ok t) = t.lacked
frame_lacked (Err e) = e.lacked

-- of a frame
abbrev pub FrameTakes : Showing → ServerSettings → ℕ → ℕ → List ℕ → model.Server → Logons → List model.Record → ServerEnd → List ℕ → Conn
    → Result Taken Ended → Type 0
FrameTakes shown z k now fresh s L records f frame new result =
    TakesBy shown z k now fresh s L records f (check_frame f frame) new result

-- of a checked one
abbrev pub FrameServes : Showing → ServerSettings → ℕ → ℕ → List ℕ → model.Server → Logons → List model.Record → ServerEnd → hearing.Frame
    → Conn → Result Taken Ended → Type 0
FrameServes shown z k now fresh s L records f F new result = TakesBy shown z k now fresh s L records f (Ok F) new result

-- ---- an end by a server that stopped: it stands stopped at that count

abbrev pub HaltsAt : Option ℕ → Result Taken Ended → Type 0
HaltsAt after (Ok t) = ⊤
HaltsAt after (Err e) = (count : ℕ) → e.why ≡ Stopped count → after ≡ Some count

-- ---- the answer, and what is told of it

pub record FinishesWith (k : ℕ) (guid : List ℕ) (S : ConnectionStep) (d : Dealt) (new : Conn) (t : Taken) : Type 0 where
  pub goes : WalkGoes k guid S t.bytes new
  pub status : t.note.status ≡ (if some_lacked d.replies.items.items then Some no_memory else S.status)
  pub acted : t.note.acted ≡ some_acted d.replies.items.items
  pub took : t.took ≡ d.took
  pub lacked : t.lacked ≡ some_lacked d.replies.items.items

abbrev pub FailsWith : ConnectionStep → ConnEnd → Type 0
FailsWith S Memory = ⊤
FailsWith S why = EndsAs why S.ends

abbrev pub FrameFinishes : ℕ → List ℕ → ConnectionStep → Dealt → Conn → Result Taken Ended → Type 0
FrameFinishes k guid S d new (Ok t) = FinishesWith k guid S d new t
FrameFinishes k guid S d new (Err e) = IsEnded e.why d e × FailsWith S e.why
