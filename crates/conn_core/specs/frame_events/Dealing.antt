-- The events of a frame over a server in code: what befalls each, and what they leave.
use Rattle.std.specs.Prelude.{◌≡◌, ◌≤◌, ◌<◌, ◌==◌, ℕ, Bool, true, false, not, ◌||◌, is_some, List, [], ◌∷◌, ◌++◌, length, take, slice_get}
use Rattle.std.specs.Prelude.{Option, Some, None, Result, Ok, Err, ⊤, IfOk}
use Rattle.spec_exchange.specs.State as model
use Rattle.spec_exchange.specs.Network.{answer_to}
use Rattle.spec_wire.specs.credits.Window.{HeldIds}
use Rattle.spec_world.specs.Related as related
use Rattle.spec_world.specs.Settings.{ServerSettings}
use Rattle.spec_world.specs.Ends.{ServerEnd, Logons}
use Rattle.spec_world.specs.Hearing as hearing
use Rattle.spec_world.specs.Logon.{progress, logons_behind}
use Rattle.spec_world.specs.Connection.{LastTaken, heard_message, said_to}
use Rattle.spec_world.specs.Given.{has_event}
use Rattle.spec_world.specs.Mishaps.{Mishap, Owned, owning, owned_all, LeaveAll}
use Rattle.spec_world.specs.Notes.{has_acted}
use Rattle.conn_core.specs.declared.served.error.ServeError.{ServeError}
use Rattle.conn_core.specs.declared.served.error.ServeError.TheVariants as errors
use Rattle.conn_core.specs.declared.end.ConnEnd.{ConnEnd}
use Rattle.conn_core.specs.declared.end.ConnEnd.TheVariants.{Memory, Stopped}
use Rattle.conn_core.specs.declared.frame_messages.checked.Checked.{Checked}
use Rattle.conn_core.specs.declared.frame_messages.checked.CheckedFrame.{CheckedFrame}
use Rattle.conn_core.specs.related.Carrying.{RelatedCarries, IsCarried}
use Rattle.conn_core.specs.declared.related.related.Carry.{Carry}
use Rattle.conn_core.specs.declared.served.serve.Reply.{Reply}
use Rattle.conn_core.specs.served.Refusing.{IsMessageRefused}
use Rattle.conn_core.specs.served.Replies.{some_acted, some_lacked}
use Rattle.conn_core.specs.served.Serving.{IsNamed, LeftBy, Showing}
use Rattle.conn_core.specs.message_replies.Replying.{AreMessagesSaid, AreMessagesShort, FailRightly, IsSaidTo, ShowsTaken}
use Rattle.conn_core.specs.frame_events.Written.{WriteAll}
use Rattle.conn_core.specs.declared.frame_events.handing.Dealt.{Dealt}

-- the answer to an event, of a message that has one
abbrev pub EventAnswer : Type 0
EventAnswer = Option (Result Reply ServeError)

abbrev pub stopped_by : Result Reply ServeError → Option ℕ
stopped_by (Err (errors.Stopped count)) = Some count
stopped_by _ = None

abbrev pub stop_in : EventAnswer → Option ℕ
stop_in None = None
stop_in (Some r) = stopped_by r

-- an event that was carried out, whose reply is lost
abbrev pub lost_by : Result Reply ServeError → Bool
lost_by (Err (errors.Unanswered acted)) = true
lost_by _ = false

abbrev pub lost_in : EventAnswer → Bool
lost_in None = false
lost_in (Some r) = lost_by r

abbrev pub AreShortIf : EventAnswer → Type 0
AreShortIf None = ⊤
AreShortIf (Some r) = AreMessagesShort (r ∷ [])

-- a message is taken: any but a CANCEL without an event, and one whose event was carried out
abbrev pub takes : Checked → EventAnswer → Bool
takes m None = not (m.header.command == 12)
takes m (Some (Ok r)) = true
takes m (Some (Err (errors.Unanswered acted))) = true
takes m (Some (Err e)) = false

-- the records of the messages that were taken
abbrev pub taken_records : Option LastTaken → List model.Record
taken_records None = []
taken_records (Some t) = t.answer.records

-- a NEGOTIATE is the only message of its frame
abbrev pub Alone : List hearing.Checked → Type 0
Alone cs = (i : ℕ) (c : hearing.Checked) → slice_get cs i ≡ Some c → hearing.is_negotiate c.header ≡ true → length cs ≤ 1

-- the same commands, in the same order
abbrev pub SameCommands : List hearing.Checked → List hearing.Checked → Type 0
SameCommands [] [] = ⊤
SameCommands (c ∷ cs) (d ∷ ds) = (c.header.command ≡ d.header.command) × SameCommands cs ds
SameCommands [] (d ∷ ds) = ⊥
SameCommands (c ∷ cs) [] = ⊥

-- ---- one event

-- the step's own answer, with the reply that is due of it
pub record GivesReply (shown : Showing) (z : ServerSettings) (k now : ℕ) (fresh : List ℕ) (s : model.Server) (L : Logons)
    (records : List model.Record) (f : ServerEnd) (c : hearing.Checked) (m : model.Message) (r : Reply) : Type 0 where
  pub state : let A = answer_to s now m m.command in
      shown A.server (logons_behind z.users L k f c fresh now (progress m.command A.reply)) (records ++ A.records)
  pub named : IsNamed r (answer_to s now m m.command).reply
  pub acted : r.acted ≡ (answer_to s now m m.command).acted
  pub said : (w : HeldIds) → IsSaidTo f w c r (said_to z k now fresh f L w c m.command (answer_to s now m m.command))

-- the step's own answer, whose reply is lost
pub record LosesReply (shown : Showing) (z : ServerSettings) (k now : ℕ) (fresh : List ℕ) (s : model.Server) (L : Logons)
    (records : List model.Record) (f : ServerEnd) (c : hearing.Checked) (m : model.Message) (acted : Bool) : Type 0 where
  pub state : let A = answer_to s now m m.command in
      shown A.server (logons_behind z.users L k f c fresh now (progress m.command A.reply)) (records ++ A.records)
  pub acted_is : acted ≡ (answer_to s now m m.command).acted

abbrev pub GivesBy : Showing → ServerSettings → ℕ → ℕ → List ℕ → model.Server → Logons → List model.Record → ServerEnd
    → hearing.Checked → model.Message → Result Reply ServeError → Type 0
GivesBy shown z k now fresh s L records f c m (Ok r) = GivesReply shown z k now fresh s L records f c m r
GivesBy shown z k now fresh s L records f c m (Err errors.Memory) =
    (t : model.Server) × (more : List model.Record) × LeftBy s now (model.Heard m) t more × shown t L (records ++ more)
GivesBy shown z k now fresh s L records f c m (Err (errors.Unanswered acted)) = LosesReply shown z k now fresh s L records f c m acted
GivesBy shown z k now fresh s L records f c m (Err (errors.Stopped count)) = ⊤

-- of a message that is heard; NEGOTIATE, ECHO and CANCEL have none and leave the server
abbrev pub GivesIf : Showing → ServerSettings → ℕ → ℕ → List ℕ → model.Server → Logons → List model.Record → ServerEnd
    → hearing.Checked → Option model.Message → EventAnswer → Type 0
GivesIf shown z k now fresh s L records f c None None = shown s L records
GivesIf shown z k now fresh s L records f c None (Some r) = ⊥
GivesIf shown z k now fresh s L records f c (Some m) None = (has_event m.command ≡ false) × shown s L records
GivesIf shown z k now fresh s L records f c (Some m) (Some r) =
    (has_event m.command ≡ true) × GivesBy shown z k now fresh s L records f c m r

abbrev pub GivesFor : Showing → ServerSettings → ℕ → ℕ → List ℕ → model.Server → Logons → List model.Record → ServerEnd
    → hearing.Checked → EventAnswer → Type 0
GivesFor shown z k now fresh s L records f c given = GivesIf shown z k now fresh s L records f c (heard_message z L k f c) given

-- ---- one message that goes its way

abbrev pub event_listed : EventAnswer → List (Result Reply ServeError)
event_listed None = []
event_listed (Some r) = r ∷ []

abbrev pub AddsTo : {A : Type 0} → EventAnswer → Dealt → Dealt → Result A ConnEnd → Type 0
AddsTo given old new (Ok u) =
    (stop_in given ≡ None) × (lost_in given ≡ false) × (new.replies.items.items ≡ old.replies.items.items ++ event_listed given)
AddsTo given old new (Err (Stopped count)) = (stop_in given ≡ Some count) × (new.replies.items.items ≡ old.replies.items.items)
AddsTo given old new (Err Memory) = (lost_in given ≡ true) × (new.replies.items.items ≡ old.replies.items.items ++ event_listed given)
AddsTo given old new (Err e) = ⊥

abbrev pub EventAdds : EventAnswer → Dealt → Dealt → Result Unit ConnEnd → Type 0
EventAdds given old new result = AddsTo given old new result × (new.took ≡ old.took)

pub record DealsOne (m : Checked) (bytes : List ℕ) (before : Option related.Carry) (given : EventAnswer) (old new : Dealt)
    (result : Result Carry ConnEnd) : Type 0 where
  pub short : AreShortIf given
  pub adds : AddsTo given old new result
  pub took : new.took ≡ (old.took || takes m given)
  pub carries : IfOk result (λ y. (c : hearing.Checked) → IsCarried m bytes c → RelatedCarries before c given y)

-- it has no event, but is refused with this status; or no memory was found for that
abbrev pub RefusesOne : Checked → List ℕ → Option related.Carry → ℕ → Dealt → Dealt → Result Carry ConnEnd → Type 0
RefusesOne m bytes before status old new (Ok y) = (r : Reply) × IsMessageRefused m status r
    × (new.replies.items.items ≡ old.replies.items.items ++ Ok r ∷ []) × (new.took ≡ old.took)
    × ((c : hearing.Checked) → IsCarried m bytes c → RelatedCarries before c (Some (Ok r)) y)
RefusesOne m bytes before status old new (Err Memory) = new ≡ old
RefusesOne m bytes before status old new (Err e) = ⊥

-- ---- all events of a frame

-- the mishaps of all events, and what the definitions make of them; cs are the messages as they were checked
pub record Dealing (z : ServerSettings) (k now : ℕ) (fresh : List ℕ) (s : model.Server)
    (L : Logons) (f : ServerEnd) (cs : List hearing.Checked) (d : Dealt) (w : Owned) : Type 0 where
  pub mishaps : List (Option Mishap)
  pub is : w ≡ owned_all z k now fresh f (owning s L f mishaps) cs
  pub left : LeaveAll z k now fresh f (owning s L f mishaps) cs
  pub none_missing : w.dealt.missing ≡ false
  pub none_left : w.mishaps ≡ []
  pub acted : has_acted w.dealt.going.taken ≡ some_acted d.replies.items.items
  pub lacked : w.dealt.lacked ≡ some_lacked d.replies.items.items
  pub took : is_some w.dealt.going.taken ≡ d.took

-- none of them stopped, and the server shows what they leave: the records of the messages that were taken, where no event found no
-- memory, and in any case those that each wrote
pub record EventLeaves (shown : Showing) (z : ServerSettings) (k now : ℕ) (fresh : List ℕ) (s : model.Server) (L : Logons)
    (records : List model.Record) (f : ServerEnd) (cs : List hearing.Checked) (mishaps : List (Option Mishap)) (w : Owned) : Type 0 where
  pub goes : w.dealt.stopped ≡ None
  pub more : List model.Record
  pub records_are : w.dealt.lacked ≡ false → more ≡ taken_records w.dealt.going.taken
  pub written : WriteAll z k now fresh f (owning s L f mishaps) cs more
  pub state : shown w.dealt.going.server w.dealt.going.logons (records ++ more)

-- all went on: the messages with what they took over, and their replies
pub record GoesThrough (z : ServerSettings) (now : ℕ) (f : ServerEnd) (cs : List hearing.Checked) (x : CheckedFrame) (d : Dealt)
    (w : Owned) : Type 0 where
  pub taken : List hearing.Checked
  pub shows : ShowsTaken x.bytes.items x.messages.items taken
  pub commands : SameCommands taken cs
  pub fails : FailRightly x.messages.items
  pub said : AreMessagesSaid z now f x.messages.items taken d.replies.items.items f.window w.dealt.going.replies w.dealt.going.window

-- the event of one message was carried out, but its reply is lost: it and those in front of it are a frame of their own
pub record LosesOne (shown : Showing) (z : ServerSettings) (k now : ℕ) (fresh : List ℕ) (s : model.Server) (L : Logons)
    (records : List model.Record) (f : ServerEnd) (cs : List hearing.Checked) (d : Dealt) : Type 0 where
  pub count : ℕ
  pub first : (0 < count) × (count ≤ length cs)
  pub w : Owned
  pub deal : Dealing z k now fresh s L f (take count cs) d w
  pub leaves : EventLeaves shown z k now fresh s L records f (take count cs) deal.mishaps w

abbrev pub Deals : Showing → ServerSettings → ℕ → ℕ → List ℕ → model.Server → Logons → List model.Record → ServerEnd
    → List hearing.Checked → CheckedFrame → Dealt → Result Unit ConnEnd → Type 0
Deals shown z k now fresh s L records f cs x d (Ok u) =
    (w : Owned) × (deal : Dealing z k now fresh s L f cs d w) × EventLeaves shown z k now fresh s L records f cs deal.mishaps w
    × GoesThrough z now f cs x d w
Deals shown z k now fresh s L records f cs x d (Err (Stopped count)) =
    (w : Owned) × Dealing z k now fresh s L f cs d w × (w.dealt.stopped ≡ Some count)
Deals shown z k now fresh s L records f cs x d (Err Memory) = LosesOne shown z k now fresh s L records f cs d
Deals shown z k now fresh s L records f cs x d (Err e) = ⊥
