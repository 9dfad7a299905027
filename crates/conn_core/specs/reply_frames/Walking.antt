-- The replies of a frame, made one after the other while they are joined.
use Rattle.std.specs.Prelude.{◌≡◌, ◌==◌, ◌+◌, ◌≤◌, nat_le, ℕ, Bool, true, false, if◌then◌else◌, List, [], ◌∷◌, drop}
use Rattle.std.specs.Prelude.{length, Option, Some, None}
use Rattle.std.specs.Prelude.{Result, Ok, Err, ⊤, option_copied}
use Rattle.spec_crypto.specs.declared.sessions.material.Keys.{Keys}
use Rattle.spec_crypto.specs.sessions.Nonces.{NonceState, last_counter}
use Rattle.spec_wire.specs.credits.Window.{HeldIds}
use Rattle.spec_world.specs.Settings.{ServerSettings}
use Rattle.spec_world.specs.Ends.{ServerEnd}
use Rattle.spec_world.specs.Hearing as hearing
use Rattle.spec_world.specs.Answering as answering
use Rattle.spec_world.specs.Connection.{last_status}
use Rattle.conn_core.specs.declared.conn.Conn.{Conn}
use Rattle.conn_core.specs.declared.end.ConnEnd.{ConnEnd}
use Rattle.conn_core.specs.declared.end.ConnEnd.TheVariants.{Memory, Spent, Unsealable}
use Rattle.conn_core.specs.Shown.{MaySeal}
use Rattle.conn_core.specs.declared.frame_messages.checked.Checked.{Checked}
use Rattle.conn_core.specs.frame_messages.Checking.{GreetsFirst}
use Rattle.conn_core.specs.declared.negotiating.greeting.Hello.{Hello}
use Rattle.conn_core.specs.declared.reply_sealing.said.Said.{Said}
use Rattle.conn_core.specs.reply_sealing.Joining.{NextIs, reply_rows}
use Rattle.conn_core.specs.declared.message_replies.saying.Answers.{Answers}
use Rattle.conn_core.specs.message_replies.Replying.{AreMessagesSaid, AreSound, AskedBy, FailRightly, HelloFor, HelloOf}
use Rattle.conn_core.specs.message_replies.Replying.{ShowsTaken, has_message_event}
use Rattle.conn_core.specs.logon_state.Behind.{ShowsBehind}
use Rattle.conn_core.specs.declared.reply_frames.adding.Joining.{Joining}
use Rattle.conn_core.specs.declared.reply_frames.adding.Walk.{Walk}
use Rattle.conn_core.specs.reply_frames.Adding.{IsWaiting}
use Rattle.conn_core.specs.reply_frames.Joined.{AnswerJoins, JoinsBy, next_of, with_waiting}

-- nothing of the connection changes but its window and its nonces
pub record IsAlike (old new : Conn) : Type 0 where
  pub id : new.id ≡ old.id
  pub guid : new.guid ≡ old.guid
  pub salt : new.salt ≡ old.salt
  pub asked : new.asked ≡ old.asked
  pub logon : new.logon ≡ old.logon
  pub spare : new.spare ≡ old.spare

-- the frame's first message is a NEGOTIATE
abbrev pub first_greets : List Checked → Bool
first_greets [] = false
first_greets (m ∷ ms) = m.header.command == 0

-- how many answers were given behind the message at a place
abbrev pub place_behind : Option Checked → ℕ → ℕ
place_behind None place = place
place_behind (Some m) place = place + (if has_message_event m then 1 else 0)

-- each message has what answers it, if it is a NEGOTIATE
unfoldable pub HelloEach : List ℕ → List ℕ → ℕ → List hearing.Checked → Option Hello → Type 0
HelloEach guid salt now [] hello = ⊤
HelloEach guid salt now (c ∷ cs) hello = HelloFor guid salt now c hello × HelloEach guid salt now cs hello

unfoldable pub AllAsk : Bool → List answering.SaidReply → Type 0
AllAsk asked [] = ⊤
AllAsk asked (s ∷ ss) = AskedBy asked s.request × AllAsk asked ss

-- all is what is due of a frame, w the window behind it; what is left of it from a message on
pub record Walks (z : ServerSettings) (first counted : NonceState) (f g : ServerEnd) (all : List answering.SaidReply) (w : HeldIds)
    (answers : Answers) (at : ℕ) (conn : Conn) (joining : Joining) (walk : Walk) : Type 0 where
  pub left : List hearing.Checked
  pub rest : List answering.SaidReply
  pub waits : Option answering.SaidReply
  pub shows : ShowsTaken answers.asked.now.bytes.items (drop at answers.asked.now.messages.items) left
  pub hellos : HelloEach z.guid f.salt answers.asked.now.moment left (option_copied answers.hello)
  pub said : AreMessagesSaid z answers.asked.now.moment f (drop at answers.asked.now.messages.items) left
      (drop walk.place answers.replies.now.items.items) conn.window rest w
  pub sound : AreSound (with_waiting waits rest)
  pub waits_is : IsWaiting z.guid f.salt answers walk.waiting waits
  pub keys : f.keys ≡ conn.logon.keys
  pub joins : AnswerJoins f.keys first counted answers.asked.now.sealed g all joining.frames conn.nonces joining.behind waits rest
  pub last : last_status all ≡ last_status (with_waiting waits rest)

-- what adding the reply that waits tells, where the next one is said
abbrev pub AddsWaiting : Answers → Option Said → Said → Option Keys → Joining → NonceState → Joining → NonceState → Result Unit ConnEnd
    → Type 0
AddsWaiting answers waiting said keys x nonces y after result =
    (first counted : NonceState) (guid salt : List ℕ) (sealed : Bool) (g : ServerEnd) (all : List answering.SaidReply)
    (waits n : Option answering.SaidReply) (rest : List answering.SaidReply) → IsWaiting guid salt answers waiting waits
    → NextIs (Some said) n
    → next_of (with_waiting n rest) ≡ n → AnswerJoins keys first counted sealed g all x.frames nonces x.behind waits (with_waiting n rest)
    → JoinsBy keys first counted sealed g all y.frames after y.behind n rest result

abbrev pub LacksNonce : NonceState → Bool → List answering.SaidReply → Type 0
LacksNonce first sealed all =
    (sealed ≡ true) × (nat_le (first.counter + length (reply_rows sealed [] 0 all)) last_counter ≡ false)

abbrev pub WalksBy : ServerSettings → NonceState → NonceState → ServerEnd → ServerEnd → List answering.SaidReply → HeldIds → Answers → ℕ
    → Conn → Joining → Result Walk ConnEnd → Type 0
WalksBy z first counted f g all w answers at conn joining (Ok walk) = Walks z first counted f g all w answers at conn joining walk
WalksBy z first counted f g all w answers at conn joining (Err Memory) = ⊤
WalksBy z first counted f g all w answers at conn joining (Err Spent) = LacksNonce first answers.asked.now.sealed all
WalksBy z first counted f g all w answers at conn joining (Err Unsealable) =
    (answers.asked.now.sealed ≡ true) × (MaySeal f.keys → ⊥)
WalksBy z first counted f g all w answers at conn joining (Err e) = ⊥

-- ---- all of them

-- what is due of a frame: its messages as they stand, their replies ss, the window w and the end g behind those
pub record IsWalkDue (z : ServerSettings) (counted : NonceState) (f g : ServerEnd) (cs : List hearing.Checked)
    (ss : List answering.SaidReply)
    (w : HeldIds) (answers : Answers) (conn : Conn) (joining : Joining) : Type 0 where
  pub shows : ShowsTaken answers.asked.now.bytes.items answers.asked.now.messages.items cs
  pub rightly : FailRightly answers.asked.now.messages.items
  pub greets : GreetsFirst cs
  pub hello : HelloOf z.guid f.salt answers.asked.now.moment cs (option_copied answers.hello)
  pub said : AreMessagesSaid z answers.asked.now.moment f answers.asked.now.messages.items cs
      answers.replies.now.items.items conn.window ss w
  pub keys : f.keys ≡ conn.logon.keys
  pub salt : g.salt ≡ f.salt
  pub behind_is : ShowsBehind counted joining.behind g
  pub bound : conn.nonces.counter ≤ last_counter

-- first are the nonces before, g the end before, of which the nonces are counted already
pub record AddsAll (first counted : NonceState) (sealed : Bool) (f g : ServerEnd) (ss : List answering.SaidReply) (w : HeldIds) (new : Conn)
    (j : Joining) (status : Option ℕ) : Type 0 where
  pub joins : AnswerJoins f.keys first counted sealed g ss j.frames new.nonces j.behind None []
  pub status_is : status ≡ last_status ss
  pub window : new.window ≡ w

abbrev pub AddsBy : NonceState → NonceState → Bool → ServerEnd → ServerEnd → List answering.SaidReply → HeldIds → Conn → Joining
    → Result (Option ℕ) ConnEnd → Type 0
AddsBy first counted sealed f g ss w new j (Ok status) = AddsAll first counted sealed f g ss w new j status
AddsBy first counted sealed f g ss w new j (Err Memory) = ⊤
AddsBy first counted sealed f g ss w new j (Err Spent) = LacksNonce first sealed ss
AddsBy first counted sealed f g ss w new j (Err Unsealable) = (sealed ≡ true) × (MaySeal f.keys → ⊥)
AddsBy first counted sealed f g ss w new j (Err e) = ⊥
