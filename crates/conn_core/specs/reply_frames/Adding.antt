-- One reply put into frames, and the connection behind it.
use Rattle.std.specs.Prelude.{◌≡◌, ◌+◌, ◌≤◌, ◌<◌, ℕ, Bool, true, false, List, [], ◌∷◌, ◌++◌, length, Option, Some, None, Result, Ok, Err, ⊤}
use Rattle.std.specs.Prelude.{option_copied, slice_get}
use Rattle.spec_crypto.specs.declared.sessions.material.Keys.{Keys}
use Rattle.spec_crypto.specs.sessions.Nonces.{NonceState, last_counter}
use Rattle.spec_world.specs.Ends.{ServerEnd}
use Rattle.spec_world.specs.Answering as answering
use Rattle.conn_core.specs.declared.end.ConnEnd.{ConnEnd}
use Rattle.conn_core.specs.declared.end.ConnEnd.TheVariants.{Memory, Spent, Unsealable}
use Rattle.conn_core.specs.Shown.{MaySeal}
use Rattle.conn_core.specs.declared.frame_messages.checked.Checked.{Checked}
use Rattle.conn_core.specs.frame_messages.Checking.{HasMessage, ShowsGoing}
use Rattle.conn_core.specs.declared.reply_sealing.frames.Frames.{Frames}
use Rattle.conn_core.specs.declared.reply_sealing.said.Said.{Said}
use Rattle.conn_core.specs.reply_sealing.Saying.{CanPut, IsReplySaid}
use Rattle.conn_core.specs.reply_sealing.Joining.{ReplyAdds, FitsOpen, IsReplyBegun, joins_next}
use Rattle.conn_core.specs.declared.message_replies.saying.Answers.{Answers}
use Rattle.conn_core.specs.message_replies.Replying.{HelloFor, IsSound}
use Rattle.conn_core.specs.declared.logon_state.behind.Behind.{Behind}
use Rattle.conn_core.specs.logon_state.Behind.{ShowsBehind}

-- the reply r in code, of the message m that goes on as it stands
pub record IsReply (guid salt : List ℕ) (answers : Answers) (m : Checked) (said : Said) (r : answering.SaidReply) : Type 0 where
  pub said_is : IsReplySaid said r
  pub sound : IsSound r
  pub message : slice_get answers.asked.now.messages.items said.at ≡ Some m
  pub going : ShowsGoing answers.asked.now.bytes.items m r.request
  pub hello : HelloFor guid salt answers.asked.now.moment r.request (option_copied answers.hello)

-- the reply r was put behind those of front, and n goes on behind it or not; the connection was g
pub record AnswerPuts (keys : Option Keys) (first counted : NonceState) (sealed : Bool) (nonces : NonceState) (done front : List (List ℕ))
    (g : ServerEnd) (r : answering.SaidReply) (n : Option answering.SaidReply) (more : Bool) (frames : Frames)
    (behind : Behind) : Type 0 where
  pub more_is : more ≡ joins_next sealed (length (answering.concatenated front)) r n
  pub size : more ≡ true → length (answering.said_text sealed more r) ≡ answering.whole_size r
  pub written : IsReplyBegun keys first frames nonces done (front ++ answering.said_text sealed more r ∷ [])
  pub behind_is : ShowsBehind counted behind (answering.server_end_behind g r (answering.said_text sealed more r))

-- the same, and its frame is ended where n doesn't go on
pub record Added (keys : Option Keys) (first counted : NonceState) (sealed : Bool) (nonces : NonceState) (done front : List (List ℕ))
    (g : ServerEnd) (r : answering.SaidReply) (more : Bool) (frames : Frames) (after : NonceState) (behind : Behind) : Type 0 where
  pub sealed_is : frames.sealed ≡ sealed
  pub adds : ReplyAdds keys first frames after done front more (answering.said_text sealed more r)
  pub size : more ≡ true → length (answering.said_text sealed more r) ≡ answering.whole_size r
  pub counted_one : more ≡ false → sealed ≡ true → nonces.counter < last_counter
  pub short : more ≡ false → length (answering.concatenated (front ++ answering.said_text sealed more r ∷ [])) ≤ answering.text_limit sealed
  pub behind_is : ShowsBehind counted behind (answering.server_end_behind g r (answering.said_text sealed more r))

abbrev pub AddsWith : Option Keys → NonceState → NonceState → Bool → NonceState → List (List ℕ) → List (List ℕ) → ServerEnd
    → answering.SaidReply → Bool → Frames → NonceState → Behind → Result Unit ConnEnd → Type 0
AddsWith keys first counted sealed nonces done front g r more frames after behind (Ok u) =
    Added keys first counted sealed nonces done front g r more frames after behind
AddsWith keys first counted sealed nonces done front g r more frames after behind (Err Memory) = ⊤
AddsWith keys first counted sealed nonces done front g r more frames after behind (Err Spent) =
    (sealed ≡ true) × (nonces.counter ≡ last_counter)
AddsWith keys first counted sealed nonces done front g r more frames after behind (Err Unsealable) = (sealed ≡ true) × (MaySeal keys → ⊥)
AddsWith keys first counted sealed nonces done front g r more frames after behind (Err e) = ⊥

-- ---- room

-- the next reply has room, or no frame is open
abbrev pub NextFits : Frames → Option Said → Type 0
NextFits x None = x.open ≡ false
NextFits x (Some s) = FitsOpen x (64 + length s.body.now)

-- the reply that waits behind both
abbrev pub later_of : Option Said → Option Said → Option Said
later_of (Some next) waiting = Some next
later_of None waiting = waiting

-- a reply that waits has its message
pub record IsWaitable (answers : Answers) (s : Said) : Type 0 where
  pub message : HasMessage answers.asked.now s.at
  pub fits : CanPut s

abbrev pub CanWait : Answers → Option Said → Type 0
CanWait answers None = ⊤
CanWait answers (Some s) = IsWaitable answers s

-- ---- a reply that waits

abbrev pub IsWaiting : List ℕ → List ℕ → Answers → Option Said → Option answering.SaidReply → Type 0
IsWaiting guid salt answers None None = ⊤
IsWaiting guid salt answers (Some said) (Some r) = (m : Checked) × IsReply guid salt answers m said r
IsWaiting guid salt answers None (Some r) = ⊥
IsWaiting guid salt answers (Some said) None = ⊥
