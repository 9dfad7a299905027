-- The answer to a frame in code: the frames that its replies are joined in.
use Rattle.std.specs.Prelude.{◌≡◌, ◌≤◌, ℕ, Bool, true, List, Option, Some, None, Result, Ok, Err, Vec, ⊤}
use Rattle.std.specs.Global.{Global}
use Rattle.spec_exchange.specs.State as model
use Rattle.spec_crypto.specs.sessions.Nonces.{last_counter}
use Rattle.spec_wire.specs.credits.Window.{HeldIds}
use Rattle.spec_world.specs.Settings.{ServerSettings}
use Rattle.spec_world.specs.Ends as ends
use Rattle.spec_world.specs.Ends.{ServerEnd, Logons}
use Rattle.spec_world.specs.Hearing as hearing
use Rattle.spec_world.specs.Answering as answering
use Rattle.spec_world.specs.Connection.{ConnectionStep, answered}
use Rattle.conn_core.specs.declared.served.error.ServeError.{ServeError}
use Rattle.conn_core.specs.declared.conn.Conn.{Conn}
use Rattle.conn_core.specs.declared.end.ConnEnd.{ConnEnd}
use Rattle.conn_core.specs.declared.end.ConnEnd.TheVariants.{Memory}
use Rattle.conn_core.specs.Shown.{MaySeal, ShowsEnd, IsEnd}
use Rattle.conn_core.specs.declared.frame_messages.checked.CheckedFrame.{CheckedFrame}
use Rattle.conn_core.specs.frame_messages.Checking.{GreetsFirst}
use Rattle.conn_core.specs.declared.served.serve.Reply.{Reply}
use Rattle.conn_core.specs.reply_sealing.Saying.{all_framed}
use Rattle.conn_core.specs.message_replies.Replying.{AreAsked, AreMessagesSaid, FailRightly, ShowsTaken}
use Rattle.conn_core.specs.declared.reply_frames.answering.Answered.{Answered}
use Rattle.conn_core.specs.reply_frames.Joined.{AreAtMost}

-- the messages of a frame as they stand, their replies ss, and the window w behind them; f is the end as the frame was checked
pub record AreAnswers (z : ServerSettings) (f : ServerEnd) (cs : List hearing.Checked) (ss : List answering.SaidReply) (w : HeldIds)
    (asked : CheckedFrame) (replies : List (Result Reply ServeError)) : Type 0 where
  pub seals : asked.sealed ≡ true → MaySeal f.keys
  pub shows : ShowsTaken asked.bytes.items asked.messages.items cs
  pub rightly : FailRightly asked.messages.items
  pub greets : GreetsFirst cs
  pub heard : AreAsked f.asked cs
  pub said : AreMessagesSaid z asked.moment f asked.messages.items cs replies f.window ss w
  pub bound : f.counter ≤ last_counter

abbrev pub walk_replied : model.Server → Logons → ServerEnd → Bool → HeldIds → List answering.SaidReply → ConnectionStep
walk_replied s L f sealed w ss =
    answered f sealed (record { server = s; logons = L; window = w; carried = None; taken = None; replies = ss })

abbrev pub EndsAs : ConnEnd → Option ends.ConnEnd → Type 0
EndsAs e None = ⊥
EndsAs e (Some why) = IsEnd e why

-- the frames of a step, each behind its length, and the connection behind it
pub record WalkGoes (k : ℕ) (guid : List ℕ) (S : ConnectionStep) (bytes : List ℕ) (new : Conn) : Type 0 where
  pub goes_on : S.ends ≡ None
  pub frames : bytes ≡ all_framed S.frames
  pub behind : ShowsEnd k guid new S.server_end
  pub bound : S.server_end.counter ≤ last_counter
  -- each fits a length of three bytes (2.1), with its transform header where it is sealed
  pub short : AreAtMost 1114112 S.frames

abbrev pub WalkReplies : ℕ → List ℕ → ConnectionStep → Conn → Result (Vec ℕ Global) ConnEnd → Type 0
WalkReplies k guid S new (Ok v) = WalkGoes k guid S v.items new
WalkReplies k guid S new (Err Memory) = ⊤
WalkReplies k guid S new (Err e) = EndsAs e S.ends

abbrev pub AnswersWith : ℕ → List ℕ → ConnectionStep → Conn → Result Answered ConnEnd → Type 0
AnswersWith k guid S new (Ok a) = WalkGoes k guid S a.bytes.items new × (a.status ≡ S.status)
AnswersWith k guid S new (Err Memory) = ⊤
AnswersWith k guid S new (Err e) = EndsAs e S.ends
