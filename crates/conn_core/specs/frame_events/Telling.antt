-- What an event gives, by what its connection tells of its message, which stands in the bytes of its frame.
use Rattle.std.specs.Prelude.{◌≡◌, ℕ, true, false, Bool, List, ◌++◌, Option, Some, None, Result, Ok, Err, ⊤}
use Rattle.spec_exchange.specs.State as model
use Rattle.spec_exchange.specs.Network.{answer_to}
use Rattle.spec_wire.specs.credits.Window.{HeldIds}
use Rattle.spec_commands.specs.ReplyBody.{reply_body}
use Rattle.spec_world.specs.Settings.{ServerSettings}
use Rattle.spec_world.specs.Ends.{ServerEnd, Logons}
use Rattle.spec_world.specs.Hearing as hearing
use Rattle.spec_world.specs.Logon.{answer_token_by, progress, token_in}
use Rattle.spec_world.specs.Connection.{said_to}
use Rattle.spec_world.specs.Given.{has_event}
use Rattle.conn_core.specs.declared.frame_messages.checked.Checked.{Checked}
use Rattle.conn_core.specs.frame_messages.Checking.{ShowsGoing, message_in}
use Rattle.conn_core.specs.declared.requests.hearing.Told.{Told}
use Rattle.conn_core.specs.declared.served.error.ServeError.{ServeError}
use Rattle.conn_core.specs.declared.served.error.ServeError.TheVariants as errors
use Rattle.conn_core.specs.declared.served.serve.Reply.{Reply}
use Rattle.conn_core.specs.served.Serving.{IsNamed, LeftBy, Showing}
use Rattle.conn_core.specs.message_replies.Replying.{IsSaidTo}
use Rattle.conn_core.specs.requests.Asking.{IsRequestTold}
use Rattle.conn_core.specs.requests.Telling.{told_logons, told_message}
use Rattle.conn_core.specs.frame_events.Dealing.{EventAnswer}

-- The step's own answer. Of it each connection's end that told this makes the reply that is due.
pub record ToldReply (shown : Showing) (z : ServerSettings) (now : ℕ) (s : model.Server) (L : Logons) (records : List model.Record)
    (t : Told) (m : Checked) (bytes : List ℕ) (x : model.Message) (r : Reply) : Type 0 where
  pub state : let A = answer_to s now x x.command in
      shown A.server (told_logons z.users L t m (message_in bytes m) now (progress x.command A.reply)) (records ++ A.records)
  pub named : IsNamed r (answer_to s now x x.command).reply
  pub body : let A = answer_to s now x x.command in
      r.body
      ≡ reply_body (answer_token_by z.users (L.pending t.connection) (token_in (message_in bytes m)) t.fresh now (progress x.command A.reply))
      x.command A.reply
  pub acted : r.acted ≡ (answer_to s now x x.command).acted
  pub said : (f : ServerEnd) (c : hearing.Checked) → ShowsGoing bytes m c → IsRequestTold f c t → (w : HeldIds)
      → IsSaidTo f w c r (said_to z t.connection now t.fresh f L w c x.command (answer_to s now x x.command))

-- the step's own answer, whose reply is lost
pub record ToldLost (shown : Showing) (z : ServerSettings) (now : ℕ) (s : model.Server) (L : Logons) (records : List model.Record)
    (t : Told) (m : Checked) (bytes : List ℕ) (x : model.Message) (acted : Bool) : Type 0 where
  pub state : let A = answer_to s now x x.command in
      shown A.server (told_logons z.users L t m (message_in bytes m) now (progress x.command A.reply)) (records ++ A.records)
  pub acted_is : acted ≡ (answer_to s now x x.command).acted

-- where no memory was found all is as before, or behind one expiry alone
abbrev pub ToldBy : Showing → ServerSettings → ℕ → model.Server → Logons → List model.Record → Told → Checked → List ℕ → model.Message
    → Result Reply ServeError → Type 0
ToldBy shown z now s L records t m bytes x (Ok r) = ToldReply shown z now s L records t m bytes x r
ToldBy shown z now s L records t m bytes x (Err errors.Memory) =
    (v : model.Server) × (more : List model.Record) × LeftBy s now (model.Heard x) v more × shown v L (records ++ more)
ToldBy shown z now s L records t m bytes x (Err (errors.Unanswered acted)) = ToldLost shown z now s L records t m bytes x acted
ToldBy shown z now s L records t m bytes x (Err (errors.Stopped count)) = ⊤

-- NEGOTIATE, ECHO and CANCEL have no event and leave the server
abbrev pub ToldIf : Showing → ServerSettings → ℕ → model.Server → Logons → List model.Record → Told → Checked → List ℕ
    → Option model.Message → EventAnswer → Type 0
ToldIf shown z now s L records t m bytes None None = shown s L records
ToldIf shown z now s L records t m bytes None (Some r) = ⊥
ToldIf shown z now s L records t m bytes (Some x) None = (has_event x.command ≡ false) × shown s L records
ToldIf shown z now s L records t m bytes (Some x) (Some r) =
    (has_event x.command ≡ true) × ToldBy shown z now s L records t m bytes x r

abbrev pub ToldGives : Showing → ServerSettings → ℕ → model.Server → Logons → List model.Record → Told → Checked → List ℕ → EventAnswer
    → Type 0
ToldGives shown z now s L records t m bytes given =
    ToldIf shown z now s L records t m bytes (told_message z L t m (message_in bytes m)) given
