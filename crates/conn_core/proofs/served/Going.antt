-- A server that answers goes on.
use Rattle.std.proofs.Common.{◌≡◌, ℕ, Bool, List, Option, Result, Ok, Err, sym, ◌∙◌}
use Rattle.spec_crypto.specs.tokens.Tokens.{Users}
use Rattle.spec_exchange.specs.State as model
use Rattle.spec_world.specs.Ends.{Logons}
use Rattle.server_checks.specs.declared.event_heard.event.ServerEvent.{ServerEvent}
use Rattle.server_checks.specs.declared.event_heard.event.ServerEvent.TheVariants as events
use Rattle.conn_core.specs.declared.served.error.ServeError.{ServeError}
use Rattle.conn_core.specs.declared.served.error.ServeError.TheVariants as errors
use Rattle.conn_core.specs.declared.served.serve.Reply.{Reply}
use Rattle.conn_core.specs.served.Serving.{Halts, ServerLoses, Onward, ServerReplies, ServerServes, Showing}

replies_on : (shown : Showing) (old new : Option ℕ) (users : Users) (s : model.Server) (L : Logons) (records : List model.Record)
    (now : ℕ) (event : ServerEvent) (r : Reply) → new ≡ old → ServerReplies shown users s L records now event r
    → ServerReplies (Onward shown old new) users s L records now event r
replies_on shown old new users s L records now (events.Message message) r same p = (p.0, p.1, (p.2, same))
replies_on shown old new users s L records now (events.Setup setup) r same p = (p.0, p.1, (p.2, same))
replies_on shown old new users s L records now (events.Accept connection) r same p = (p.0, p.1, (p.2, same))
replies_on shown old new users s L records now (events.End connection) r same p = (p.0, p.1, (p.2, same))
replies_on shown old new users s L records now events.Stop r same p = (p.0, p.1, (p.2, same))

loses_on : (shown : Showing) (old new : Option ℕ) (users : Users) (s : model.Server) (L : Logons) (records : List model.Record)
    (now : ℕ) (event : ServerEvent) (acted : Bool) → new ≡ old → ServerLoses shown users s L records now event acted
    → ServerLoses (Onward shown old new) users s L records now event acted
loses_on shown old new users s L records now (events.Message message) acted same p = (p.0, (p.1, same))
loses_on shown old new users s L records now (events.Setup setup) acted same p = (p.0, (p.1, same))
loses_on shown old new users s L records now (events.Accept connection) acted same p = (p.0, (p.1, same))
loses_on shown old new users s L records now (events.End connection) acted same p = (p.0, (p.1, same))
loses_on shown old new users s L records now events.Stop acted same p = (p.0, (p.1, same))

-- what it shows behind an event it shows as one that goes on where it went on before
pub serves_on : (shown : Showing) (before old new : Option ℕ) (users : Users) (s : model.Server) (L : Logons)
    (records : List model.Record) (now : ℕ) (event : ServerEvent) (result : Result Reply ServeError) → old ≡ before → Halts old new result
    → ServerServes shown users s L records now event result → ServerServes (Onward shown before new) users s L records now event result
serves_on shown before old new users s L records now event (Ok r) was halts p =
    replies_on shown before new users s L records now event r (halts.1 ∙ (sym halts.0 ∙ was)) p
serves_on shown before old new users s L records now event (Err errors.Memory) was halts p =
    (p.0, p.1, p.2, (p.3, halts.1 ∙ (sym halts.0 ∙ was)))
serves_on shown before old new users s L records now event (Err (errors.Unanswered acted)) was halts p =
    loses_on shown before new users s L records now event acted (halts.1 ∙ (sym halts.0 ∙ was)) p
serves_on shown before old new users s L records now event (Err (errors.Stopped count)) was halts p = tt
