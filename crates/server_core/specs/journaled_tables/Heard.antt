-- An event as the server hears it, beside the model's.
use Rattle.std.specs.Prelude.{◌≡◌}
use Rattle.spec_exchange.specs.State as model
use Rattle.server_checks.specs.event_heard.Heard.{AskedAgrees, LogonFor, event_of, heard_event}
use Rattle.server_checks.specs.declared.event_heard.asked.Asked.{Asked}
use Rattle.server_checks.specs.declared.event_heard.event.ServerEvent.{ServerEvent}
use Rattle.server_checks.specs.setups.Setups.{in_the_making}
use Rattle.spec_crypto.specs.tokens.Tokens.{Users}
use Rattle.spec_world.specs.Ends.{Logons}

-- of logons in the making the server looks at those alone that are in it yet
pub record IsJournaledHeard (users : Users) (L : Logons) (s : model.Server) (e : ServerEvent) (a : Asked) : Type 0 where
  pub agrees : AskedAgrees a
  pub said : event_of a ≡ heard_event users (in_the_making s L) s e
  pub logon : LogonFor users (in_the_making s L) e a
