-- What of an event its reply is written by.
use Rattle.std.specs.Prelude.{◌≡◌, ℕ, nat_le, Bool, false, ◌&&◌, if◌then◌else◌, List, length, Option, Some, None, ⊤}
use Rattle.server_core.specs.declared.event_replies.progress.Logon.{Logon}
use Rattle.server_checks.specs.declared.setups.setup.SetupHeard.{SetupHeard}
use Rattle.spec_commands.specs.ReplyBody.{reply_body}
use Rattle.spec_crypto.specs.declared.sessions.material.Signer.{Signer}
use Rattle.spec_crypto.specs.sessions.Signing.{verifies}
use Rattle.wire_commands.specs.values.Meaning.{command_of}
use Rattle.wire_commands.specs.declared.values.command.Command.{Command}
use Rattle.spec_exchange.specs.Commands as asks
use Rattle.spec_exchange.specs.State as model
use Rattle.server_checks.specs.declared.event_heard.event.ServerEvent.{ServerEvent}
use Rattle.server_checks.specs.declared.event_heard.event.ServerEvent.TheVariants as events
use Rattle.spec_world.specs.Ends.{Logons}

-- a command whose replies have the same bodies; a SESSION_SETUP's don't depend on what it says
abbrev pub HasShape : ServerEvent → Command → Type 0
HasShape (events.Message message) c = (token : List ℕ) (r : model.Reply)
    → reply_body token (command_of c) r ≡ reply_body token (command_of message.command) r
HasShape (events.Setup setup) c = (token : List ℕ) (q : asks.SetupRequest) (r : model.Reply)
    → reply_body token (command_of c) r ≡ reply_body token (asks.Setup q) r
HasShape _ c = ⊤

-- whether a binding has the signature of this signer
abbrev pub signs_binding : SetupHeard → Option Signer → Bool
signs_binding h None = false
signs_binding h (Some own) = h.form.binding && (h.form.signed && (nat_le 64 (length h.bytes.now) && verifies own h.bytes.now))

-- of a SESSION_SETUP whether it binds and is signed, what its connection chose to sign with, with what the own key of its session
-- signs, where it is live, and whether that signed it
pub record IsBookLogon (s : model.Server) (L : Logons) (h : SetupHeard) (l : Logon) : Type 0 where
  pub binds : l.binds ≡ h.form.binding
  pub signed : l.signed ≡ h.form.signed
  pub algorithm : l.algorithm ≡ h.chosen.signing
  pub signer : l.signer ≡ (if s.present h.session_id then Some (L.keys h.session_id).signing else None)
  pub verified : l.verified ≡ signs_binding h l.signer

abbrev pub BookLogonIs : model.Server → Logons → ServerEvent → Option Logon → Type 0
BookLogonIs s L (events.Setup h) None = ⊥
BookLogonIs s L (events.Setup h) (Some l) = IsBookLogon s L h l
BookLogonIs s L _ l = l ≡ None
