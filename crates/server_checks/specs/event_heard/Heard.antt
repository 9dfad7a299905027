-- The model's event of what the server hears, and what of a SESSION_SETUP stands beside it (MS-SMB2 3.3.5.5).
use Rattle.std.specs.Prelude.{◌≡◌, Bool, true, false, Option, Some, None, ⊤}
use Rattle.spec_exchange.specs.Commands as asks
use Rattle.spec_exchange.specs.State as says
use Rattle.spec_crypto.specs.tokens.Tokens.{Users}
use Rattle.spec_crypto.specs.tokens.Tokens.{shown, begun_by}
use Rattle.spec_world.specs.Ends.{Logons}
use Rattle.spec_world.specs.Logon as logon
use Rattle.wire_commands.specs.values.Meaning.{command_of, message_of}
use Rattle.server_checks.specs.session_table.Logons.{shown_of, begun_in}
use Rattle.server_checks.specs.setups.Setups.{setup_message}
use Rattle.server_checks.specs.declared.setups.setup.SetupHeard.{SetupHeard}
use Rattle.server_checks.specs.declared.event_heard.event.ServerEvent.{ServerEvent}
use Rattle.server_checks.specs.declared.event_heard.event.ServerEvent.TheVariants as events
use Rattle.server_checks.specs.declared.event_heard.asked.Asked.{Asked}
use Rattle.server_checks.specs.declared.event_heard.asked.Asked.TheVariants as askings
use Rattle.server_checks.specs.declared.event_heard.asked.LogonPart.{LogonPart}

-- a SESSION_SETUP that came without its bytes shows no token, and has no signature that verifies
abbrev pub without_token : asks.Command → asks.Command
without_token (asks.Setup request) = asks.Setup (record request { shows = asks.Bad; verified = false })
without_token c = c

-- a SESSION_SETUP with its bytes, which alone takes memory to be heard
abbrev pub is_setup_heard : ServerEvent → Bool
is_setup_heard (events.Setup setup) = true
is_setup_heard _ = false

-- the model's event of one that the server hears
abbrev pub heard_event : Users → Logons → says.Server → ServerEvent → says.ServerEvent
heard_event users L s (events.Accept connection) = says.Accept connection
heard_event users L s (events.Message message) = says.Heard (record (message_of message) {
  command = without_token (command_of message.command);
})
heard_event users L s (events.Setup setup) = says.Heard (setup_message users L s setup)
heard_event users L s (events.End connection) = says.End connection
heard_event users L s events.Stop = says.Stop

abbrev pub event_of : Asked → says.ServerEvent
event_of (askings.Accept connection) = says.Accept connection
event_of (askings.Says message logon) = says.Heard (message_of message)
event_of (askings.End connection) = says.End connection
event_of askings.Stop = says.Stop

-- What a SESSION_SETUP's token shows, a first one also what it begins, with what keys and challenges are made of; of any other event
-- there is none.
abbrev pub PartOf : Users → Logons → SetupHeard → Option LogonPart → Type 0
PartOf users L h None = ⊥
PartOf users L h (Some p) = (shown_of p.shown ≡ shown users (L.pending h.connection) h.form.token.now)
    × (begun_in p.shown ≡ begun_by users.bare h.form.token.now) × (p.chosen ≡ h.chosen) × (p.chain ≡ h.chain) × (p.fresh ≡ h.fresh)

abbrev pub HeardLogonIs : Users → Logons → ServerEvent → Option LogonPart → Type 0
HeardLogonIs users L (events.Setup h) p = PartOf users L h p
HeardLogonIs users L _ p = p ≡ None

abbrev pub part_in : Asked → Option LogonPart
part_in (askings.Says message logon) = logon
part_in _ = None

abbrev pub LogonFor : Users → Logons → ServerEvent → Asked → Type 0
LogonFor users L e a = HeardLogonIs users L e (part_in a)

-- the SESSION_SETUP in a command, of any other one that doesn't read
abbrev pub heard_no_setup : asks.SetupRequest
heard_no_setup = record {
  readable = false;
  binding = false;
  signed = false;
  verified = false;
  previous = 0;
  cipher = 0;
  signing = 0;
  shows = asks.Bad;
}

abbrev pub setup_in : asks.Command → asks.SetupRequest
setup_in (asks.Setup request) = request
setup_in _ = heard_no_setup

-- what a request says of its token and its algorithms is the part's
abbrev pub PartAgrees : asks.Command → Option LogonPart → Type 0
PartAgrees c None = ⊤
PartAgrees c (Some p) = ((setup_in c).shows ≡ logon.shows_of (shown_of p.shown)) × ((setup_in c).cipher ≡ p.chosen.cipher)
    × ((setup_in c).signing ≡ p.chosen.signing)

abbrev pub AskedAgrees : Asked → Type 0
AskedAgrees (askings.Says message logon) = PartAgrees (command_of message.command) logon
AskedAgrees _ = ⊤
