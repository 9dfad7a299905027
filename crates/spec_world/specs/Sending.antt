-- What the client's end of a connection sends (MS-SMB2 3.2.4.1, 3.2.4.2): its requests, signed or sealed, and the tokens of a dialog.
use Rattle.std.specs.Prelude.{ℕ, ◌+◌, Bool, true, false, ◌||◌, not, nat_lt, if◌then◌else◌, List, [], ◌∷◌, length, Option, Some}
use Rattle.std.specs.Prelude.{None}
use Rattle.spec_wire.specs.declared.messages.header.Header.{Header}
use Rattle.spec_wire.specs.messages.SessionSetup.{session_setup_request_spelling}
use Rattle.spec_exchange.specs.Table.{put}
use Rattle.spec_exchange.specs.State.{Message}
use Rattle.spec_exchange.specs.Network.{Token}
use Rattle.spec_commands.specs.BodyOf.{body_of, number_of_command}
use Rattle.spec_commands.specs.Tables.{bit_if}
use Rattle.spec_wire.specs.credits.Purse.{after_spend}
use Rattle.spec_crypto.specs.sessions.Signing.{signed}
use Rattle.spec_crypto.specs.sessions.Sealing.{sealed}
use Rattle.spec_crypto.specs.sessions.Nonces.{last_counter}
use Rattle.spec_crypto.specs.tokens.Answer.{Credentials}
use Rattle.spec_crypto.specs.tokens.Tokens.{answer_token}
use Rattle.spec_world.specs.Settings.{ClientSettings}
use Rattle.spec_world.specs.Messages.{message_spelling, unsigned_field}
use Rattle.spec_world.specs.Ends.{ClientEnd, nonce_at}
use Rattle.spec_world.specs.Negotiate.{negotiate_request_body}
use Rattle.spec_world.specs.Answering.{Seal}

-- ---- headers (2.2.1.2): each request asks for 512 credits; flags signed 8 and replay 0x20000000

abbrev pub request_header : Message → ℕ → ℕ → Bool → Header
request_header m charge command is_signed = record {
  charge = charge;
  status = m.channel_sequence;
  command = command;
  credits = 512;
  flags = bit_if is_signed 8 + bit_if m.replay 0x2000_0000;
  next = 0;
  message = m.message_id;
  tree = m.tree_id;
  session = m.session_id;
  signature = unsigned_field;
}

-- ---- a request on a line

unfoldable pub request_text : Message → ℕ → Bool → List ℕ
request_text m charge is_signed = message_spelling (request_header m charge (number_of_command m.command) is_signed) (body_of m.command)

-- sealed where the channel seals, else signed
abbrev pub line_frame : ClientEnd → Message → ℕ → List ℕ
line_frame n m charge =
    if n.encrypts then sealed n.keys true (nonce_at n.channel n.counter) (request_text m charge false)
    else signed n.keys.signing (request_text m charge true)

abbrev pub seal_to_server : ClientEnd → List ℕ → Seal
seal_to_server n text = record { session = n.keys.session; to_server = true; channel = n.channel; counter = n.counter; text = text }

abbrev pub seal_sent : ClientEnd → Message → ℕ → List Seal
seal_sent n m charge = if n.encrypts then seal_to_server n (request_text m charge false) ∷ [] else []

-- a nonce is left where one is wanted
abbrev pub may_seal : ClientEnd → Bool
may_seal n = not n.encrypts || nat_lt n.counter last_counter

-- its id is awaited, and paid for
abbrev pub spent : ClientEnd → ℕ → Token → ClientEnd
spent n charge token = record n { purse = after_spend charge n.purse; awaited = put n.awaited n.purse.next (Some token) }

abbrev pub sealed_on : ClientEnd → ClientEnd
sealed_on n = record n { counter = if n.encrypts then n.counter + 1 else n.counter }

-- ---- the messages of a dialog; each takes one credit

-- NEGOTIATE, with its salt of 32 bytes
unfoldable pub greeting_text : ClientSettings → List ℕ → Message → List ℕ
greeting_text c salt m = message_spelling (request_header m 1 0 false) (negotiate_request_body c salt)

-- SESSION_SETUP (2.2.5): Flags binding 1; SecurityMode 1
unfoldable pub setup_text : Bool → ℕ → List ℕ → Message → List ℕ
setup_text bound previous token m =
    message_spelling (request_header m 1 1 bound) (session_setup_request_spelling (record {
      flags = bit_if bound 1;
      security_mode = 1;
      capabilities = 0;
      channel = 0;
      previous_session_id = previous;
      security = token;
    }))

-- in a binding it is signed with the session's key
abbrev pub setup_frame : ClientEnd → Bool → ℕ → List ℕ → Message → List ℕ
setup_frame n bound previous token m =
    if bound then signed n.keys.signing (setup_text bound previous token m) else setup_text bound previous token m

-- ---- the logon's own tokens

abbrev pub credentials_of : ClientSettings → ClientEnd → Credentials
credentials_of c n = record { user = c.user; password = c.password; domain = []; challenge = n.challenge; key = n.base }

-- a token whose length SecurityBufferLength tells (2.2.5)
abbrev pub that_fits : Option (List ℕ) → Option (List ℕ)
that_fits None = None
that_fits (Some token) = if nat_lt (length token) 65536 then Some token else None

-- the answer to an interim token, where that reads and the answer fits its field
unfoldable pub answer_of : ClientSettings → ClientEnd → List ℕ → Option (List ℕ)
answer_of c n token = that_fits (answer_token (credentials_of c n) token)

abbrev pub or_no_token : Option (List ℕ) → List ℕ
or_no_token None = []
or_no_token (Some token) = token
