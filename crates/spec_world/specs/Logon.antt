-- SESSION_SETUP at the server (MS-SMB2 3.3.5.5, 3.3.5.5.2, 3.3.5.5.3): what its token shows, the tokens that answer it, and the keys
-- that a logon comes to.
use Rattle.std.specs.Prelude.{ℕ, ◌==◌, Bool, false, not, ◌||◌, if◌then◌else◌, List, [], ◌∷◌, ◌++◌, take, Option, Some, None}
use Rattle.spec_wire.specs.messages.SessionSetup.{session_setup_request_in}
use Rattle.spec_crypto.specs.declared.sessions.material.Keys.{Keys}
use Rattle.spec_crypto.specs.declared.sessions.material.Signer.{Signer}
use Rattle.spec_crypto.specs.sessions.Chain.{chain}
use Rattle.spec_crypto.specs.sessions.Derivation.{keys_of, bound_keys}
use Rattle.spec_crypto.specs.tokens.Tokens.{Users, Begun, Pending, Shown, Begins as TokenBegins, Bad as TokenBad}
use Rattle.spec_crypto.specs.tokens.Tokens.{Refused as TokenRefused, LoggedOn}
use Rattle.spec_crypto.specs.tokens.Tokens.{begun_by, second_of, challenge_token, shown, final_token}
use Rattle.spec_exchange.specs.Table.{put}
use Rattle.spec_exchange.specs.Status.{success, more_processing_required, user_session_deleted}
use Rattle.spec_exchange.specs.Commands.{Command, Setup, SetupRequest, Shows, Begins, Bad, Refused, Logon}
use Rattle.spec_exchange.specs.State.{Body, SetUp, Reply, Server}
use Rattle.spec_world.specs.Ends.{ServerEnd, Greeting, Logons, chosen_on, signer_on}
use Rattle.spec_world.specs.Hearing.{Checked, is_probe}
use Rattle.spec_commands.specs.ReplyBody.{seals_in}

-- ---- tokens

-- the token of a SESSION_SETUP, from its header on
unfoldable pub token_in : List ℕ → List ℕ
token_in m = (session_setup_request_in m).security

abbrev pub shows_of : Shown → Shows
shows_of TokenBegins = Begins
shows_of TokenBad = Bad
shows_of TokenRefused = Refused
shows_of (LoggedOn logon signs) = Logon logon.user

-- what a token shows to the model of values
abbrev pub token_shows : Users → Option Pending → List ℕ → Shows
token_shows users pending token = shows_of (shown users pending token)

-- the exported key of the logon that it shows
abbrev pub exported_by : Shown → List ℕ
exported_by (LoggedOn logon signs) = logon.key
exported_by _ = []

unfoldable pub exported : Users → Option Pending → List ℕ → List ℕ
exported users pending token = exported_by (shown users pending token)

-- ---- what a SESSION_SETUP comes to

pub data Progress : Type 0 where
  Stays : Progress
  Interim : (binding : Bool) → Progress
  Final : (binding : Bool) (channel : ℕ) (encrypts : Bool) → Progress

abbrev pub channel_in : Body → ℕ
channel_in (SetUp encrypts channel) = channel
channel_in _ = 0

abbrev pub setup_progress : Bool → Reply → Progress
setup_progress binding r =
    if r.status == more_processing_required then Interim binding
    else if r.status == success then Final binding (channel_in r.body) (seals_in r.body)
    else Stays

abbrev pub progress : Command → Reply → Progress
progress (Setup request) r = setup_progress request.binding r
progress _ r = Stays

-- ---- the logon in the making behind an interim response: for a first token, 8 random bytes and a moment

abbrev pub pending_with : Option Begun → List ℕ → ℕ → Option Pending
pending_with None fresh now = None
pending_with (Some b) fresh now = Some (record {
  list = b.list;
  server = take 8 fresh;
  first = b.first;
  second = second_of b (take 8 fresh) now;
})

unfoldable pub pending_by : Bool → List ℕ → List ℕ → ℕ → Option Pending
pending_by bare token fresh now = pending_with (begun_by bare token) fresh now

-- ---- the tokens that answer

abbrev pub challenge_of : Option Pending → List ℕ
challenge_of None = []
challenge_of (Some p) = challenge_token p.list p.second

abbrev pub final_by : List ℕ → Shown → List ℕ
final_by list (LoggedOn logon signs) = final_token list logon signs
final_by list _ = []

abbrev pub final_of : Users → Option Pending → List ℕ → List ℕ
final_of users None token = []
final_of users (Some p) token = final_by p.list (shown users (Some p) token)

-- the token of the response: the challenge of a first one, the end of a second
unfoldable pub answer_token_by : Users → Option Pending → List ℕ → List ℕ → ℕ → Progress → List ℕ
answer_token_by users pending token fresh now Stays = []
answer_token_by users pending token fresh now (Interim binding) = challenge_of (pending_by users.bare token fresh now)
answer_token_by users pending token fresh now (Final binding channel encrypts) = final_of users pending token

-- ---- transcripts and keys

abbrev pub greeting_transcript : Option Greeting → List (List ℕ)
greeting_transcript None = []
greeting_transcript (Some g) = g.transcript

abbrev pub made_or_greeted : Option (List (List ℕ)) → Option Greeting → List (List ℕ)
made_or_greeted None g = greeting_transcript g
made_or_greeted (Some messages) g = messages

-- What a SESSION_SETUP stands behind: the four messages of what is in the making, or the two of the greeting alone. An interim
-- response begins anew from the greeting, so the transcript of a final one has five messages, a binding that begins again too.
abbrev pub before_setup : ServerEnd → List (List ℕ)
before_setup f = made_or_greeted f.making f.greeting

abbrev pub full_transcript : ServerEnd → List ℕ → List (List ℕ)
full_transcript f request = before_setup f ++ request ∷ []

-- the keys behind a logon: a session's, or those of a channel that is bound to it
abbrev pub keys_behind : ServerEnd → List ℕ → List ℕ → Keys → ℕ → Bool → Keys
keys_behind f request base old session binding =
    if binding then bound_keys base (chain (full_transcript f request)) old
    else keys_of base (chain (full_transcript f request)) (chosen_on f.greeting).cipher (chosen_on f.greeting).signing session

abbrev pub final_keys : Users → Logons → ℕ → ServerEnd → Checked → Bool → Keys
final_keys users L k f c binding =
    keys_behind f c.raw (exported users (L.pending k) (token_in c.bytes)) (L.keys c.header.session) c.header.session binding

-- ---- the server's logons behind it

abbrev pub logons_behind : Users → Logons → ℕ → ServerEnd → Checked → List ℕ → ℕ → Progress → Logons
logons_behind users L k f c fresh now Stays = L
logons_behind users L k f c fresh now (Interim binding) = record L { pending = put L.pending k (pending_by users.bare (token_in c.bytes) fresh now) }
logons_behind users L k f c fresh now (Final binding channel encrypts) =
    if binding then L else record L { keys = put L.keys c.header.session (final_keys users L k f c false) }

-- ---- who signs the response: in a binding the session for the interim one and the new channel for the final one, which the new
-- session's own key signs else; a first interim response has no key yet; any other one goes by the connection's keys

abbrev pub signer_of : Users → Logons → ℕ → ServerEnd → Checked → Progress → Option Signer
signer_of users L k f c Stays = signer_on f.keys
signer_of users L k f c (Interim binding) = if binding then Some (L.keys c.header.session).signing else None
signer_of users L k f c (Final binding channel encrypts) = Some (final_keys users L k f c binding).signing

-- ---- and any other reply. A refusal of a binding to a live session is signed by that session's own key, with what this connection
-- chose to sign with. It isn't signed where that key didn't sign the request, nor where it says that there is no such session for
-- this client (this project's; 3.3.5.5.2). Nobody signs the answer to an ECHO of SessionId 0.

-- The request has no signature, or a wrong one, whatever it is refused for: else who doesn't have the key would have it sign under
-- message ids of his choice, and AES-GMAC doesn't bear an id twice.
abbrev pub is_ill_signed : SetupRequest → Bool
is_ill_signed q = not q.signed || not q.verified

abbrev pub binding_signer : Bool → Keys → Option Signer → SetupRequest → ℕ → Option Signer
binding_signer live own here q status =
    if status == user_session_deleted then None
    else if not live then here
    else if is_ill_signed q then None
    else Some (record own.signing { algorithm = q.signing })

abbrev pub plain_signer : ServerEnd → Checked → Option Signer
plain_signer f c = if is_probe c.header c.bytes then None else signer_on f.keys

-- s is the server behind the message, which has the same sessions where it was refused
abbrev pub staying_signer : Server → Logons → ServerEnd → Checked → Command → ℕ → Option Signer
staying_signer s L f c (Setup q) status =
    if q.binding then binding_signer (s.present c.header.session) (L.keys c.header.session) (signer_on f.keys) q status
    else signer_on f.keys
staying_signer s L f c _ status = plain_signer f c

abbrev pub signer_by : Server → Users → Logons → ℕ → ServerEnd → Checked → Command → ℕ → Progress → Option Signer
signer_by s users L k f c command status Stays = staying_signer s L f c command status
signer_by s users L k f c command status (Interim binding) = signer_of users L k f c (Interim binding)
signer_by s users L k f c command status (Final binding channel encrypts) = signer_of users L k f c (Final binding channel encrypts)

-- What answers a request that isn't signed or sealed as owed isn't signed (this project's; 3.3.4.1.1): else a request that was given
-- to another channel would have there an answer that its client trusts.
abbrev pub unless_faulty : Option ℕ → Option Signer → Option Signer
unless_faulty None signer = signer
unless_faulty (Some status) signer = None
