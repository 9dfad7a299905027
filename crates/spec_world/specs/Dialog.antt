-- What the client's end hears (MS-SMB2 3.2.5.1 to 3.2.5.5): a dialog's response with its first fault, and a line's reply.
use Rattle.std.specs.Prelude.{ℕ, ◌==◌, nat_lt, Bool, true, false, not, ◌&&◌, ◌||◌, if◌then◌else◌, List, [], ◌∷◌, ◌++◌, length, Option, Some}
use Rattle.std.specs.Prelude.{None, is_none, is_some, Result, Ok, Err}
use Rattle.spec_wire.specs.declared.messages.header.Header.{Header}
use Rattle.spec_wire.specs.messages.Negotiate.{negotiate_response_in, negotiate_response_fault}
use Rattle.spec_wire.specs.messages.Contexts.{Context, contexts_in}
use Rattle.spec_wire.specs.messages.Offer.{offer_fault, ids_in, first_of, has_id}
use Rattle.spec_wire.specs.messages.SessionSetup.{session_setup_response_in, session_setup_response_fault}
use Rattle.spec_wire.specs.messages.TreeConnect.{tree_connect_response_fault}
use Rattle.spec_exchange.specs.Table.{put}
use Rattle.spec_exchange.specs.Status.{success, more_processing_required}
use Rattle.spec_exchange.specs.Commands.{has_bit}
use Rattle.spec_exchange.specs.Operations.{Refusal, BadChoice, BadToken, BadSignature, NoSha512}
use Rattle.spec_exchange.specs.Client.{Stage, Apart, SaidNegotiate, SaidFirst, SaidSecond, AskedTree}
use Rattle.spec_exchange.specs.Network.{Token, ForDialog}
use Rattle.spec_wire.specs.credits.Purse.{after_add}
use Rattle.spec_crypto.specs.declared.sessions.choice.Chosen.{Chosen}
use Rattle.spec_crypto.specs.declared.sessions.material.Keys.{Keys}
use Rattle.spec_crypto.specs.sessions.Chain.{chain}
use Rattle.spec_crypto.specs.sessions.Derivation.{keys_of, bound_keys}
use Rattle.spec_crypto.specs.sessions.Signing.{verifies}
use Rattle.spec_crypto.specs.sessions.Sealing.{opened}
use Rattle.spec_crypto.specs.tokens.Spnego.{InitValue, init_in}
use Rattle.spec_crypto.specs.declared.tokens.der.DerError.{DerError}
use Rattle.spec_crypto.specs.tokens.Tokens.{is_final}
use Rattle.spec_world.specs.Settings.{ClientSettings}
use Rattle.spec_world.specs.Messages.{HeardMessage, has_header, heard_in}
use Rattle.spec_world.specs.Ends.{ClientEnd}
use Rattle.spec_world.specs.Sending.{answer_of}
use Rattle.spec_world.specs.Answering.{Ending}

-- ---- the message in a frame

-- its header reads
abbrev pub response_in : Option (List ℕ) → Option HeardMessage
response_in None = None
response_in (Some m) = if has_header m then Some (heard_in m) else None

abbrev pub is_response : Header → Bool
is_response h = has_bit h.flags 1

-- a line's reply opens, or verifies, and is a response (3.2.5.1.1, 3.2.5.1.3)
abbrev pub line_text : ClientEnd → List ℕ → Option (List ℕ)
line_text n frame =
    if n.encrypts then opened n.keys false frame
    else if verifies n.keys.signing frame then Some frame
    else None

abbrev pub if_response : Option HeardMessage → Option HeardMessage
if_response None = None
if_response (Some x) = if is_response x.header then Some x else None

abbrev pub line_response : ClientEnd → List ℕ → Option HeardMessage
line_response n frame = if_response (response_in (line_text n frame))

-- of a dialog only the response to TREE_CONNECT is sealed
abbrev pub is_asked : Stage → Bool
is_asked AskedTree = true
is_asked _ = false

abbrev pub dialog_text : ClientEnd → Stage → List ℕ → Option (List ℕ)
dialog_text n stage frame = if is_asked stage && n.encrypts then opened n.keys false frame else Some frame

abbrev pub dialog_response : ClientEnd → Stage → List ℕ → Option HeardMessage
dialog_response n stage frame = response_in (dialog_text n stage frame)

-- ---- the status first: the one that is due

abbrev pub status_due : Stage → ℕ
status_due (SaidFirst bound) = more_processing_required
status_due _ = success

-- ---- then its form: a response of the command, to the request that waits for one, whose body reads

abbrev pub command_due : Stage → ℕ
command_due (SaidFirst bound) = 1
command_due (SaidSecond bound) = 1
command_due AskedTree = 3
command_due _ = 0

abbrev pub is_dialogs : Option Token → Bool
is_dialogs (Some ForDialog) = true
is_dialogs _ = false

abbrev pub response_contexts : List ℕ → List Context
response_contexts m = contexts_in (negotiate_response_in m).contexts 0 (negotiate_response_in m).negotiate_context_count

unfoldable pub has_contexts : List ℕ → Bool
has_contexts m =
    let v = negotiate_response_in m in
    is_none (negotiate_response_fault m) && is_none (offer_fault v.contexts v.negotiate_context_count)

abbrev pub body_reads : Stage → List ℕ → Bool
body_reads (SaidNegotiate bound) m = has_contexts m
body_reads (SaidFirst bound) m = is_none (session_setup_response_fault m)
body_reads (SaidSecond bound) m = is_none (session_setup_response_fault m)
body_reads AskedTree m = is_none (tree_connect_response_fault m)
body_reads Apart m = false

abbrev pub has_form : ClientEnd → Stage → HeardMessage → Bool
has_form n stage x =
    is_response x.header
    && ((x.header.command == command_due stage) && (is_dialogs (n.awaited x.header.message) && body_reads stage x.bytes))

-- ---- then what NEGOTIATE chose, in this order; fields: dialect 1, hash 2, cipher 3, signing algorithm 4, SessionFlags 5

-- no value, or one that was offered
abbrev pub was_offered : List ℕ → List ℕ → Bool
was_offered offered [] = true
was_offered offered (id ∷ []) = has_id id offered
was_offered offered (id ∷ next ∷ ids) = false

unfoldable pub hashes_told : List ℕ → List ℕ
hashes_told m = ids_in (first_of 1 (response_contexts m))

unfoldable pub ciphers_told : List ℕ → List ℕ
ciphers_told m = ids_in (first_of 2 (response_contexts m))

unfoldable pub signings_told : List ℕ → List ℕ
signings_told m = ids_in (first_of 8 (response_contexts m))

unfoldable pub choice_fault : ClientSettings → List ℕ → Option Refusal
choice_fault c m =
    if not ((negotiate_response_in m).dialect_revision == 0x311) then Some (BadChoice 1)
    else if not (has_id 1 (hashes_told m)) then Some NoSha512
    else if not (length (hashes_told m) == 1) then Some (BadChoice 2)
    else if not (was_offered c.ciphers (ciphers_told m)) then Some (BadChoice 3)
    else if not (was_offered c.signings (signings_told m)) then Some (BadChoice 4)
    else None

abbrev pub first_or : ℕ → List ℕ → ℕ
first_or other [] = other
first_or other (id ∷ ids) = id

-- no cipher, and AES-CMAC, where none is told
unfoldable pub chosen_told : List ℕ → Chosen
chosen_told m = record {
  cipher = first_or 0 (ciphers_told m);
  signing = first_or 1 (signings_told m);
  signing_told = not (length (signings_told m) == 0);
}

-- ---- then the token: a hint reads, where there is one; an interim token can be answered; a final one ends the logon

abbrev pub reads_init : Result InitValue DerError → Bool
reads_init (Ok v) = true
reads_init (Err e) = false

unfoldable pub is_hint : List ℕ → Bool
is_hint token = (length token == 0) || reads_init (init_in token)

unfoldable pub setup_token : List ℕ → List ℕ
setup_token m = (session_setup_response_in m).security

unfoldable pub setup_flags : List ℕ → ℕ
setup_flags m = (session_setup_response_in m).session_flags

abbrev pub has_token : ClientSettings → ClientEnd → Stage → List ℕ → Bool
has_token c n (SaidNegotiate bound) m = is_hint (negotiate_response_in m).security
has_token c n (SaidFirst bound) m = is_some (answer_of c n (setup_token m))
has_token c n (SaidSecond bound) m = is_final n.base (setup_token m)
has_token c n _ m = true

-- ---- then the signature

-- the keys behind the final response, by the client's own base key and transcript
abbrev pub own_final : ClientEnd → Bool → ℕ → Keys
own_final n bound session =
    if bound then bound_keys n.base (chain n.transcript) n.keys
    else keys_of n.base (chain n.transcript) n.chosen.cipher n.chosen.signing session

-- In a binding the interim response has the session's signature. The final response has the one of the keys that it makes.
abbrev pub is_signed : ClientEnd → Stage → List ℕ → Bool
is_signed n (SaidNegotiate bound) m = true
is_signed n (SaidFirst bound) m = if bound then verifies n.keys.signing m else true
is_signed n (SaidSecond bound) m = verifies (own_final n bound 0).signing m
is_signed n AskedTree m = if n.encrypts then true else verifies n.keys.signing m
is_signed n Apart m = false

-- ---- SessionFlags last (2.2.6): guest 1, null 2, ENCRYPT_DATA 4

abbrev pub flags_fit : ClientEnd → Stage → List ℕ → Bool
flags_fit n (SaidSecond bound) m =
    not (has_bit (setup_flags m) 1)
    && (not (has_bit (setup_flags m) 2) && not (has_bit (setup_flags m) 4 && ((own_final n bound 0).cipher == 0)))
flags_fit n _ m = true

-- ---- a credit for the next request, where one follows (3.2.4.1.2)

abbrev pub pays_next : ClientEnd → Stage → Header → Bool
pays_next n AskedTree h = true
pays_next n (SaidSecond bound) h = bound || nat_lt 0 (after_add h.credits n.purse).held
pays_next n _ h = nat_lt 0 (after_add h.credits n.purse).held

abbrev pub choices_of : ClientSettings → Stage → List ℕ → Option Refusal
choices_of c (SaidNegotiate bound) m = choice_fault c m
choices_of c _ m = None

-- the first fault of a response whose status is due
abbrev pub first_refusal : Option Refusal → Option Refusal → Option Refusal
first_refusal (Some e) later = Some e
first_refusal None later = later

abbrev pub unless : Bool → Refusal → Option Refusal
unless b why = if b then None else Some why

-- behind the signature
abbrev pub last_fault : ClientEnd → Stage → HeardMessage → Option Refusal
last_fault n stage x =
    first_refusal (unless (flags_fit n stage x.bytes) (BadChoice 5)) (unless (pays_next n stage x.header) BadToken)

abbrev pub dialog_fault : ClientSettings → ClientEnd → Stage → HeardMessage → Option Refusal
dialog_fault c n stage x =
    first_refusal (unless (has_form n stage x) BadToken)
    (first_refusal (choices_of c stage x.bytes)
    (first_refusal (unless (has_token c n stage x.bytes) BadToken)
    (first_refusal (unless (is_signed n stage x.bytes) BadSignature) (last_fault n stage x))))

-- ---- this end behind a response

-- its credits are had, and its id is awaited no more
abbrev pub paid_in : ClientEnd → Header → ClientEnd
paid_in n h = record n { purse = after_add h.credits n.purse; awaited = put n.awaited h.message None }

abbrev pub chosen_behind : Stage → Chosen → List ℕ → Chosen
chosen_behind (SaidNegotiate bound) chosen m = chosen_told m
chosen_behind _ chosen m = chosen

-- a response that isn't final goes into the transcript
abbrev pub noted_heard : ClientEnd → Stage → HeardMessage → ClientEnd
noted_heard n stage x = record (paid_in n x.header) {
  transcript = n.transcript ++ x.bytes ∷ [];
  chosen = chosen_behind stage n.chosen x.bytes;
}

-- ENCRYPT_DATA
unfoldable pub seals_told : List ℕ → Bool
seals_told m = has_bit (setup_flags m) 4

abbrev pub ended_on : ClientEnd → HeardMessage → Bool → Ending
ended_on n x bound = record {
  base = n.base;
  chain = chain n.transcript;
  algorithm = (own_final n bound 0).signing.algorithm;
  message = x.bytes;
  transcript = n.transcript;
}

-- a session's first channel, number 1, and a bound one of the next number
abbrev pub accepted_end : ClientEnd → HeardMessage → ℕ → ClientEnd
accepted_end n x session = record (paid_in n x.header) {
  stage = AskedTree;
  keys = own_final n false session;
  encrypts = seals_told x.bytes;
  channel = 1;
  counter = 0;
}

abbrev pub bound_end : ClientEnd → HeardMessage → ℕ → ClientEnd
bound_end n x number = record (paid_in n x.header) {
  stage = Apart;
  keys = own_final n true 0;
  encrypts = seals_told x.bytes;
  channel = number;
  counter = 0;
}
