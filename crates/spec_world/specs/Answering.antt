-- How the server's end answers (MS-SMB2 3.3.4.1): replies joined in frames, signed or sealed, and the connection behind them.
use Rattle.std.specs.Prelude.{ℕ, ◌+◌, ◌==◌, nat_le, Bool, true, false, ◌&&◌, if◌then◌else◌, List, [], ◌∷◌, ◌++◌, length}
use Rattle.std.specs.Prelude.{replicate, Option, Some, None}
use Rattle.spec_wire.specs.messages.Places.{gap_to_8}
use Rattle.spec_wire.specs.declared.messages.header.Header.{Header}
use Rattle.spec_exchange.specs.Status.{success}
use Rattle.spec_exchange.specs.Commands.{Command}
use Rattle.spec_exchange.specs.State.{Reply}
use Rattle.spec_commands.specs.ReplyBody.{reply_body}
use Rattle.spec_commands.specs.Tables.{bit_if}
use Rattle.spec_crypto.specs.declared.sessions.material.Keys.{Keys}
use Rattle.spec_crypto.specs.declared.sessions.material.Signer.{Signer}
use Rattle.spec_crypto.specs.sessions.Chain.{chain}
use Rattle.spec_crypto.specs.sessions.Signing.{signed}
use Rattle.spec_crypto.specs.sessions.Sealing.{sealed as sealed_under}
use Rattle.spec_crypto.specs.sessions.Nonces.{last_counter}
use Rattle.spec_world.specs.Messages.{message_spelling, unsigned_field}
use Rattle.spec_world.specs.Ends.{ServerEnd, Greeting, nonce_at}
use Rattle.spec_world.specs.Hearing.{Checked, is_negotiate}
use Rattle.spec_world.specs.Negotiate.{negotiate_response_body, negotiated, client_told}
use Rattle.spec_world.specs.Logon.{Progress, Stays, Interim, Final, greeting_transcript, full_transcript}

-- ---- a reply before it has its place in a frame

pub record SaidReply : Type 0 where
  pub header : Header  -- NextCommand and Signature are still zeros
  pub body : List ℕ
  pub signer : Option Signer
  pub request : Checked
  pub progress : Progress
  pub base : List ℕ  -- the exported key of its logon
  pub keys : Keys  -- of its session or channel, where it is a final response

-- the header of a reply (2.2.1.2): flags response 1, and related 4 where its request is
abbrev pub reply_header : Checked → ℕ → ℕ → ℕ → ℕ → Header
reply_header c status session tree credits = record {
  charge = c.header.charge;
  status = status;
  command = c.header.command;
  credits = credits;
  flags = 1 + bit_if c.related 4;
  next = 0;
  message = c.header.message;
  tree = tree;
  session = session;
  signature = unsigned_field;
}

-- what stands behind it
unfoldable pub said_body : List ℕ → List ℕ → ℕ → Checked → List ℕ → Command → Reply → List ℕ
said_body guid salt now c token command r =
    if is_negotiate c.header && (r.status == success) then negotiate_response_body guid salt now c.bytes else reply_body token command r

-- ---- its text: where more follow, zeros up to a multiple of 8, and how far the next one is; signed where a key is given

abbrev pub padding_if : Bool → ℕ → ℕ
padding_if more size = if more then gap_to_8 size else 0

abbrev pub said_size : SaidReply → ℕ
said_size r = 64 + length r.body

abbrev pub whole_size : SaidReply → ℕ
whole_size r = said_size r + gap_to_8 (said_size r)

abbrev pub said_behind : Bool → SaidReply → List ℕ
said_behind more r = r.body ++ replicate (padding_if more (said_size r)) 0

abbrev pub said_header : Bool → SaidReply → Header
said_header more r = record r.header { next = if more then whole_size r else 0 }

abbrev pub with_signature : Option Signer → Header → List ℕ → List ℕ
with_signature None h body = message_spelling h body
with_signature (Some s) h body = signed s (message_spelling (record h { flags = h.flags + 8 }) body)

-- what is sealed isn't signed
abbrev pub said_text : Bool → Bool → SaidReply → List ℕ
said_text sealed more r = with_signature (if sealed then None else r.signer) (said_header more r) (said_behind more r)

-- ---- replies joined: one that would take its frame past the limit begins a frame of its own

-- a frame has at most 1,114,112 bytes, and 52 of them are the transform header's where it is sealed
abbrev pub text_limit : Bool → ℕ
text_limit sealed = if sealed then 1114060 else 1114112

-- size is that of what is joined so far, where more follow
unfoldable pub gathered : ℕ → ℕ → List SaidReply → List SaidReply → List (List SaidReply)
gathered limit size front [] = front ∷ []
gathered limit size front (r ∷ rs) =
    if nat_le (size + said_size r) limit then gathered limit (size + whole_size r) (front ++ r ∷ []) rs
    else front ∷ gathered limit (whole_size r) (r ∷ []) rs

abbrev pub joined_in : ℕ → List SaidReply → List (List SaidReply)
joined_in limit [] = []
joined_in limit (r ∷ rs) = gathered limit (whole_size r) (r ∷ []) rs

-- the texts of one frame's replies
unfoldable pub texts_of : Bool → List SaidReply → List (List ℕ)
texts_of sealed [] = []
texts_of sealed (r ∷ []) = said_text sealed false r ∷ []
texts_of sealed (r ∷ next ∷ rs) = said_text sealed true r ∷ texts_of sealed (next ∷ rs)

unfoldable pub all_texts : Bool → List (List SaidReply) → List (List (List ℕ))
all_texts sealed [] = []
all_texts sealed (rs ∷ rest) = texts_of sealed rs ∷ all_texts sealed rest

unfoldable pub concatenated : {X : Type 0} → List (List X) → List X
concatenated [] = []
concatenated (x ∷ xs) = x ++ concatenated xs

unfoldable pub each_joined : List (List (List ℕ)) → List (List ℕ)
each_joined [] = []
each_joined (ts ∷ rest) = concatenated ts ∷ each_joined rest

-- ---- sealing: a nonce each, while there are some

-- what an end sealed: for which session, in which direction, under which nonce
pub record Seal : Type 0 where
  pub session : ℕ
  pub to_server : Bool
  pub channel : ℕ
  pub counter : ℕ
  pub text : List ℕ

abbrev pub seal_by : Keys → ℕ → ℕ → List ℕ → Seal
seal_by keys channel counter text = record { session = keys.session; to_server = false; channel = channel; counter = counter; text = text }

unfoldable pub sealed_each : Keys → ℕ → ℕ → List (List ℕ) → List (List ℕ)
sealed_each keys channel counter [] = []
sealed_each keys channel counter (t ∷ ts) = sealed_under keys false (nonce_at channel counter) t ∷ sealed_each keys channel (counter + 1) ts

unfoldable pub seals_of : Keys → ℕ → ℕ → List (List ℕ) → List Seal
seals_of keys channel counter [] = []
seals_of keys channel counter (t ∷ ts) = seal_by keys channel counter t ∷ seals_of keys channel (counter + 1) ts

-- the counter gives none at its last value
abbrev pub has_nonces : ServerEnd → ℕ → Bool
has_nonces f count = nat_le (f.counter + count) last_counter

abbrev pub frames_by : Option Keys → ServerEnd → List (List ℕ) → List (List ℕ)
frames_by None f texts = []
frames_by (Some keys) f texts = sealed_each keys f.channel f.counter texts

abbrev pub seals_by : Option Keys → ServerEnd → List (List ℕ) → List Seal
seals_by None f texts = []
seals_by (Some keys) f texts = seals_of keys f.channel f.counter texts

-- ---- the final responses that are signed

-- a final response: by the server that signed it, or the client that accepted on it
pub record Ending : Type 0 where
  pub base : List ℕ
  pub chain : List ℕ
  pub algorithm : ℕ
  pub message : List ℕ
  pub transcript : List (List ℕ)

abbrev pub ending_of : ServerEnd → SaidReply → List ℕ → Ending
ending_of f r text = record {
  base = r.base;
  chain = chain (full_transcript f r.request.raw);
  algorithm = r.keys.signing.algorithm;
  message = text;
  transcript = full_transcript f r.request.raw;
}

abbrev pub ending_by : Bool → ServerEnd → SaidReply → List ℕ → Progress → List Ending
ending_by sealed f r text (Final binding channel encrypts) = if sealed then [] else ending_of f r text ∷ []
ending_by sealed f r text _ = []

-- ---- the connection behind a reply of this text

abbrev pub greeting_behind : Option Greeting → SaidReply → List ℕ → Option Greeting
greeting_behind g r text =
    if is_negotiate r.request.header && (r.header.status == success)
    then Some (record { client = client_told r.request.bytes; chosen = negotiated r.request.bytes; transcript = r.request.raw ∷ text ∷ [] })
    else g

abbrev pub server_end_moved : ServerEnd → SaidReply → List ℕ → Progress → ServerEnd
server_end_moved f r text Stays = f
server_end_moved f r text (Interim binding) = record f { making = Some (greeting_transcript f.greeting ++ (r.request.raw ∷ text ∷ [])) }
server_end_moved f r text (Final binding channel encrypts) = record f {
  making = None;
  keys = Some r.keys;
  encrypts = encrypts;
  channel = channel;
  counter = 0;
}

abbrev pub server_end_behind : ServerEnd → SaidReply → List ℕ → ServerEnd
server_end_behind f r text = record (server_end_moved f r text r.progress) { greeting = greeting_behind f.greeting r text }

pub record Behind : Type 0 where
  pub server_end : ServerEnd
  pub endings : List Ending

abbrev pub first_text : List (List ℕ) → List ℕ
first_text [] = []
first_text (t ∷ ts) = t

abbrev pub later_texts : List (List ℕ) → List (List ℕ)
later_texts [] = []
later_texts (t ∷ ts) = ts

-- one reply after the other, each with its text
unfoldable pub told_each : Bool → ServerEnd → List SaidReply → List (List ℕ) → Behind
told_each sealed f [] texts = record { server_end = f; endings = [] }
told_each sealed f (r ∷ rs) texts =
    let later = told_each sealed (server_end_behind f r (first_text texts)) rs (later_texts texts) in
    record { server_end = later.server_end; endings = ending_by sealed f r (first_text texts) r.progress ++ later.endings }
