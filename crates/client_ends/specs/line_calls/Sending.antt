-- What a line sends.
use Rattle.std.specs.Prelude.{◌≡◌, ℕ, ◌+◌, ◌<◌, ◌≤◌, Bool, true, false, List, length, Result, Ok, Err}
use Rattle.spec_commands.specs.BodyOf.{body_of, number_of_command}
use Rattle.spec_commands.specs.Tables.{bit_if}
use Rattle.spec_wire.specs.credits.Ids.{counted}
use Rattle.spec_crypto.specs.declared.sessions.material.Keys.{Keys}
use Rattle.spec_crypto.specs.sessions.Nonces.{NonceState, last_counter, nonce_of}
use Rattle.spec_crypto.specs.sessions.Sealing.{sealed}
use Rattle.spec_crypto.specs.sessions.Signing.{signed}
use Rattle.spec_exchange.specs.Network.{Token}
use Rattle.spec_exchange.specs.State.{Message}
use Rattle.wire_bytes.specs.declared.headers.request.Request.{Request}
use Rattle.spec_world.specs.Ends.{ClientEnd}
use Rattle.spec_world.specs.Sending.{line_frame, may_seal, sealed_on, spent}
use Rattle.client_ends.specs.declared.ends.line.Line.{Line}
use Rattle.client_ends.specs.declared.ends.line.LineError.{LineError}
use Rattle.client_ends.specs.declared.ends.line.LineError.TheVariants.{Memory, NoCredit, Spent, BadReply}
use Rattle.client_ends.specs.ends.Shown.{EndKeeps, ShowsLine}

-- no flags but the replay flag, and a body that a sealed frame has room for
pub record CanSend (r : Request) : Type 0 where
  pub flags : r.header.flags ≤ 0x2000_0000
  pub body : length r.body ≤ 1113996

-- it is the model's message, of this charge, under whatever id
pub record IsRequest (r : Request) (m : Message) (charge : ℕ) : Type 0 where
  pub costs : r.header.charge ≡ charge
  pub sequence : r.header.status ≡ m.channel_sequence
  pub command : r.header.command ≡ number_of_command m.command
  pub flags : r.header.flags ≡ bit_if m.replay 0x2000_0000
  pub tree : r.header.tree ≡ m.tree_id
  pub session : r.header.session ≡ m.session_id
  pub body : r.body ≡ body_of m.command

-- the frame and the end behind it; or it isn't paid for, or has no nonce, or no memory, and the end stays
abbrev pub LineSends : ClientEnd → Message → ℕ → Token → Line → Result (List ℕ) LineError → Type 0
LineSends n m charge token new (Ok frame) =
    (counted charge ≤ n.purse.held) × (may_seal n ≡ true) × (frame ≡ line_frame n m charge)
    × ShowsLine new (sealed_on (spent n charge token))
LineSends n m charge token new (Err (NoCredit held)) = (held ≡ n.purse.held) × (held < counted charge) × ShowsLine new n
LineSends n m charge token new (Err Spent) = (may_seal n ≡ false) × ShowsLine new n
LineSends n m charge token new (Err Memory) = ShowsLine new n
LineSends n m charge token new (Err BadReply) = ⊥

-- ---- nonces, whatever is sent

-- a frame is sealed under the next nonce, which no later one has
pub record SealsUnder (keys : Keys) (nonces nonces' : NonceState) (frame : List ℕ) : Type 0 where
  pub text : List ℕ
  pub below : nonces.counter < last_counter
  pub frame_is : frame ≡ sealed keys true (nonce_of nonces) text
  pub counts : nonces' ≡ record nonces { counter = nonces.counter + 1 }

-- it is signed, and takes no nonce
pub record SignsUnder (keys : Keys) (nonces nonces' : NonceState) (frame : List ℕ) : Type 0 where
  pub text : List ℕ
  pub frame_is : frame ≡ signed keys.signing text
  pub stays : nonces' ≡ nonces

abbrev pub MakesFrame : Bool → Keys → NonceState → NonceState → List ℕ → Type 0
MakesFrame true keys nonces nonces' frame = SealsUnder keys nonces nonces' frame
MakesFrame false keys nonces nonces' frame = SignsUnder keys nonces nonces' frame

-- a line's keys stay, and whether it seals; its nonces rise with each frame that it seals
abbrev pub LineCounts : Line → Line → Result (List ℕ) LineError → Type 0
LineCounts old new (Ok frame) =
    (new.keys ≡ old.keys) × (new.encrypts ≡ old.encrypts) × MakesFrame old.encrypts old.keys old.nonces new.nonces frame
LineCounts old new (Err why) = EndKeeps old new
