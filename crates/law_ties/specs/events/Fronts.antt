-- What makes the front of a list go in step: that it is heard as what it was made for.
use Rattle.std.specs.Prelude.{◌≡◌, ℕ, ◌==◌, ◌<◌, Bool, true, false, not, List, [], ◌∷◌, Some, None, is_some, Ok}
use Rattle.spec_exchange.specs.State.{Body, Reply}
use Rattle.spec_exchange.specs.Operations.{Op, value_in, id_in, request_of}
use Rattle.spec_exchange.specs.Client.{Apart}
use Rattle.spec_exchange.specs.Network.{Serve, Take, Crash, Sent, Received, Token, ForDialog, ForOp, ForAttach, answer, happens}
use Rattle.spec_commands.specs.ReplyOf.{reply_of}
use Rattle.spec_wire.specs.credits.Ids.{counted, outside}
use Rattle.spec_crypto.specs.sessions.Nonces.{last_counter}
use Rattle.spec_world.specs.Settings.{WorldSettings}
use Rattle.spec_world.specs.Messages.{HeardMessage}
use Rattle.spec_world.specs.Ends.{ClientEnd, ServerEnd, Logons}
use Rattle.spec_world.specs.Hearing.{text_of, is_negotiate, checked_as}
use Rattle.spec_world.specs.Connection.{heard_message}
use Rattle.spec_world.specs.Dialog.{line_response, dialog_response, status_due, dialog_fault}
use Rattle.spec_world.specs.World.{World, step_at}
use Rattle.spec_world.specs.Events.{Plain, bytes_happen}

-- ---- a request: one message, which the server's end, as it stands, reads as the message that it was made for

-- the bill is its first id and its charge
pub record FrontReads (z : WorldSettings) (L : Logons) (k : ℕ) (f : ServerEnd) (b : List ℕ) (x : Sent) (bill : ℕ × ℕ) : Type 0 where
  pub sealed : Bool
  pub heard : HeardMessage
  pub text : text_of f.keys b ≡ Ok (record { sealed = sealed; messages = heard ∷ [] })
  pub message : heard_message z.server L k f (checked_as f sealed false true heard) ≡ Some x.message
  pub id : heard.header.message ≡ bill.0
  pub charge : heard.header.charge ≡ bill.1
  -- its turn, but for its id: a NEGOTIATE where none was heard, and else a greeting
  pub turn : is_some f.greeting ≡ not (is_negotiate heard.header)
  pub first : is_negotiate heard.header ≡ true → f.asked ≡ false

-- its ids are held, and a nonce is left
pub record MayServe (f : ServerEnd) (bill : ℕ × ℕ) : Type 0 where
  pub held : outside f.window.held bill.0 (counted bill.1) ≡ None
  pub nonce : f.counter < last_counter

pub record IsFrontServed (z : WorldSettings) (w : World) (k : ℕ) (b : List ℕ) (x : Sent) : Type 0 where
  pub taken : (step_at z w k b).taken ≡ Some (record { message = x.message; answer = answer w.values x })
  pub served : (bytes_happen z w (Plain (Serve k))).values ≡ happens w.values (Serve k)
  pub kept : (bytes_happen z w (Plain (Crash k true))).values ≡ happens w.values (Crash k true)

abbrev pub FrontsAreServed : Type 0
FrontsAreServed =
    (z : WorldSettings) (w : World) (k : ℕ) (b : List ℕ) (bs : List (List ℕ)) (x : Sent) (xs : List Sent) (bill : ℕ × ℕ) →
    (w.wires k).up ≡ b ∷ bs → (w.values.conns k).up ≡ x ∷ xs → FrontReads z w.logons k (w.wires k).server_end b x bill →
    MayServe (w.wires k).server_end bill → IsFrontServed z w k b x

-- ---- a response tells of a reply what a client looks at

pub record TellsReply (x : HeardMessage) (r : Reply) : Type 0 where
  pub status : x.header.status ≡ r.status
  pub session : x.header.session ≡ r.session_id
  pub tree : x.header.tree ≡ r.tree_id

-- of an operation's own, the value that it settles with and the open
abbrev pub body_heard : (ℕ → Op) → HeardMessage → ℕ → Body
body_heard op x g = (reply_of (request_of (op g) 0 0 0 0) x.header x.bytes).body

abbrev pub TellsBody : (ℕ → Op) → HeardMessage → Reply → Token → Type 0
TellsBody op x r ForDialog = Unit {0}
TellsBody op x r (ForOp g) = (value_in (op g) (body_heard op x g) ≡ value_in (op g) r.body) × (id_in (body_heard op x g) ≡ id_in r.body)
TellsBody op x r (ForAttach g) = Unit {0}

-- ---- a reply: on a line it opens or verifies, its id is awaited for its operation, and it is heard alike

pub record HearsOnLine (op : ℕ → Op) (n : ClientEnd) (b : List ℕ) (y : Received) : Type 0 where
  pub stage : n.stage ≡ Apart
  pub heard : HeardMessage
  pub opens : line_response n b ≡ Some heard
  pub awaits : n.awaited heard.header.message ≡ Some y.token
  pub own : y.token ≡ ForDialog → ⊥
  pub same : TellsReply heard y.reply
  pub body : TellsBody op heard y.reply y.token

-- in a dialog a response of the due status has no fault
pub record HearsInDialog (z : WorldSettings) (n : ClientEnd) (b : List ℕ) (y : Received) : Type 0 where
  pub stage : n.stage ≡ Apart → ⊥
  pub heard : HeardMessage
  pub opens : dialog_response n n.stage b ≡ Some heard
  pub own : y.token ≡ ForDialog
  pub same : TellsReply heard y.reply
  pub sound : (heard.header.status == status_due n.stage) ≡ true → dialog_fault z.client n n.stage heard ≡ None

pub data FrontHearsAs (z : WorldSettings) (op : ℕ → Op) (n : ClientEnd) (b : List ℕ) (y : Received) : Type 0 where
  OnLine : HearsOnLine op n b y → FrontHearsAs z op n b y
  InDialog : HearsInDialog z n b y → FrontHearsAs z op n b y

abbrev pub FrontsAreTaken : Type 0
FrontsAreTaken =
    (z : WorldSettings) (w : World) (k : ℕ) (b : List ℕ) (bs : List (List ℕ)) (y : Received) (ys : List Received) →
    (w.wires k).down ≡ b ∷ bs → (w.values.conns k).down ≡ y ∷ ys →
    (w.wires k).client_end.stage ≡ w.values.client.stage k → FrontHearsAs z w.values.client.op (w.wires k).client_end b y →
    (bytes_happen z w (Plain (Take k))).values ≡ happens w.values (Take k)
