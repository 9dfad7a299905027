-- What goes out on a channel that is ready.
use Rattle.std.specs.Prelude.{◌≡◌, ℕ, ◌<◌, ◌≤◌, ◌^◌, Bool, true, false, if◌then◌else◌, ◌++◌, ◌∷◌, [], List, length, slice_get}
use Rattle.std.specs.Prelude.{Option, Some, None, Ok}
use Rattle.client_steps.specs.whole_client.Shown.{ShowsClient}
use Rattle.client_steps.specs.declared.whole_client.client.Client.{Client as Core}
use Rattle.client_events.specs.event_calls.Events.{ClientEventTells, act_of}
use Rattle.client_events.specs.declared.event_calls.steps.Act.{Act as Told}
use Rattle.client_events.specs.declared.event_calls.steps.Event.TheVariants as happens
use Rattle.client_ends.specs.line_calls.Sending as sending
use Rattle.client_ends.specs.line_calls.Sending.{CanSend, IsRequest}
use Rattle.client_events.specs.played_client.Holding.{PlayedSteps as Happens}
use Rattle.client_steps.specs.sent_requests.Sent.{IsHead}
use Rattle.client_steps.specs.declared.sent_requests.heads.Head.{Head}
use Rattle.spec_exchange.specs.Client.{Client, ask_message, create_for, guid_for, own_message}
use Rattle.spec_exchange.specs.ClientStep as client
use Rattle.spec_exchange.specs.Commands.{Command}
use Rattle.spec_exchange.specs.Network.{ForAttach, ForOp, Token}
use Rattle.spec_exchange.specs.Operations.{charge, reconnect_of, request_of, weight}
use Rattle.spec_exchange.specs.State.{Message}
use Rattle.client_ends.specs.ends.Shown.{ShowsLine, token_of}
use Rattle.client_ends.specs.declared.ends.line.Line.{Line}
use Rattle.client_ends.specs.operation_requests.Requesting.{IsHeading, IsRequestOf}
use Rattle.client_ends.specs.declared.operation_requests.request.Heading.{Heading}
use Rattle.wire_bytes.specs.declared.headers.request.Request.{Request}
use Rattle.spec_world.specs.Ends.{ClientEnd}
use Rattle.world_ends.specs.declared.sides.Channel.{Channel}
use Rattle.world_ends.specs.declared.sides.ClientSide.{ClientSide}
use Rattle.world_ends.specs.declared.sides.ClientSide.TheVariants.{Closed, Talks, Ready}
use Rattle.world_ends.specs.declared.sides.Up.{Up}
use Rattle.world_steps.specs.Lists.{ChangedAt}

-- ---- what the client chooses, by the credits of a channel that is ready

abbrev pub held_by : ClientSide → Option ℕ
held_by Closed = None
held_by (Talks d) = None
held_by (Ready l) = Some l.purse.held

abbrev pub credits_in : Option Channel → Option ℕ
credits_in None = None
credits_in (Some x) = held_by x.client

pub record Chooses (old : Core) (k held : ℕ) (told : Told) (new : Core) : Type 0 where
  pub shown : Happens old new (happens.Push k held)
  pub tells : ClientEventTells old (happens.Push k held) told

pub record ChoosesOn (old : Core) (xs : List Channel) (k : ℕ) (told : Told) (new : Core) : Type 0 where
  pub held : ℕ
  pub credits : credits_in (slice_get xs k) ≡ Some held
  pub chooses : Chooses old k held told new

-- ---- the message of an operation, or the one to attach its open in its place

abbrev pub message_for : Client → ℕ → ℕ → ℕ → Bool → Message
message_for c k id g asking = if asking then ask_message c k id g else own_message c k id g

abbrev pub charge_for : Client → ℕ → Bool → ℕ
charge_for c g asking = if asking then 1 else charge (weight (c.op g))

abbrev pub token_for : ℕ → Bool → Token
token_for g asking = if asking then ForAttach g else ForOp g

-- what the client tells of them: the header, and the command
abbrev pub IsHeadFor : Core → ℕ → Bool → Head → Type 0
IsHeadFor x g asking h = (c : Client) (k id : ℕ) → ShowsClient x c → IsHead h (message_for c k id g asking)

abbrev pub IsSendingCommandFor : Core → ℕ → ℕ → Bool → Command → Type 0
IsSendingCommandFor x salt g asking command =
    (c : Client) → ShowsClient x c → c.who.salt ≡ salt → command
    ≡ (if asking then reconnect_of (c.op (create_for c g)) (guid_for c (create_for c g)) (c.file (create_for c g))
    else request_of (c.op g) (guid_for c g) (c.file (create_for c g)) (c.slot_of g) (c.number_of g))

-- its heading, its command's request, and the two of them; a number that wasn't taken tells nothing
pub record Heads (x : Core) (g : ℕ) (asking : Bool) (h : Heading) : Type 0 where
  pub token : 0 < g → token_of h.token ≡ token_for g asking
  pub costs : (c : Client) → ShowsClient x c → 0 < g → g ≤ c.taken → h.charge ≡ charge_for c g asking
  pub told : (c : Client) (k id : ℕ) → ShowsClient x c → IsHeading h (message_for c k id g asking)

pub record IsSendingShort (h : Heading) (command : Command) (r : Request) : Type 0 where
  pub request : IsRequestOf h command r
  pub sends : CanSend r

pub record SendingAsks (x : Core) (salt g : ℕ) (asking : Bool) (r : Request) : Type 0 where
  pub sends : CanSend r
  pub token : 0 < g → token_of r.token ≡ token_for g asking
  pub request : (c : Client) (k id : ℕ) → ShowsClient x c → c.who.salt ≡ salt → 0 < g → g ≤ c.taken
      → IsRequest r (message_for c k id g asking) (charge_for c g asking)

-- ---- a request on a line, from a side that is ready, and on its channel

pub record SendsUp (r : Request) (before behind : Line) (u : Up) : Type 0 where
  pub token : u.token ≡ r.token
  pub short : length u.bytes.items < 2 ^ 60
  pub sends : (n : ClientEnd) (m : Message) (charge : ℕ) → ShowsLine before n → IsRequest r m charge → m.message_id ≡ n.purse.next
      → sending.LineSends n m charge (token_of r.token) behind (Ok u.bytes.items)

pub record SendsFrom (r : Request) (old new : ClientSide) (u : Up) : Type 0 where
  pub before : Line
  pub behind : Line
  pub was : old ≡ Ready before
  pub becomes : new ≡ Ready behind
  pub sends : SendsUp r before behind u

pub record SendingSaysOn (r : Request) (old new : Channel) : Type 0 where
  pub said : Up
  pub client : SendsFrom r old.client new.client said
  pub server : new.server ≡ old.server
  pub up : new.up.items ≡ old.up.items ++ said ∷ []
  pub down : new.down.items ≡ old.down.items

-- ---- a push

pub record SendingGoes (x : Core) (salt g : ℕ) (asking : Bool) (k : ℕ) (xs ys : List Channel) : Type 0 where
  pub request : Request
  pub asks : SendingAsks x salt g asking request
  pub says : ChangedAt (SendingSaysOn request) k xs ys

abbrev pub GoesBy : client.Act → Core → ℕ → ℕ → List Channel → List Channel → Type 0
GoesBy (client.Sends g) x salt k xs ys = SendingGoes x salt g false k xs ys
GoesBy (client.Asks g) x salt k xs ys = SendingGoes x salt g true k xs ys
GoesBy _ x salt k xs ys = ys ≡ xs

pub record Pushes (old : Core) (salt k : ℕ) (xs : List Channel) (new : Core) (ys : List Channel) : Type 0 where
  pub told : Told
  pub chosen : ChoosesOn old xs k told new
  pub goes : GoesBy (act_of told) new salt k xs ys
