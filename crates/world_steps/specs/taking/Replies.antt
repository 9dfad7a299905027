-- What the client makes of the front of what comes down on a line.
use Rattle.std.specs.Prelude.{◌≡◌, ℕ, Bool, true, false, if◌then◌else◌, ◌∷◌, List, length, nat_lt}
use Rattle.std.specs.Prelude.{Option, Some, None}
use Rattle.client_steps.specs.whole_client.Shown.{ShowsClient}
use Rattle.client_steps.specs.declared.whole_client.client.Client.{Client as Core}
use Rattle.client_events.specs.event_calls.Events.{ClientEventTells, act_of}
use Rattle.client_events.specs.declared.event_calls.steps.Act.{Act as Told}
use Rattle.client_events.specs.declared.event_calls.steps.Event.TheVariants as happens
use Rattle.client_ends.specs.line_calls.Hearing.{Unheard}
use Rattle.client_ends.specs.declared.line_calls.incoming.Answer.{Answer}
use Rattle.client_events.specs.played_client.Holding.{PlayedSteps as Happens}
use Rattle.spec_commands.specs.ReplyOf as reading
use Rattle.wire_commands.specs.values.Meaning.{reply_of}
use Rattle.wire_commands.specs.declared.values.reply.Body.{Body}
use Rattle.wire_commands.specs.declared.values.reply.Reply.{Reply}
use Rattle.spec_exchange.specs.Client.{Client, create_for, guid_for}
use Rattle.spec_exchange.specs.Commands.{Command}
use Rattle.spec_exchange.specs.Operations.{reconnect_of, request_of}
use Rattle.spec_exchange.specs.Network.{ForAttach, ForOp, Token}
use Rattle.spec_exchange.specs.Table.{is_filled}
use Rattle.client_ends.specs.ends.Shown.{ShowsLine, token_of}
use Rattle.client_ends.specs.declared.ends.line.Line.{Line}
use Rattle.spec_world.specs.Dialog.{is_dialogs, line_response, paid_in}
use Rattle.spec_world.specs.Ends.{ClientEnd}
use Rattle.spec_world.specs.Messages.{HeardMessage}
use Rattle.spec_world.specs.World.{command_asked}
use Rattle.world_ends.specs.Places.{marks_at}
use Rattle.world_ends.specs.declared.sides.Channel.{Channel}
use Rattle.world_ends.specs.declared.sides.ClientSide.{ClientSide}
use Rattle.world_ends.specs.declared.sides.ClientSide.TheVariants.{Ready}
use Rattle.world_ends.specs.declared.sides.Down.{Down}
use Rattle.world_ends.specs.declared.world.Places.{Places}
use Rattle.world_ends.specs.declared.world.World.{World}
use Rattle.world_steps.specs.Lists.{ChangedAll, ChangedAt, ClosesClient}
use Rattle.world_steps.specs.Parts.{Cuts, all_close}
use Rattle.world_steps.specs.declared.taking.hearing.Response.{Response}
use Rattle.world_steps.specs.sending.Sending.{token_for}

-- something is on its way to the client there
abbrev pub waits_in : Option Channel → Bool
waits_in None = false
waits_in (Some x) = is_filled x.down.items

-- ---- a line hears a frame: a response to a request of an operation that waits, or none

pub record IsTakeFor (a : Answer) (place : ℕ) (r : Response) : Type 0 where
  pub place_is : r.place ≡ place
  pub header : r.header ≡ a.header
  pub message : r.message ≡ a.message
  pub token : is_dialogs (Some (token_of a.token)) ≡ false → token_of a.token ≡ token_for r.number r.asking

abbrev pub IsTakeAnswered : Answer → ℕ → Option Response → Type 0
IsTakeAnswered a place None = ⊥
IsTakeAnswered a place (Some r) = IsTakeFor a place r

pub record TakeAnswered (n : ClientEnd) (due : Option HeardMessage) (new : Line) (r : Response) : Type 0 where
  pub heard : due ≡ Some (record { header = r.header; bytes = r.message })
  pub waits : n.awaited r.header.message ≡ Some (token_for r.number r.asking)
  pub shown : ShowsLine new (paid_in n r.header)

abbrev pub TakeHearsAs : ClientEnd → Option HeardMessage → Line → Option Response → Type 0
TakeHearsAs n due new None = Unheard n due × ShowsLine new n
TakeHearsAs n due new (Some r) = TakeAnswered n due new r

abbrev pub IsTakeAt : ℕ → Option Response → Type 0
IsTakeAt place None = Unit {0}
IsTakeAt place (Some r) = r.place ≡ place

pub record HearsOn (before : Line) (d : Down) (behind : Line) (o : Option Response) : Type 0 where
  pub place : IsTakeAt d.place o
  pub hears : (n : ClientEnd) → ShowsLine before n → TakeHearsAs n (line_response n d.bytes.items) behind o

-- from a side that is ready, and on its channel, from which the frame leaves
pub record HearsFrom (old : ClientSide) (d : Down) (new : ClientSide) (o : Option Response) : Type 0 where
  pub before : Line
  pub behind : Line
  pub was : old ≡ Ready before
  pub becomes : new ≡ Ready behind
  pub hears : HearsOn before d behind o

pub record HearsAt (o : Option Response) (old new : Channel) : Type 0 where
  pub front : Down
  pub client : HearsFrom old.client front new.client o
  pub server : new.server ≡ old.server
  pub up : new.up.items ≡ old.up.items
  pub down : old.down.items ≡ front ∷ new.down.items

-- ---- what it says to its operation

abbrev pub IsTakeCommandFor : Core → ℕ → Response → Command → Type 0
IsTakeCommandFor x salt r command =
    (c : Client) → ShowsClient x c → c.who.salt ≡ salt → command
    ≡ (if r.asking then reconnect_of (c.op (create_for c r.number)) (guid_for c (create_for c r.number)) (c.file (create_for c r.number))
    else request_of (c.op r.number) (guid_for c r.number) (c.file (create_for c r.number)) (c.slot_of r.number) (c.number_of r.number))

abbrev pub TakeReads : Core → ℕ → Response → Reply → Type 0
TakeReads x salt r reply =
    (c : Client) → ShowsClient x c → c.who.salt ≡ salt
    → reply_of reply ≡ reading.reply_of (command_asked c r.number r.asking) r.header r.message

-- the client hears it
pub record Responds (old : Core) (k g : ℕ) (asking : Bool) (status : ℕ) (body : Body) (told : Told) (new : Core) : Type 0 where
  pub shown : Happens old new (happens.Hear k g asking status body)
  pub tells : ClientEventTells old (happens.Hear k g asking status body) told

-- its place is noted where it settled its operation
pub record TakeNotes (old : Places) (g place : ℕ) (new : Places) : Type 0 where
  pub served : new.served.items ≡ old.served.items
  pub counted : length new.marks.items ≡ length old.marks.items
  pub here : marks_at new.marks.items g ≡ record (marks_at old.marks.items g) { by = Some place }
  pub there : (j : ℕ) → (j ≡ g → ⊥) → marks_at new.marks.items j ≡ marks_at old.marks.items j

abbrev pub TakeNotesBy : Bool → Places → ℕ → ℕ → Places → Type 0
TakeNotesBy true old g place new = TakeNotes old g place new
TakeNotesBy false old g place new = new ≡ old

pub record TakeAnswers (old : Core) (p : Places) (k : ℕ) (r : Response) (reply : Reply) (told : Told) (new : Core)
    (q : Places) : Type 0 where
  pub responds : Responds old k r.number r.asking reply.status reply.body told new
  pub settles : Bool
  pub grows : (c d : Client) → ShowsClient old c → ShowsClient new d → settles ≡ nat_lt (length c.order) (length d.order)
  pub notes : TakeNotesBy settles p r.number r.place q

pub record RepliesTo (old : Core) (p : Places) (salt k : ℕ) (r : Response) (told : Told) (new : Core) (q : Places) : Type 0 where
  pub reply : Reply
  pub reads : TakeReads old salt r reply
  pub answers : TakeAnswers old p k r reply told new q

-- ---- and each connection of the client closes, or none

abbrev pub ClosesBy : Bool → Option ℕ → List Channel → Option ℕ → List Channel → Type 0
ClosesBy true old xs new ys = (new ≡ None) × ChangedAll ClosesClient xs ys
ClosesBy false old xs new ys = (new ≡ old) × (ys ≡ xs)

-- the client, its places, its session in the making and its connections are these behind it, and all else is as before
abbrev pub TakeBehind : World → World → World
TakeBehind x y = record x { client = y.client; making = y.making; channels = y.channels; places = y.places }

pub record IsResponded (x : World) (k : ℕ) (r : Response) (y : World) : Type 0 where
  pub told : Told
  pub replies : RepliesTo x.client x.places x.salt k r told y.client y.places
  pub closes : ClosesBy (all_close (act_of told)) x.making x.channels.items y.making y.channels.items
  pub rest : y ≡ TakeBehind x y

-- the channel is cut
pub record IsCutOff (x : World) (k : ℕ) (y : World) : Type 0 where
  pub cuts : Cuts x.client x.making x.channels.items k y.client y.making y.channels.items
  pub rest : y ≡ record x { client = y.client; making = y.making; channels = y.channels }

abbrev pub TakeGoesOn : World → ℕ → Option Response → World → Type 0
TakeGoesOn x k None y = IsCutOff x k y
TakeGoesOn x k (Some r) y = IsResponded x k r y

-- ---- the front of a channel

pub record TakesFront (x : World) (k : ℕ) (y : World) : Type 0 where
  pub heard : Option Response
  pub mid : World
  pub hears : ChangedAt (HearsAt heard) k x.channels.items mid.channels.items
  pub goes : TakeGoesOn (record x { channels = mid.channels }) k heard y
