-- What the client does in a turn of one of its channels: at most one event of the client.
use Rattle.std.specs.Prelude.{◌≡◌, ℕ, ◌+◌, ◌-◌, ◌^◌, ◌==◌, nat_lt, min, Bool, true, false, ◌||◌, if◌then◌else◌, ◌⊎◌}
use Rattle.client_ends.specs.declared.line_calls.incoming.Answer.{Answer}
use Rattle.client_events.specs.declared.event_calls.steps.Act.{Act}
use Rattle.client_events.specs.declared.event_calls.steps.Act.TheVariants as acts
use Rattle.client_events.specs.declared.event_calls.steps.Event.{Event}
use Rattle.client_events.specs.declared.event_calls.steps.Event.TheVariants as events
use Rattle.client_events.specs.event_calls.Events.{ClientEventTells, KeepsShown}
use Rattle.client_events.specs.played_client.Holding.{PlayedSteps}
use Rattle.client_steps.specs.declared.whole_client.client.Client.{Client as Core}
use Rattle.client_steps.specs.whole_client.Shown.{ShowsClient}
use Rattle.client_values.specs.declared.outcomes.outcome.Why.{Why}
use Rattle.client_values.specs.declared.outcomes.outcome.Why.TheVariants.{GaveUp, NoSession}
use Rattle.spec_exchange.specs.Client.{Client}
use Rattle.spec_exchange.specs.Network.{Settings, start}
use Rattle.wire_bytes.specs.declared.headers.request.Request.{Request}
use Rattle.wire_commands.specs.declared.values.reply.Reply.{Reply}
use Rattle.client_book.specs.Asking.{Asks}
use Rattle.client_book.specs.Beginning.{IsNextIn, Shared, behind_begun, told_begun}
use Rattle.client_book.specs.Reading.{IsResponseOf, Reads}
use Rattle.client_book.specs.declared.book.ClientBook.{ClientBook}
use Rattle.client_book.specs.declared.reading.Response.{Response}
use Rattle.client_book.specs.declared.turn.Told.{Told}
use Rattle.client_book.specs.declared.turn.Told.TheVariants as tells
use Rattle.client_book.specs.declared.turn.Turn.{Turn}
use Rattle.client_book.specs.declared.turn.Turn.TheVariants as turns

abbrev pub shared_of : ClientBook → Shared
shared_of b = record {
  accepted = b.accepted;
  keys = b.keys;
  numbers = b.numbers;
  failed = b.failed;
  opened = b.opened;
  finished = b.finished;
}

-- ---- what is told of an act

-- the operation's request, or the one to attach its open in its place
pub record TellsRequest (client : Core) (salt g : ℕ) (asking : Bool) (told : Told) : Type 0 where
  pub request : Request
  pub is : told ≡ tells.Send request
  pub asks : Asks client salt g asking request

abbrev pub TellsAct : Act → Core → ℕ → Told → Type 0
TellsAct acts.Nothing client salt told = told ≡ tells.Nothing
TellsAct (acts.Sends g) client salt told = TellsRequest client salt g false told
TellsAct (acts.Asks g) client salt told = TellsRequest client salt g true told
TellsAct acts.CloseChannel client salt told = told ≡ tells.Close
TellsAct acts.CloseChannels client salt told = told ≡ tells.Close
TellsAct acts.AllSettled client salt told = told ≡ tells.Done

-- ---- a turn

-- memory ran out: this turn is told to stop, and every later one
pub record Stops (told : Told) (new : ClientBook) : Type 0 where
  pub is : told ≡ tells.Stop
  pub stopped : new.stopped ≡ true

-- memory ran out, or this
abbrev pub StopsOr : Told → ClientBook → Type 0 → Type 0
StopsOr told new otherwise = Stops told new ⊎ otherwise

-- what no turn changes
pub record Lasts (old new : ClientBook) : Type 0 where
  pub salt : new.salt ≡ old.salt
  pub going : new.stopped ≡ false

-- an event happened to the client, and its act is told
pub record Happens (old : ClientBook) (x : Event) (told : Told) (new : ClientBook) : Type 0 where
  pub lasts : Lasts old new
  pub shown : PlayedSteps old.client new.client x
  pub act : Act
  pub acts : ClientEventTells old.client x act
  pub tells : TellsAct act new.client old.salt told

-- an event happened, and what channels share stays; or memory ran out
abbrev pub TakesAs : ClientBook → Event → Told → ClientBook → Type 0
TakesAs old x told new = StopsOr told new (Happens old x told new × (shared_of new ≡ shared_of old))

-- a change of what channels share alone
pub record LeavesClient (old new : ClientBook) : Type 0 where
  pub client : new.client ≡ old.client
  pub salt : new.salt ≡ old.salt
  pub stopped : new.stopped ≡ old.stopped

-- a request is told, and nothing changes; or memory ran out
abbrev pub TellsRequestOr : ClientBook → ℕ → Bool → Told → ClientBook → Type 0
TellsRequestOr old g asking told new =
    StopsOr told new ((new ≡ old) × TellsRequest old.client old.salt g asking told)

-- no event happened to the client
pub record Rests (old new : ClientBook) : Type 0 where
  pub lasts : Lasts old new
  pub shown : KeepsShown old.client new.client

abbrev pub opened_by : ℕ → Shared → Shared
opened_by channel s = record s { opened = s.opened || (channel == 0) }

-- the dialog of a channel has ended
abbrev pub ended_on : ℕ → Shared → Shared
ended_on channel s = opened_by channel (record s { failed = 0 })

-- a client without operations, in no session, with keys of none, of which nothing has failed
pub record IsNew (salt : ℕ) (b : ClientBook) : Type 0 where
  pub client : (settings : Settings) → ShowsClient b.client (start settings).client
  pub salt_is : b.salt ≡ salt
  pub accepted : b.accepted ≡ 0
  pub cipher : b.keys.cipher ≡ 0
  pub numbers : b.numbers ≡ 0
  pub failed : b.failed ≡ 0
  pub opened : b.opened ≡ false
  pub finished : b.finished ≡ false
  pub going : b.stopped ≡ false

-- ---- each kind of turn

abbrev pub Begins : ClientBook → ℕ → Bool → ℕ → Told → ClientBook → Type 0
Begins old channel first shuns told new =
    Rests old new × (shared_of new ≡ behind_begun told (shared_of old)) × IsNextIn told (shared_of old)
    × ((c : Client) → ShowsClient old.client c → told ≡ told_begun c (shared_of old) channel first shuns)

-- A reply is heard as its operation's.
pub record Hears (old : ClientBook) (channel : ℕ) (a : Answer) (told : Told) (new : ClientBook) : Type 0 where
  pub response : Response
  pub is : IsResponseOf a response
  pub reply : Reply
  pub reads : Reads old.client old.salt response reply
  pub happens : Happens old (events.Hear channel response.number response.asking reply.status reply.body) told new
  pub rest : shared_of new ≡ shared_of old

-- one that names a session which has ended ends no dialog
abbrev pub is_nothing : Told → Bool
is_nothing tells.Nothing = true
is_nothing _ = false

abbrev pub behind_ready : Told → ℕ → Shared → Shared
behind_ready told channel s = if is_nothing told then ended_on channel s else s

abbrev pub finishing : Shared → Shared
finishing s = record s { finished = true }

-- one more connect failed
abbrev pub failing : ℕ → Shared → Shared
failing channel s = opened_by channel (record s { failed = min (s.failed + 1) (2 ^ 32 - 1) })

-- all is given up
abbrev pub Finishes : ClientBook → Why → Told → ClientBook → Type 0
Finishes old why told new = Happens old (events.Finish why) told new × (shared_of new ≡ finishing (shared_of old))

-- Eight connects failed in a row: all is given up where no session is live. Where one is the channel is to keep away from it.
abbrev pub GivesUp : ClientBook → Shared → Told → ClientBook → Type 0
GivesUp old s told new =
    (Happens old (events.Finish (GaveUp 8)) told new × (shared_of new ≡ finishing s)
    × ((c : Client) → ShowsClient old.client c → c.live ≡ false))
    ⊎ (Rests old new × (shared_of new ≡ s) × (told ≡ tells.Close)
    × ((c : Client) → ShowsClient old.client c → c.live ≡ true))

abbrev pub FailsBy : Bool → ClientBook → Shared → Told → ClientBook → Type 0
FailsBy true old s told new = Rests old new × (shared_of new ≡ s) × (told ≡ tells.Nothing)
FailsBy false old s told new = GivesUp old s told new

abbrev pub Fails : ClientBook → ℕ → Told → ClientBook → Type 0
Fails old channel told new =
    FailsBy (nat_lt (failing channel (shared_of old)).failed 8) old (failing channel (shared_of old)) told new

-- a turn that found memory
abbrev pub Goes : ClientBook → Turn → Told → ClientBook → Type 0
Goes old (turns.Submit number kind) told new = Happens old (events.Submit number kind) told new × (shared_of new ≡ shared_of old)
Goes old (turns.Begin channel first shuns) told new = Begins old channel first shuns told new
Goes old (turns.Failed channel) told new = Fails old channel told new
Goes old (turns.Accept session keys) told new =
    Rests old new × (told ≡ tells.Nothing)
    × (shared_of new ≡ record (shared_of old) { accepted = session; keys = keys; numbers = 1 })
Goes old (turns.Ready channel session tree) told new =
    Happens old (events.Ready channel session tree) told new × (shared_of new ≡ behind_ready told channel (shared_of old))
Goes old (turns.Refused channel why) told new =
    Happens old (events.Refused channel why) told new × (shared_of new ≡ ended_on channel (shared_of old))
Goes old (turns.Leave channel) told new =
    Rests old new × (told ≡ tells.Nothing) × (shared_of new ≡ record (shared_of old) { failed = 0 })
Goes old (turns.Finish why) told new = Finishes old (NoSession why) told new
Goes old (turns.Push channel credits) told new = Happens old (events.Push channel credits) told new × (shared_of new ≡ shared_of old)
Goes old (turns.Hear channel answer) told new = Hears old channel answer told new
Goes old (turns.Cut channel) told new = Happens old (events.Cut channel) told new × (shared_of new ≡ shared_of old)
Goes old turns.Lack told new = ⊥

-- a turn: behind one that found no memory each is told to stop
abbrev pub ClientSteps : ClientBook → Turn → Told → ClientBook → Type 0
ClientSteps old turn told new = Stops told new ⊎ ((old.stopped ≡ false) × Goes old turn told new)
