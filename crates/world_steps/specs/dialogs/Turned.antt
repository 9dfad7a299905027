-- What a dialog comes to in its world.
use Rattle.std.specs.Prelude.{◌≡◌, ℕ, ◌<◌, Bool, true, false, List, [], is_some}
use Rattle.client_steps.specs.declared.whole_client.client.Client.{Client as Core}
use Rattle.client_ends.specs.dialog_calls.Turning.{DialogHears}
use Rattle.client_ends.specs.declared.dialog_calls.heard.Heard.{Heard}
use Rattle.client_ends.specs.declared.dialog_calls.heard.Heard.TheVariants as heards
use Rattle.client_events.specs.event_calls.Events.{ClientEventTells, act_of}
use Rattle.client_events.specs.declared.event_calls.steps.Act.{Act as Told}
use Rattle.client_events.specs.declared.event_calls.steps.Event.{Event}
use Rattle.client_events.specs.declared.event_calls.steps.Event.TheVariants as happens
use Rattle.client_events.specs.played_client.Holding.{PlayedSteps as Happens}
use Rattle.spec_exchange.specs.Client.{unmade}
use Rattle.spec_exchange.specs.ClientStep.{Act, CloseChannel}
use Rattle.client_ends.specs.ends.Shown.{ShowsDialog}
use Rattle.client_ends.specs.declared.ends.dialog.Dialog.{Dialog}
use Rattle.client_ends.specs.declared.ends.line.Line.{Line}
use Rattle.wire_bytes.specs.declared.session_messages.refusal.Refusal.{Refusal}
use Rattle.spec_crypto.specs.declared.sessions.material.Keys.{Keys}
use Rattle.spec_world.specs.Ends.{ClientEnd}
use Rattle.world_ends.specs.declared.sides.Channel.{Channel}
use Rattle.world_ends.specs.declared.sides.ClientSide.TheVariants.{Closed, Ready, Talks}
use Rattle.world_ends.specs.declared.world.World.{World}
use Rattle.world_steps.specs.opening.Opening.{IsOpeningSaid}
use Rattle.world_steps.specs.opening.Putting.{Becomes}
use Rattle.world_steps.specs.Lists.{ChangedAt}
use Rattle.world_steps.specs.dialogs.Talking.{IsTalkTurn, TakesOut, channel_number}
use Rattle.world_steps.specs.declared.dialogs.fronting.Talk.{Talk}
use Rattle.world_steps.specs.declared.dialogs.hearing.Turn.{Turn}

-- ---- it goes on

pub record TalksOn (rest : Channel) (d : Dialog) (frame : List ℕ) (x : Channel) : Type 0 where
  pub client : x.client ≡ Talks d
  pub server : x.server ≡ rest.server
  pub up : IsOpeningSaid rest.up.items 0 frame x.up.items
  pub down : x.down.items ≡ rest.down.items

pub record TalkSaysOn (rest : Channel) (d : Dialog) (frame : List ℕ) (k : ℕ) (xs ys : List Channel) : Type 0 where
  pub channel : Channel
  pub talks : TalksOn rest d frame channel
  pub placed : ChangedAt (Becomes channel) k xs ys

-- ---- it ends

-- with its line, or closed
abbrev pub IsLeftAs : Bool → Channel → Line → Channel → Type 0
IsLeftAs true rest line x = (x.client ≡ Closed) × (x.down.items ≡ [])
IsLeftAs false rest line x = (x.client ≡ Ready line) × (x.down.items ≡ rest.down.items)

pub record IsTalkLeft (rest : Channel) (line : Line) (failed : Bool) (x : Channel) : Type 0 where
  pub client : IsLeftAs failed rest line x
  pub server : x.server ≡ rest.server
  pub up : x.up.items ≡ rest.up.items

-- the connection failed
abbrev pub closes_one : Act → Bool
closes_one CloseChannel = true
closes_one _ = false

pub record TalkEnds (old : Core) (xs : List Channel) (k : ℕ) (event : Event) (rest : Channel) (line : Line) (new : Core) (ys : List Channel)
    : Type 0 where
  pub told : Told
  pub shown : Happens old new event
  pub tells : ClientEventTells old event told
  pub channel : Channel
  pub left : IsTalkLeft rest line (closes_one (act_of told)) channel
  pub placed : ChangedAt (Becomes channel) k xs ys

pub record TalkEndsBy (x : World) (k : ℕ) (event : Event) (rest : Channel) (line : Line) (y : World) : Type 0 where
  pub ends : TalkEnds x.client x.channels.items k event rest line y.client y.channels.items
  pub making_is : y.making ≡ unmade k x.making
  pub others : y ≡ record x { client = y.client; making = y.making; channels = y.channels }

-- ---- it is refused

pub record IsTalkClosed (rest x : Channel) : Type 0 where
  pub client : x.client ≡ Closed
  pub server : x.server ≡ rest.server
  pub up : x.up.items ≡ rest.up.items
  pub down : x.down.items ≡ []

pub record TalkRefuses (old : Core) (xs : List Channel) (k channel : ℕ) (rest : Channel) (why : Refusal) (new : Core) (ys : List Channel)
    : Type 0 where
  pub shown : Happens old new (happens.Refused channel why)
  pub closed : Channel
  pub is_closed : IsTalkClosed rest closed
  pub placed : ChangedAt (Becomes closed) k xs ys

pub record RefusesBy (x : World) (k channel : ℕ) (rest : Channel) (why : Refusal) (y : World) : Type 0 where
  pub refuses : TalkRefuses x.client x.channels.items k channel rest why y.client y.channels.items
  pub making_is : y.making ≡ unmade k x.making
  pub others : y ≡ record x { client = y.client; making = y.making; channels = y.channels }

-- ---- its session is accepted, or its channel is bound

-- it hears once more, and is ready
pub record TalkJoins (x : World) (k channel number : ℕ) (d : Dialog) (rest : Channel) (y : World) : Type 0 where
  pub behind : Dialog
  pub line : Line
  pub session : ℕ
  pub tree : ℕ
  pub hears : (n : ClientEnd) → ShowsDialog d n → DialogHears n.stage d n [] number behind (heards.Ready line session tree)
  pub ends : TalkEndsBy (record x { numbers = number }) k (happens.Ready channel session tree) rest line y

pub record TalkEnters (x : World) (k : ℕ) (d : Dialog) (rest : Channel) (keys : Keys) (frame : List ℕ) (y : World) : Type 0 where
  pub says : TalkSaysOn rest d frame k x.channels.items y.channels.items
  pub others : y ≡ record x {
    channels = y.channels;
    keys = keys;
    encrypts = d.line.encrypts;
    numbers = 1;
    accepted = d.session;
  }

abbrev pub TalkAccepts : Bool → World → ℕ → ℕ → ℕ → Dialog → Channel → Keys → List ℕ → World → Type 0
TalkAccepts true x k channel number d rest keys frame y = TalkJoins x k channel number d rest y
TalkAccepts false x k channel number d rest keys frame y = TalkEnters x k d rest keys frame y

-- ---- by what it came to; a session of its own is ready only where the dialog binds none

abbrev pub TurnsAs : Heard → World → ℕ → ℕ → ℕ → Dialog → Channel → World → Type 0
TurnsAs (heards.Say frame) x k channel number d rest y =
    TalkSaysOn rest d frame k x.channels.items y.channels.items × (y ≡ record x { channels = y.channels })
TurnsAs (heards.Accepted keys chosen frame) x k channel number d rest y =
    TalkAccepts (is_some d.bound) x k channel number d rest keys frame y
TurnsAs (heards.Ready line session tree) x k channel number d rest y =
    (number ≡ 0) × TalkEndsBy x k (happens.Ready channel session tree) rest line y
TurnsAs (heards.Refused why) x k channel number d rest y = RefusesBy x k channel rest why y

-- ---- a step of a dialog: it hears, and that happens

pub record TakesTurn (x : World) (k channel number : ℕ) (t : Talk) (y : World) : Type 0 where
  -- a session to which a channel is bound has channels already
  pub counted : is_some t.dialog.bound ≡ true → 0 < x.numbers
  pub turn : Turn
  pub is : IsTalkTurn t number turn
  pub turned : TurnsAs turn.heard x k channel number turn.dialog turn.rest y

pub record TalksAt (x : World) (k : ℕ) (y : World) : Type 0 where
  pub talk : Talk
  pub mid : World
  pub mid_is : mid ≡ record x { channels = mid.channels }
  pub out : TakesOut x.channels.items k talk mid.channels.items
  pub turns : TakesTurn mid k k (channel_number (is_some talk.dialog.bound) x.numbers) talk y
