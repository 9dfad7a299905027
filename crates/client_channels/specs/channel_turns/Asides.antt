-- What a channel does while nothing passes over its link: its turns at the client, and what its dialog or its line does by itself.
use Rattle.std.specs.Prelude.{◌≡◌, ◌⊎◌, ℕ, zero, suc, List, [], ◌∷◌, ◌++◌, Some, None, Ok, Err}
use Rattle.client_ends.specs.declared.dialog_calls.heard.Heard.{Heard}
use Rattle.client_ends.specs.declared.ends.dialog.Dialog.{Dialog}
use Rattle.client_ends.specs.declared.ends.line.Line.{Line}
use Rattle.client_ends.specs.declared.ends.line.LineError.TheVariants.{BadReply, Spent}
use Rattle.client_ends.specs.declared.line_calls.incoming.Answer.{Answer}
use Rattle.client_ends.specs.dialog_calls.Turning.{DialogHears}
use Rattle.client_ends.specs.ends.Shown.{ShowsDialog, ShowsLine, token_of}
use Rattle.client_ends.specs.line_calls.Interim.{LineGives}
use Rattle.client_ends.specs.line_calls.Sending.{IsRequest, LineCounts, LineSends}
use Rattle.spec_exchange.specs.State.{Message}
use Rattle.spec_world.specs.Ends.{ClientEnd}
use Rattle.wire_bytes.specs.declared.headers.request.Request.{Request}
use Rattle.client_channels.specs.channel_turns.Sides.{Breaks, Ends, Hears, Joins, Lost, Runs, Says, Sends, Side, TakesTurn, Talks}
use Rattle.client_channels.specs.channel_turns.Sides.{number_in, side_heard}
use Rattle.client_channels.specs.channel_turns.Turning.{Placed}
use Rattle.client_channels.specs.declared.channel_turns.starting.Aim.{Aim}
use Rattle.client_book.specs.declared.turn.Turn.TheVariants as turns

-- ---- what a message comes to

-- a dialog hears a message, as the definitions' end does that it shows
abbrev pub DialogTakes : Aim → Dialog → List ℕ → Side → Type 0
DialogTakes a d message s =
    (h : Heard) × (behind : Dialog)
    × ((n : ClientEnd) → ShowsDialog d n → DialogHears n.stage d n message (number_in a) behind h)
    × (s ≡ side_heard h behind)

-- A line hears a reply, or an interim response, behind which it waits on; what is neither cuts the channel.
abbrev pub LineTakes : Line → List ℕ → Side → Type 0
LineTakes l message s =
    ((a : Answer) × (behind : Line) × ((n : ClientEnd) → ShowsLine l n → LineGives n message behind (Ok (Some a))) × (s ≡ Hears behind a))
    ⊎ ((behind : Line) × ((n : ClientEnd) → ShowsLine l n → LineGives n message behind (Ok None)) × (s ≡ Runs behind))
    ⊎ ((behind : Line) × ((n : ClientEnd) → ShowsLine l n → LineGives n message behind (Err BadReply)) × (s ≡ Breaks))

abbrev pub Takes : Aim → Side → List ℕ → Side → Type 0
Takes a (Talks d) message s = DialogTakes a d message s
Takes a (Runs l) message s = LineTakes l message s
Takes a _ message s = ⊥

-- or it found no memory
abbrev pub TakesOrLoses : Aim → Side → List ℕ → Side → Type 0
TakesOrLoses a side message s = Takes a side message s ⊎ (s ≡ Lost)

-- ---- what it does by itself

-- a request becomes a frame of its line, sealed under its next nonce where it seals; or no nonce is left for it
abbrev pub LineGoes : Line → Request → Side → Type 0
LineGoes l r s =
    ((frame : List ℕ) × (behind : Line)
    × ((n : ClientEnd) (m : Message) (charge : ℕ) → ShowsLine l n → IsRequest r m charge → m.message_id ≡ n.purse.next
    → LineSends n m charge (token_of r.token) behind (Ok frame))
    × LineCounts l behind (Ok frame) × (s ≡ Says frame (Runs behind)))
    ⊎ ((behind : Line)
    × ((n : ClientEnd) (m : Message) (charge : ℕ) → ShowsLine l n → IsRequest r m charge → m.message_id ≡ n.purse.next
    → LineSends n m charge (token_of r.token) behind (Err Spent))
    × (s ≡ Breaks))

-- a bound channel's dialog gives its line away
abbrev pub GoesOn : Aim → Side → Side → Type 0
GoesOn a (Joins d) s = DialogTakes a d [] s
GoesOn a (Sends l r) s = LineGoes l r s
GoesOn a _ s = ⊥

-- ---- one step, and any number of them

pub data AsideKind : Type 0 where
  Moves : AsideKind
  HasTurn : AsideKind
  Lacks : AsideKind  -- it found no memory, and tells it the client, so that all stop

-- it tells the client that memory ran out, and does nothing more
pub record TellsLack (own : List Placed) (s' : Side) (own' : List Placed) : Type 0 where
  pub placed : Placed
  pub event : placed.1.event ≡ turns.Lack
  pub side : s' ≡ Ends
  pub own_is : own' ≡ own ++ placed ∷ []

module _ (aim : Aim) (channel : ℕ) where
  pub record Turns (s : Side) (own : List Placed) (s' : Side) (own' : List Placed) : Type 0 where
    pub placed : Placed
    pub takes : TakesTurn aim channel s placed.1.event placed.1.reply s'
    pub own_is : own' ≡ own ++ placed ∷ []

  abbrev pub AsideBy : AsideKind → Side → List Placed → Side → List Placed → Type 0
  AsideBy Moves s own s' own' = GoesOn aim s s' × (own' ≡ own)
  AsideBy HasTurn s own s' own' = Turns s own s' own'
  AsideBy Lacks s own s' own' = TellsLack own s' own'

  abbrev pub AsidesIn : ℕ → Side → List Placed → Side → List Placed → Type 0
  AsidesIn zero s own s' own' = (s' ≡ s) × (own' ≡ own)
  AsidesIn (suc n) s own s' own' =
      (side : Side) × (turns : List Placed) × AsidesIn n s own side turns × ((kind : AsideKind) × AsideBy kind side turns s' own')

  pub record Asides (s : Side) (own : List Placed) (s' : Side) (own' : List Placed) : Type 0 where
    pub count : ℕ
    pub steps : AsidesIn count s own s' own'
