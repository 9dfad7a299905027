-- A channel from its first turn to its last: what it asks, and what it does on each link.
use Rattle.std.specs.Prelude.{◌≡◌, ◌⊎◌, ℕ, zero, suc, ◌+◌, Bool, List, [], ◌∷◌, ◌++◌, Option, None, Some}
use Rattle.base_outside.specs.streams.Faults.{Rose}
use Rattle.client_ends.specs.declared.ends.config.Bound.{Bound}
use Rattle.client_ends.specs.declared.ends.config.ClientConfig.{ClientConfig}
use Rattle.client_ends.specs.declared.ends.config.Fresh.{Fresh}
use Rattle.client_ends.specs.declared.ends.dialog.Dialog.{Dialog}
use Rattle.client_ends.specs.dialog_calls.Opening.{DialogBegins}
use Rattle.serve_turns.specs.link_serving.Passage.{IsNewLink}
use Rattle.client_channels.specs.Draws.{IsFreshAt}
use Rattle.client_channels.specs.channel_turns.Links.{Passes, on}
use Rattle.client_channels.specs.channel_turns.Sides.{Ends, Says, Talks, aim_of}
use Rattle.client_channels.specs.channel_turns.Asides.{TellsLack}
use Rattle.client_channels.specs.channel_turns.Turning.{Placed, TurnsOnce}
use Rattle.client_book.specs.declared.turn.Told.{Told}
use Rattle.client_channels.specs.declared.channel_turns.starting.Aim.{Aim}
use Rattle.client_channels.specs.declared.channel_turns.starting.Aim.TheVariants as aims
use Rattle.client_book.specs.declared.turn.Turn.TheVariants as turns

abbrev pub previous_in : Aim → ℕ
previous_in (aims.Make previous) = previous
previous_in (aims.Bind bound number) = 0

abbrev pub bound_in : Aim → Option Bound
bound_in (aims.Make previous) = None
bound_in (aims.Bind bound number) = Some bound

-- its turns, and how many draws it took
pub record Been : Type 0 where
  pub own : List Placed
  pub draws : ℕ

abbrev pub been : List Placed → ℕ → Been
been own draws = record { own = own; draws = draws }

-- it asked what it is to do
pub record AsksOnce (channel : ℕ) (own : List Placed) (own' : List Placed) (aim : Option Aim) : Type 0 where
  pub placed : Placed
  pub first : Bool
  pub shuns : ℕ
  pub event : placed.1.event ≡ turns.Begin channel first shuns
  pub aims : aim ≡ aim_of placed.1.reply
  pub own_is : own' ≡ own ++ placed ∷ []

-- A call of a net failed, and raised its count of faults. Of two rounds that fail it may be the same call.
pub record NetFailed {N : Type 0} (faults : N → ℕ) : Type 0 where
  pub net : N
  pub net' : N
  pub rose : Rose (faults net) (faults net')

pub data RoundKind : Type 0 where
  Rests : RoundKind  -- there is nothing to be done, or it ends
  Fails : RoundKind  -- a connect failed
  Connects : RoundKind
  Lacks : RoundKind  -- it found no memory

module _ {K : Type 0} (told : Type 0) (given left written : K → List ℕ) (faults : K → ℕ) (ended : K → Bool) (bars : ℕ → ℕ → Type 0)
    (config : ClientConfig) (seed : List ℕ) (channel : ℕ) where
  -- On a link a dialog begins with the next three draws, and the channel goes on there until the link is used no more.
  pub record UsesLink (aim : Aim) (draws : ℕ) (own : List Placed) (link : K) (draws' : ℕ) (own' : List Placed) : Type 0 where
    pub fresh : Fresh
    pub drawn : IsFreshAt seed channel draws fresh
    pub dialog : Dialog
    pub greeting : List ℕ
    pub begins : DialogBegins config fresh (previous_in aim) (bound_in aim) dialog greeting
    pub stream : List ℕ
    pub link' : K
    pub passes : Passes told given left written faults ended bars aim channel (on (Says greeting (Talks dialog)) [] link own)
        (on Ends stream link' own')
    pub count : draws' ≡ draws + 3

  pub record RoundRests (x y : Been) : Type 0 where
    pub asks : AsksOnce channel x.own y.own None
    pub draws : y.draws ≡ x.draws

  pub record RoundConnects (x y : Been) : Type 0 where
    pub aim : Aim
    pub own : List Placed
    pub asks : AsksOnce channel x.own own (Some aim)
    pub link : K
    pub is_new : IsNewLink told given left written faults ended link
    pub uses : UsesLink aim x.draws own link y.draws y.own

  -- in front of its first turn, or behind one that asked
  pub record RoundLacks (x y : Been) : Type 0 where
    pub own : List Placed
    pub before : (own ≡ x.own) ⊎ ((aim : Aim) × AsksOnce channel x.own own (Some aim))
    pub lacks : TellsLack own Ends y.own

  module _ {N : Type 0} (net_faults : N → ℕ) where
    pub record RoundFails (x y : Been) : Type 0 where
      pub aim : Aim
      pub own : List Placed
      pub asks : AsksOnce channel x.own own (Some aim)
      pub cause : NetFailed net_faults
      pub reply : Told
      pub fails : TurnsOnce own (turns.Failed channel) reply y.own
      pub draws : y.draws ≡ x.draws

    abbrev pub RoundBy : RoundKind → Been → Been → Type 0
    RoundBy Rests x y = RoundRests x y
    RoundBy Fails x y = RoundFails x y
    RoundBy Connects x y = RoundConnects x y
    RoundBy Lacks x y = RoundLacks x y

    abbrev pub Round : Been → Been → Type 0
    Round x y = (kind : RoundKind) × RoundBy kind x y

    abbrev pub RoundsIn : ℕ → Been → Been → Type 0
    RoundsIn zero x y = y ≡ x
    RoundsIn (suc n) x y = (z : Been) × RoundsIn n x z × Round z y

    pub record GoesRound (x y : Been) : Type 0 where
      pub count : ℕ
      pub rounds : RoundsIn count x y
