-- What a channel does on a link, step by step: what it reads and writes there, and what it does meanwhile.
use Rattle.std.specs.Prelude.{◌≡◌, ◌⊎◌, ℕ, zero, suc, Bool, List, [], ◌++◌, Option, None, Some, Result, Ok, Err}
use Rattle.base_outside.specs.streams.Faults.{Rose}
use Rattle.serve_turns.specs.link_serving.Passage.{Passed}
use Rattle.spec_wire.specs.messages.Frames.{Whole, frame_spelling, front}
use Rattle.client_channels.specs.channel_links.Coming.{FrameComes, IsOver, OverComes}
use Rattle.client_channels.specs.channel_turns.Asides.{Asides, TakesOrLoses}
use Rattle.client_channels.specs.channel_turns.Sides.{Ends, Lost, Runs, Says, Side, Talks, over}
use Rattle.client_channels.specs.channel_turns.Turning.{Placed}
use Rattle.client_channels.specs.declared.channel_links.taking.Came.{Came}
use Rattle.client_channels.specs.declared.channel_links.taking.Came.TheVariants.{Frame, Lack, Over}
use Rattle.client_channels.specs.declared.channel_turns.dialogs.Talked as talked
use Rattle.client_channels.specs.declared.channel_turns.dialogs.Talked.TheVariants as talks
use Rattle.client_channels.specs.declared.channel_turns.passing.Parted.{Parted}
use Rattle.client_channels.specs.declared.channel_turns.starting.Aim.{Aim}
use Rattle.client_ends.specs.declared.ends.line.Line.{Line}

-- how far it has come: its end of the link, the bytes that came and were not taken, the link, and its turns
pub record On (K : Type 0) : Type 0 where
  pub side : Side
  pub stream : List ℕ
  pub link : K
  pub own : List Placed

abbrev pub on : {K : Type 0} → Side → List ℕ → K → List Placed → On K
on side stream link own = record { side = side; stream = stream; link = link; own = own }

-- its dialog or its line waits for what comes
abbrev pub Waits : Side → Type 0
Waits (Talks dialog) = Unit {0}
Waits (Runs line) = Unit {0}
Waits _ = ⊥

-- ---- one step

pub data StepKind : Type 0 where
  Reads : StepKind  -- the link gave bytes
  Loses : StepKind  -- which found no memory
  GivesNoMore : StepKind  -- it ended or failed, what it gave is no frame, or the gate let nothing more pass
  TakesFrame : StepKind  -- a whole frame is heard
  Writes : StepKind  -- a message went out
  WritesPart : StepKind  -- the link failed in the middle of one
  IsAside : StepKind  -- nothing passes

-- ---- what comes on a link, where the gate may let nothing more pass

module _ {K : Type 0} (told : Type 0) (given left written : K → List ℕ) (faults : K → ℕ) (ended : K → Bool) (bars : ℕ → ℕ → Type 0)
    (channel : ℕ) where
  -- why no more comes
  abbrev pub IsOverBy : List ℕ → K → K → Type 0
  IsOverBy stream old new =
      IsOver told given left written faults ended stream old new ⊎ ((new ≡ old) × ((turn : ℕ) × bars channel turn))

  -- what comes next, where the gate may let nothing more pass
  abbrev pub ComesIf : K → List ℕ → K → List ℕ → Came → Type 0
  ComesIf old stream new stream' (Frame m) = FrameComes told given left written faults ended old stream new stream' m
  ComesIf old stream new stream' Over =
      OverComes told given left written faults ended old stream new stream'
      ⊎ ((new ≡ old) × (stream' ≡ stream) × ((turn : ℕ) × bars channel turn))
  ComesIf old stream new stream' Lack = (came : List ℕ) × Passed told given left written old new came []

module _ {K : Type 0} (told : Type 0) (given left written : K → List ℕ) (faults : K → ℕ) (ended : K → Bool) (bars : ℕ → ℕ → Type 0)
    (aim : Aim) (channel : ℕ) where
  pub record StepReads (x y : On K) : Type 0 where
    pub waits : Waits x.side
    pub piece : List ℕ
    pub link : K
    pub passed : Passed told given left written x.link link piece []
    pub calm : faults link ≡ faults x.link
    pub is : y ≡ on x.side (x.stream ++ piece) link x.own

  pub record StepLoses (x y : On K) : Type 0 where
    pub waits : Waits x.side
    pub piece : List ℕ
    pub link : K
    pub passed : Passed told given left written x.link link piece []
    pub stream : List ℕ
    pub is : y ≡ on Lost stream link x.own

  pub record StepOver (x y : On K) : Type 0 where
    pub waits : Waits x.side
    pub link : K
    pub cause : IsOverBy told given left written faults ended bars channel x.stream x.link link
    pub is : y ≡ on (over x.side) x.stream link x.own

  pub record StepTakes (x y : On K) : Type 0 where
    pub message : List ℕ
    pub rest : List ℕ
    pub frame : front x.stream ≡ Whole message rest
    pub side : Side
    pub takes : TakesOrLoses aim x.side message side
    pub is : y ≡ on side rest x.link x.own

  pub record StepWrites (x y : On K) : Type 0 where
    pub message : List ℕ
    pub side : Side
    pub due : x.side ≡ Says message side
    pub link : K
    pub passed : Passed told given left written x.link link [] (frame_spelling message)
    pub calm : faults link ≡ faults x.link
    pub is : y ≡ on side x.stream link x.own

  pub record StepWritesPart (x y : On K) : Type 0 where
    pub message : List ℕ
    pub side : Side
    pub due : x.side ≡ Says message side
    pub wrote : List ℕ
    pub lost : List ℕ
    pub part : wrote ++ lost ≡ frame_spelling message
    pub link : K
    pub passed : Passed told given left written x.link link [] wrote
    pub rose : Rose (faults x.link) (faults link)
    pub is : y ≡ on (over side) x.stream link x.own

  pub record StepAside (x y : On K) : Type 0 where
    pub side : Side
    pub own : List Placed
    pub steps : Asides aim channel x.side x.own side own
    pub is : y ≡ on side x.stream x.link own

  abbrev pub StepBy : StepKind → On K → On K → Type 0
  StepBy Reads x y = StepReads x y
  StepBy Loses x y = StepLoses x y
  StepBy GivesNoMore x y = StepOver x y
  StepBy TakesFrame x y = StepTakes x y
  StepBy Writes x y = StepWrites x y
  StepBy WritesPart x y = StepWritesPart x y
  StepBy IsAside x y = StepAside x y

  -- so many steps, and any number of them
  abbrev pub StepsIn : ℕ → On K → On K → Type 0
  StepsIn zero x y = y ≡ x
  StepsIn (suc n) x y = (z : On K) × StepsIn n x z × ((kind : StepKind) × StepBy kind z y)

  pub record Passes (x y : On K) : Type 0 where
    pub count : ℕ
    pub steps : StepsIn count x y

-- ---- the side of a channel by what a call answers

-- a dialog goes on at some side, its channel is ready, or the link is used no more
abbrev pub talked_side : talked.Talked → Side → Side
talked_side talks.On s = s
talked_side (talks.Ready line) s = Runs line
talked_side (talks.Ends parted) s = Ends

-- it goes on at some side, or the link is used no more
abbrev pub side_unless : Option Parted → Side → Side
side_unless None s = s
side_unless (Some parted) s = Ends

abbrev pub line_or_end : Result Line Parted → Side
line_or_end (Ok line) = Runs line
line_or_end (Err parted) = Ends
