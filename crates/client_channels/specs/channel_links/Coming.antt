-- What comes on a link, frame by frame.
use Rattle.std.specs.Prelude.{◌≡◌, ◌⊎◌, ℕ, ◌<◌, ◌^◌, Bool, true, List, [], ◌++◌, length, Option, None, Some}
use Rattle.base_outside.specs.streams.Faults.{Rose}
use Rattle.serve_turns.specs.link_serving.Passage.{Passed}
use Rattle.spec_wire.specs.messages.Frames.{Breaks, Waits, Whole, front}
use Rattle.spec_wire.specs.declared.messages.refusal.FrameError.{FrameError}
use Rattle.spec_wire.specs.declared.messages.refusal.FrameError.TheVariants as errors
use Rattle.client_channels.specs.declared.channel_links.taking.Came.{Came}
use Rattle.client_channels.specs.declared.channel_links.taking.Came.TheVariants.{Frame, Lack, Over}

-- a message as it comes; one that is too long for an end of a connection counts as memory that ran out
abbrev pub IsShort : List ℕ → Came → Type 0
IsShort message (Frame m) = (m ≡ message) × (length message < 2 ^ 60)
IsShort message Over = ⊥
IsShort message Lack = Unit {0}

-- what came is no frame, or it found no memory
abbrev pub IsRefused : FrameError → Came → Type 0
IsRefused errors.Memory came = came ≡ Lack
IsRefused (errors.BadLead lead) came = came ≡ Over
IsRefused (errors.TooLong n) came = came ≡ Over

-- What the next whole frame of a stream is, which leaves it; it is none; or more bytes are needed, and the stream stays.
abbrev pub NextIs : List ℕ → List ℕ → Came → Type 0
NextIs old new (Frame m) = (front old ≡ Whole m new) × (length m < 2 ^ 60)
NextIs old new Over = (new ≡ old) × ((e : FrameError) × (front old ≡ Breaks e))
NextIs old new Lack = Unit {0}

abbrev pub NextComes : List ℕ → List ℕ → Option Came → Type 0
NextComes old new None = (front old ≡ Waits) × (new ≡ old)
NextComes old new (Some came) = NextIs old new came

module _ {K : Type 0} (told : Type 0) (given left written : K → List ℕ) (faults : K → ℕ) (ended : K → Bool) where
  -- the link gave these bytes, and did not fail
  pub record Gave (old new : K) (came : List ℕ) : Type 0 where
    pub passed : Passed told given left written old new came []
    pub calm : faults new ≡ faults old

  -- it gives no more: it gave the end, or failed
  pub record GivesNone (old new : K) : Type 0 where
    pub passed : Passed told given left written old new [] []
    pub cause : (ended new ≡ true) ⊎ Rose (faults old) (faults new)

  -- What a link gave was put behind a stream; or it gives no more, and the stream stays; or what it gave found no memory.
  abbrev pub Feeds : K → List ℕ → K → List ℕ → Option Came → Type 0
  Feeds old stream new stream' None = (came : List ℕ) × Gave old new came × (stream' ≡ stream ++ came)
  Feeds old stream new stream' (Some (Frame m)) = ⊥
  Feeds old stream new stream' (Some Over) = GivesNone old new × (stream' ≡ stream)
  Feeds old stream new stream' (Some Lack) = (came : List ℕ) × Passed told given left written old new came []

  -- A whole frame came: with what the link gave it stood at the front of the stream.
  pub record FrameComes (old : K) (stream : List ℕ) (new : K) (stream' : List ℕ) (message : List ℕ) : Type 0 where
    pub came : List ℕ
    pub gave : Gave old new came
    pub frame : front (stream ++ came) ≡ Whole message stream'
    pub short : length message < 2 ^ 60

  -- why no frame comes any more
  abbrev pub IsOver : List ℕ → K → K → Type 0
  IsOver stream mid new = (GivesNone mid new) ⊎ ((new ≡ mid) × ((e : FrameError) × (front stream ≡ Breaks e)))

  pub record OverComes (old : K) (stream : List ℕ) (new : K) (stream' : List ℕ) : Type 0 where
    pub came : List ℕ
    pub mid : K
    pub gave : Gave old mid came
    pub stream_is : stream' ≡ stream ++ came
    pub cause : IsOver stream' mid new

  abbrev pub Comes : K → List ℕ → K → List ℕ → Came → Type 0
  Comes old stream new stream' (Frame m) = FrameComes old stream new stream' m
  Comes old stream new stream' Over = OverComes old stream new stream'
  Comes old stream new stream' Lack = (came : List ℕ) × Passed told given left written old new came []

  -- it comes, or more stands behind the stream
  abbrev pub ComesOrFeeds : K → List ℕ → K → List ℕ → Option Came → Type 0
  ComesOrFeeds old stream new stream' None = (came : List ℕ) × Gave old new came × (stream' ≡ stream ++ came)
  ComesOrFeeds old stream new stream' (Some came) = Comes old stream new stream' came
