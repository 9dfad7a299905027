-- What a client accepts in repeat runs.
use Rattle.std.specs.Prelude.{◌≡◌, ℕ, ◌⊎◌, List, Some, slice_get}
use Rattle.spec_world.specs.Settings.{WorldSettings}
use Rattle.spec_world.specs.Answering.{Ending}
use Rattle.spec_world.specs.Statements.{Negotiated}
use Rattle.spec_hostile.specs.RepeatRuns.{RepeatEvent}
use Rattle.spec_hostile.specs.HostileNetwork.{HasCollided, repeated}

-- each accepted final response has the transcript of one that the server made, or two lists collide, or the server made none of its keys
abbrev pub RepeatNegotiation : Type 0
RepeatNegotiation = (z : WorldSettings) (es : List RepeatEvent) → Negotiated (repeated z es).world

-- a final response that was made and one that was accepted, of one chain value, have one transcript, or two lists collide
abbrev pub SameTranscripts : Type 0
SameTranscripts =
    (z : WorldSettings) (es : List RepeatEvent) (i j : ℕ) (e a : Ending) → slice_get (repeated z es).world.made i ≡ Some e
    → slice_get (repeated z es).world.accepted j ≡ Some a → e.chain ≡ a.chain
    → (e.transcript ≡ a.transcript) ⊎ HasCollided (repeated z es).world
