-- The message ids of the client's frames, and of the values that they were made for.
use Rattle.std.specs.Prelude.{◌≡◌, ℕ, ◌<◌, false, List, [], ◌∷◌, Some, slice_get}
use Rattle.spec_world.specs.Settings.{WorldSettings}
use Rattle.spec_world.specs.Messages.{header_in, heard_in, messages_in}
use Rattle.spec_world.specs.Hearing.{begins_sealed}
use Rattle.spec_hostile.specs.RepeatRuns.{RepeatEvent, UpFrame}
use Rattle.spec_hostile.specs.HostileNetwork.{repeated}

-- of the value that a frame was made for
abbrev pub id_of_put : UpFrame → ℕ
id_of_put u = u.sent.message.message_id

-- in one opening of a connection each later one is above all before it
abbrev pub OwnIdsRise : Type 0
OwnIdsRise =
    (z : WorldSettings) (es : List RepeatEvent) (i j : ℕ) (u v : UpFrame) → i < j → slice_get (repeated z es).ups i ≡ Some u
    → slice_get (repeated z es).ups j ≡ Some v → u.connection ≡ v.connection → u.opening ≡ v.opening → id_of_put u < id_of_put v

-- these bytes are one message, whose header has this id
pub record BearsOne (frame : List ℕ) (id : ℕ) : Type 0 where
  pub id_is : (header_in frame).message ≡ id
  pub alone : messages_in frame ≡ Some (heard_in frame ∷ [])

-- each frame that isn't sealed is one message with its value's id
abbrev pub OwnFramesBearIds : Type 0
OwnFramesBearIds =
    (z : WorldSettings) (es : List RepeatEvent) (i : ℕ) (u : UpFrame) → slice_get (repeated z es).ups i ≡ Some u
    → begins_sealed u.frame ≡ false → BearsOne u.frame (id_of_put u)

-- so in one opening of a connection the ids that these frames bear rise too
abbrev pub OwnFramesRise : Type 0
OwnFramesRise =
    (z : WorldSettings) (es : List RepeatEvent) (i j : ℕ) (u v : UpFrame) → i < j → slice_get (repeated z es).ups i ≡ Some u
    → slice_get (repeated z es).ups j ≡ Some v → u.connection ≡ v.connection → u.opening ≡ v.opening
    → begins_sealed u.frame ≡ false → begins_sealed v.frame ≡ false → (header_in u.frame).message < (header_in v.frame).message

-- where the client offers no cipher, none of its frames is sealed
abbrev pub OwnFramesArePlain : Type 0
OwnFramesArePlain =
    (z : WorldSettings) (es : List RepeatEvent) (i : ℕ) (u : UpFrame) → z.client.ciphers ≡ []
    → slice_get (repeated z es).ups i ≡ Some u → begins_sealed u.frame ≡ false
