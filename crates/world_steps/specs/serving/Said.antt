-- The frames of an answer, each on its way down.
use Rattle.std.specs.Prelude.{◌≡◌, ℕ, List, [], ◌∷◌, ◌++◌, Option, Some, None, ⊤}
use Rattle.conn_core.specs.reply_frames.Joined.{AreAtMost}
use Rattle.conn_core.specs.reply_sealing.Saying.{all_framed}
use Rattle.world_ends.specs.declared.sides.Down.{Down}
use Rattle.world_steps.specs.declared.serving.parting.Parted.{Parted}

-- the message of the frame in front, and what stands behind it
abbrev pub PartsIn : List ℕ → List ℕ → Option Parted → Type 0
PartsIn m rest None = ⊥
PartsIn m rest (Some p) = (p.frame.now ≡ m) × (p.rest.now ≡ rest)

-- frames that go down, each beside the place of the message that they answer
abbrev pub AreRepliesSaid : ℕ → List Down → List (List ℕ) → Type 0
AreRepliesSaid place [] [] = ⊤
AreRepliesSaid place (d ∷ ds) (b ∷ bs) = (d.place ≡ place) × (d.bytes.items ≡ b) × AreRepliesSaid place ds bs
AreRepliesSaid place [] (b ∷ bs) = ⊥
AreRepliesSaid place (d ∷ ds) [] = ⊥

-- one more
pub record SaysOne (old : List Down) (place : ℕ) (bytes : List ℕ) (new : List Down) : Type 0 where
  pub said : Down
  pub place_is : said.place ≡ place
  pub bytes_are : said.bytes.items ≡ bytes
  pub added : new ≡ old ++ said ∷ []

-- all of them
pub record ServeSays (old : List Down) (place : ℕ) (frames : List (List ℕ)) (new : List Down) : Type 0 where
  pub said : List Down
  pub are_said : AreRepliesSaid place said frames
  pub added : new ≡ old ++ said

-- those of an answer, each of them short
abbrev pub SaysAll : List Down → ℕ → List ℕ → List Down → Type 0
SaysAll old place answer new =
    (frames : List (List ℕ)) → answer ≡ all_framed frames → AreAtMost 1114112 frames → ServeSays old place frames new

-- what is left of the frames, where those in front went down
pub record IsServeLeft (old : List Down) (place : ℕ) (frames : List (List ℕ)) (rest : List ℕ) (now : List Down) : Type 0 where
  pub left : List (List ℕ)
  pub rest_is : rest ≡ all_framed left
  pub short : AreAtMost 1114112 left
  pub goes_on : (new : List Down) → ServeSays now place left new → ServeSays old place frames new

abbrev pub SaysSoFar : List Down → ℕ → List ℕ → List ℕ → List Down → Type 0
SaysSoFar old place answer rest now =
    (frames : List (List ℕ)) → answer ≡ all_framed frames → AreAtMost 1114112 frames → IsServeLeft old place frames rest now
