-- The final responses of a repeat run: whose secrets are behind what the server signed, and which ones the client accepted.
use Rattle.std.specs.Prelude.{◌≡◌, ℕ, ◌⊎◌, false, List, Some, slice_get}
use Rattle.spec_world.specs.Settings.{WorldSettings}
use Rattle.spec_world.specs.Answering.{Ending}
use Rattle.spec_world.specs.World.{World}
use Rattle.spec_hostile.specs.RepeatRuns.{RepeatEvent, repeat_start}
use Rattle.spec_hostile.specs.SignedFor.{Secret, SignedEntry, OnOpening, no_secret, watching}
use Rattle.spec_hostile.specs.HostileNetwork.{HasCollided, SignsAlone, repeated}
use Rattle.law_hostile.specs.unforged.Unforged.{AllSigned}
use Rattle.law_hostile.specs.placed.Placed.{watched_to}

abbrev pub secret_of : Ending → Secret
secret_of e = record { base = e.base; value = e.chain }

-- a final response that the server made has this secret
pub record WasMade (made : List Ending) (s : Secret) : Type 0 where
  pub index : ℕ
  pub ending : Ending
  pub at : slice_get made index ≡ Some ending
  pub is : secret_of ending ≡ s

-- of each message that the server signed, where nothing is sealed, or it has none
abbrev pub SignedWasMade : Type 0
SignedWasMade =
    (z : WorldSettings) (es : List RepeatEvent) (i : ℕ) (x : SignedEntry) → SignsAlone z → slice_get (watched_to z es).signed i ≡ Some x
    → x.to_server ≡ false → (x.secret ≡ no_secret) ⊎ WasMade (watched_to z es).repeating.world.made x.secret

-- a final response of the same exported key and chain value, over the same messages, or SHA-512 collides
pub record IsMadeAs (w : World) (a : Ending) : Type 0 where
  pub index : ℕ
  pub ending : Ending
  pub at : slice_get w.made index ≡ Some ending
  pub base : ending.base ≡ a.base
  pub value : ending.chain ≡ a.chain
  pub transcript : (ending.transcript ≡ a.transcript) ⊎ HasCollided w

-- where nothing is sealed, and no message of the run is forged
abbrev pub AcceptedWasMade : Type 0
AcceptedWasMade =
    (z : WorldSettings) (es : List RepeatEvent) (i : ℕ) (a : Ending) → SignsAlone z → AllSigned z es (watching (repeat_start z))
    → slice_get (repeated z es).world.accepted i ≡ Some a → IsMadeAs (repeated z es).world a

-- the server signed it, with its own secret and for an opening of a connection
pub record IsSignedFor (signed : List SignedEntry) (e : Ending) : Type 0 where
  pub index : ℕ
  pub entry : SignedEntry
  pub at : slice_get signed index ≡ Some entry
  pub way : entry.to_server ≡ false
  pub secret : entry.secret ≡ secret_of e
  pub message : entry.message ≡ e.message
  pub connection : ℕ
  pub opening : ℕ
  pub place : entry.place ≡ OnOpening connection opening

-- each final response that the server made
abbrev pub MadeWasSigned : Type 0
MadeWasSigned =
    (z : WorldSettings) (es : List RepeatEvent) (i : ℕ) (e : Ending) → SignsAlone z → slice_get (repeated z es).world.made i ≡ Some e
    → IsSignedFor (watched_to z es).signed e
