-- What was put and what was signed in a repeat run stays, and each message that was signed was put.
use Rattle.std.specs.Prelude.{◌≡◌, ℕ, true, false, List, ◌++◌, Some, slice_get}
use Rattle.spec_world.specs.Settings.{WorldSettings}
use Rattle.spec_hostile.specs.RepeatRuns.{RepeatWorld, RepeatEvent, UpFrame, DownFrame, repeat_run, repeat_start}
use Rattle.spec_hostile.specs.SignedFor.{Watched, SignedEntry, watching, watched_run}
use Rattle.spec_hostile.specs.HostileNetwork.{repeated}

-- at its place
pub record Grows (old new : RepeatWorld) : Type 0 where
  pub ups : (n : ℕ) (u : UpFrame) → slice_get old.ups n ≡ Some u → slice_get new.ups n ≡ Some u
  pub downs : (n : ℕ) (d : DownFrame) → slice_get old.downs n ≡ Some d → slice_get new.downs n ≡ Some d

abbrev pub PutStays : Type 0
PutStays = (z : WorldSettings) (es : List RepeatEvent) (r : RepeatWorld) → Grows r (repeat_run z es r)

-- what is watched is the run
abbrev pub WatchesRun : Type 0
WatchesRun = (z : WorldSettings) (es : List RepeatEvent) (t : Watched) → (watched_run z es t).repeating ≡ repeat_run z es t.repeating

abbrev pub SignedStays : Type 0
SignedStays =
    (z : WorldSettings) (es : List RepeatEvent) (t : Watched) (n : ℕ) (e : SignedEntry) → slice_get t.signed n ≡ Some e
    → slice_get (watched_run z es t).signed n ≡ Some e

-- these bytes were put up
abbrev pub WasPutUp : RepeatWorld → List ℕ → Type 0
WasPutUp r m = (n : ℕ) × (u : UpFrame) × (slice_get r.ups n ≡ Some u) × (u.frame ≡ m)

abbrev pub SignedWasPut : Type 0
SignedWasPut =
    (z : WorldSettings) (es : List RepeatEvent) (i : ℕ) (e : SignedEntry)
    → slice_get (watched_run z es (watching (repeat_start z))).signed i ≡ Some e → e.to_server ≡ true
    → WasPutUp (repeated z es) e.message

-- these bytes stand in those in one piece
pub record IsPiece (m bytes : List ℕ) : Type 0 where
  pub before : List ℕ
  pub behind : List ℕ
  pub joined : bytes ≡ before ++ (m ++ behind)

-- these bytes stand in one piece in a frame that was put down
abbrev pub WasPutDown : RepeatWorld → List ℕ → Type 0
WasPutDown r m = (n : ℕ) × (d : DownFrame) × (slice_get r.downs n ≡ Some d) × IsPiece m d.frame

abbrev pub SignedReplyWasPut : Type 0
SignedReplyWasPut =
    (z : WorldSettings) (es : List RepeatEvent) (i : ℕ) (e : SignedEntry)
    → slice_get (watched_run z es (watching (repeat_start z))).signed i ≡ Some e → e.to_server ≡ false
    → WasPutDown (repeated z es) e.message
