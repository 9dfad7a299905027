-- Where the requests of a repeat run were put that were signed for an opening of a connection, and which ones a server's end hears.
use Rattle.std.specs.Prelude.{◌≡◌, ℕ, true, false, List, Some, None, Ok, slice_get}
use Rattle.spec_world.specs.Settings.{WorldSettings}
use Rattle.spec_world.specs.Hearing.{Checked, Frame, check_frame, is_negotiate, is_setup, is_probe}
use Rattle.spec_hostile.specs.RepeatRuns.{RepeatWorld, RepeatEvent, Give, UpFrame, is_served, repeat_start}
use Rattle.spec_hostile.specs.SignedFor.{Watched, SignedEntry, OnOpening, watching, watched_run}
use Rattle.law_hostile.specs.unforged.Unforged.{EventSigned}

-- these bytes were put up on connection k while it had been opened n times
abbrev pub WasPutFor : RepeatWorld → ℕ → ℕ → List ℕ → Type 0
WasPutFor r k n m =
    (i : ℕ) × (u : UpFrame) × (slice_get r.ups i ≡ Some u) × (u.frame ≡ m) × (u.connection ≡ k) × (u.opening ≡ n)

abbrev pub watched_to : WorldSettings → List RepeatEvent → Watched
watched_to z es = watched_run z es (watching (repeat_start z))

-- each was put there and then
abbrev pub SignedForOpening : Type 0
SignedForOpening =
    (z : WorldSettings) (es : List RepeatEvent) (i k n : ℕ) (e : SignedEntry) → slice_get (watched_to z es).signed i ≡ Some e
    → e.to_server ≡ true → e.place ≡ OnOpening k n → WasPutFor (watched_to z es).repeating k n e.message

-- of what is given to a server's end at this event: a message of that frame, which isn't sealed
pub record GivesMessage (t : Watched) (k place : ℕ) (c : Checked) : Type 0 where
  pub put : UpFrame
  pub at : slice_get t.repeating.ups place ≡ Some put
  pub served : is_served t.repeating.world k ≡ true
  pub frame : Frame
  pub heard : check_frame (t.repeating.world.wires k).server_end put.frame ≡ Ok frame
  pub plain : frame.sealed ≡ false
  pub index : ℕ
  pub message : slice_get frame.messages index ≡ Some c

-- Where no message is forged at this event, one that is heard without a fault is a NEGOTIATE, a SESSION_SETUP or an ECHO of SessionId 0,
-- or it was put for this opening of this connection.
abbrev pub HeardIsOwn : Type 0
HeardIsOwn =
    (z : WorldSettings) (es : List RepeatEvent) (k place : ℕ) (c : Checked) → EventSigned z (watched_to z es) (Give k true place)
    → GivesMessage (watched_to z es) k place c → c.fault ≡ None → is_negotiate c.header ≡ false → is_setup c.header ≡ false
    → is_probe c.header c.raw ≡ false
    → WasPutFor (watched_to z es).repeating k ((watched_to z es).repeating.openings k) c.raw
