-- What acts in a repeat run was signed, or sealed, as owed.
use Rattle.std.specs.Prelude.{◌≡◌, ℕ, true, false, Some, None, Ok, is_some, slice_get}
use Rattle.spec_exchange.specs.State.{Server, Message, Heard}
use Rattle.spec_exchange.specs.Step.{step}
use Rattle.spec_world.specs.Settings.{WorldSettings}
use Rattle.spec_world.specs.Hearing.{Checked, Frame, check_frame}
use Rattle.spec_world.specs.Statements.{IsGuarded}
use Rattle.spec_hostile.specs.RepeatRuns.{RepeatWorld, Give, UpFrame}
use Rattle.spec_hostile.specs.HostileNetwork.{repeat_acts_now}

-- a message that isn't signed or sealed as owed doesn't act
abbrev pub FaultyActsNot : Type 0
FaultyActsNot = (s : Server) (now : ℕ) (m : Message) → is_some m.fault ≡ true → (step s now (Heard m)).acted ≡ false

-- of the frame that is given, a message has no fault: it was sealed, or its signature verifies here, or it owes neither
abbrev pub HasGuarded : RepeatWorld → ℕ → ℕ → Type 0
HasGuarded r k place =
    (u : UpFrame) × (x : Frame) × (i : ℕ) × (c : Checked) × (slice_get r.ups place ≡ Some u)
    × (check_frame (r.world.wires k).server_end u.frame ≡ Ok x) × (slice_get x.messages i ≡ Some c) × (c.fault ≡ None)
    × IsGuarded (r.world.wires k).server_end x c

abbrev pub ActsAreGuarded : Type 0
ActsAreGuarded =
    (z : WorldSettings) (r : RepeatWorld) (k place g : ℕ) → repeat_acts_now z r (Give k true place) g ≡ true → HasGuarded r k place
