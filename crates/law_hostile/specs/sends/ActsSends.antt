-- What acts in a repeat run in which nothing is forged: an operation's own message, which the model's client sent for it.
use Rattle.std.specs.Prelude.{◌≡◌, ℕ, true, List, Some, slice_get}
use Rattle.spec_exchange.specs.State.{Message, Answer}
use Rattle.spec_exchange.specs.Network.{World as Values, ForOp, answer_to}
use Rattle.spec_world.specs.Settings.{WorldSettings}
use Rattle.spec_hostile.specs.RepeatRuns.{RepeatEvent, Give, UpFrame, repeat_happens, repeat_start}
use Rattle.spec_hostile.specs.SignedFor.{watching}
use Rattle.spec_hostile.specs.HostileNetwork.{SignsAlone, IsBounded, repeated, repeat_acts_now}
use Rattle.law_hostile.specs.unforged.Unforged.{AllSigned, EventSigned}
use Rattle.law_hostile.specs.placed.Placed.{watched_to}
use Rattle.law_hostile.specs.sends.OwnSends.{WasSent}

-- the model's answer to it
abbrev pub answer_at : Values → Message → Answer
answer_at v m = answer_to v.server v.moment m m.command

-- The frame at this place is one that the client put up on this connection for its present opening, for operation g's own message, which the
-- model's client sent there. The model's answer to that message acts, and leaves the server that this event leaves.
pub record ActsAsSend (z : WorldSettings) (es : List RepeatEvent) (k place g : ℕ) : Type 0 where
  pub given : UpFrame
  pub at : slice_get (repeated z es).ups place ≡ Some given
  pub index : ℕ
  pub put : UpFrame
  pub there : slice_get (repeated z es).ups index ≡ Some put
  pub frame : put.frame ≡ given.frame
  pub connection : put.connection ≡ k
  pub opening : put.opening ≡ (repeated z es).openings k
  pub token : put.sent.token ≡ ForOp g
  pub sent : WasSent z es put
  pub acted : (let A = answer_at (repeated z es).world.values put.sent.message in A.acted ≡ true)
  pub server :
      (repeat_happens z (repeated z es) (Give k true place)).world.values.server
      ≡ (let A = answer_at (repeated z es).world.values put.sent.message in A.server)

-- of each event that counts as an operation's act
abbrev pub ActsAreSends : Type 0
ActsAreSends =
    (z : WorldSettings) (es : List RepeatEvent) (k place g : ℕ) → SignsAlone z → IsBounded z es → AllSigned z es (watching (repeat_start z))
    → EventSigned z (watched_to z es) (Give k true place) → repeat_acts_now z (repeated z es) (Give k true place) g ≡ true
    → ActsAsSend z es k place g
