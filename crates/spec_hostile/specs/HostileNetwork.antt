-- What is said of repeat runs: a create, lock or unlock acts at most once, and once where it settled Ok, and no write or set-info acts
-- after a newer pair reached its open, unless a message was forged or SHA-512 collides.
use Rattle.std.specs.Prelude.{◌≡◌, ℕ, ◌+◌, ◌≤◌, ◌<◌, ◌^◌, ◌==◌, Bool, true, false, ◌&&◌, ◌||◌, if◌then◌else◌, List, [], ◌∷◌, Option, Some, None}
use Rattle.std.specs.Prelude.{slice_get}
use Rattle.spec_exchange.specs.Content.{same_bytes}
use Rattle.spec_exchange.specs.Operations.{is_ok}
use Rattle.spec_exchange.specs.Network.{Event}
use Rattle.spec_exchange.specs.Runs.{is_once, is_send_of}
use Rattle.spec_exchange.specs.Statements.{NeverAfterNewer}
use Rattle.spec_crypto.specs.sessions.Chain.{hashed, Collide}
use Rattle.spec_world.specs.Settings.{WorldSettings}
use Rattle.spec_world.specs.Answering.{Ending}
use Rattle.spec_world.specs.Connection.{LastTaken}
use Rattle.spec_world.specs.World.{World, step_at}
use Rattle.law_ties.specs.wire_facts.Fitting.{IsFitting}
use Rattle.law_ties.specs.wire_facts.Steps.{restarts_in, submits_in}
use Rattle.spec_hostile.specs.RepeatRuns.{RepeatWorld, RepeatEvent, Same, Give, UpFrame, is_served, loaded_up, repeat_happens, repeat_run}
use Rattle.spec_hostile.specs.RepeatRuns.{repeat_start}
use Rattle.spec_hostile.specs.SignedFor.{HasForged, watching}

-- ---- acts: the Gives of a send of the operation, put for this opening of the connection, to a server's end whose step acted

abbrev pub took_acts : Option LastTaken → Bool
took_acts None = false
took_acts (Some x) = x.answer.acted

-- these bytes were put for this opening as the operation's send: another operation's may be the same for another opening
unfoldable pub is_own_send : ℕ → ℕ → ℕ → List ℕ → List UpFrame → Bool
is_own_send k n g m [] = false
is_own_send k n g m (u ∷ us) =
    ((u.connection == k) && ((u.opening == n) && (is_send_of g u.sent.token && same_bytes u.frame m))) || is_own_send k n g m us

abbrev pub put_acts : WorldSettings → RepeatWorld → ℕ → Option UpFrame → ℕ → Bool
put_acts z r k None g = false
put_acts z r k (Some u) g =
    is_served r.world k
    && (is_own_send k (r.openings k) g u.frame r.ups && took_acts (step_at z (loaded_up r k u) k u.frame).taken)

abbrev pub repeat_acts_now : WorldSettings → RepeatWorld → RepeatEvent → ℕ → Bool
repeat_acts_now z r (Same e) g = false
repeat_acts_now z r (Give k true place) g = put_acts z r k (slice_get r.ups place) g
repeat_acts_now z r (Give k false place) g = false

unfoldable pub repeat_acts : WorldSettings → List RepeatEvent → RepeatWorld → ℕ → ℕ
repeat_acts z [] r g = 0
repeat_acts z (e ∷ es) r g = (if repeat_acts_now z r e g then 1 else 0) + repeat_acts z es (repeat_happens z r e) g

abbrev pub repeated : WorldSettings → List RepeatEvent → RepeatWorld
repeated z es = repeat_run z es (repeat_start z)

-- ---- once and newer

pub record RepeatOnce (z : WorldSettings) (es : List RepeatEvent) : Type 0 where
  pub at_most : (g : ℕ) → is_once ((repeated z es).world.values.client.op g) ≡ true → repeat_acts z es (repeat_start z) g ≤ 1
  pub acknowledged :
      (g : ℕ) → is_once ((repeated z es).world.values.client.op g) ≡ true
      → is_ok ((repeated z es).world.values.client.outcome g) ≡ true → repeat_acts z es (repeat_start z) g ≡ 1

abbrev pub RepeatNewer : WorldSettings → List RepeatEvent → Type 0
RepeatNewer z es = NeverAfterNewer (repeated z es).world.values

-- ---- a collision: two lists that the ends hashed for a logon differ, and have one SHA-512

pub data HasCollided (w : World) : Type 0 where
  OfEndings : (i j : ℕ) (e a : Ending) → slice_get w.made i ≡ Some e → slice_get w.accepted j ≡ Some a
      → Collide (hashed e.transcript) (hashed a.transcript) → HasCollided w

-- ---- the premises

-- no cipher is offered, and no sealing asked for
pub record SignsAlone (z : WorldSettings) : Type 0 where
  pub asked : z.encrypts ≡ false
  pub offered : z.client.ciphers ≡ []

unfoldable pub own_events : List RepeatEvent → List Event
own_events [] = []
own_events (Same e ∷ es) = e ∷ own_events es
own_events (Give k up place ∷ es) = own_events es

-- settings fit, the server has the client's user by the client's password, and ids and numbers don't run out
pub record IsBounded (z : WorldSettings) (es : List RepeatEvent) : Type 0 where
  pub fitting : IsFitting z
  pub restarts : restarts_in (own_events es) < 4294967295
  pub submits : submits_in (own_events es) < 2 ^ 64

-- ---- the statement

pub data RepeatOutcome (z : WorldSettings) (es : List RepeatEvent) : Type 0 where
  HoldsThen : RepeatOnce z es → RepeatNewer z es → RepeatOutcome z es
  ForgedThen : HasForged z es (watching (repeat_start z)) → RepeatOutcome z es
  CollidedThen : HasCollided (repeated z es).world → RepeatOutcome z es

abbrev pub HostileNetwork : Type 0
HostileNetwork = (z : WorldSettings) (es : List RepeatEvent) → SignsAlone z → IsBounded z es → RepeatOutcome z es
