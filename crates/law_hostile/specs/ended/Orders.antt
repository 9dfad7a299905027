-- Which sessions the client accepts in a repeat run: each one once. A session's rank tells as which one it was accepted, counted from 1.
use Rattle.std.specs.Prelude.{◌≡◌, ◌≢◌, ℕ, ◌+◌, ◌<◌, List, [], ◌∷◌, ◌++◌, ◌⊎◌}
use Rattle.spec_world.specs.Settings.{WorldSettings}
use Rattle.spec_world.specs.World.{World}
use Rattle.spec_hostile.specs.RepeatRuns.{RepeatEvent, repeat_happens, repeat_start}
use Rattle.spec_hostile.specs.SignedFor.{watching}
use Rattle.spec_hostile.specs.HostileNetwork.{HasCollided, SignsAlone, repeated}
use Rattle.law_ties.specs.wire_facts.Fitting.{IsFitting}
use Rattle.law_hostile.specs.unforged.Unforged.{AllSigned}
use Rattle.law_hostile.specs.loosely.LooseSessions.{NoMoreMade}

-- where nothing is sealed, and no message of the run is forged: each session that the client accepted has an id that was given, and no
-- connection makes it any more
abbrev pub AcceptedAreGiven : Type 0
AcceptedAreGiven =
    (z : WorldSettings) (es : List RepeatEvent) → IsFitting z → SignsAlone z → AllSigned z es (watching (repeat_start z))
    → HasCollided (repeated z es).world
    ⊎ ((x : ℕ) → 0 < (repeated z es).world.values.client.rank x → (0 < x) × NoMoreMade (repeated z es).world.values.server x)

-- between these worlds the client accepts a session, which it never accepted before
pub record AcceptsNew (w v : World) : Type 0 where
  pub next : v.values.client.accepted_count ≡ w.values.client.accepted_count + 1
  pub unranked : w.values.client.rank v.values.client.accepted ≡ 0
  pub positive : 0 < v.values.client.accepted

-- of one event more, behind which it has accepted more sessions or fewer
abbrev pub AcceptedIsNew : Type 0
AcceptedIsNew =
    (z : WorldSettings) (es : List RepeatEvent) (e : RepeatEvent) → IsFitting z → SignsAlone z
    → AllSigned z (es ++ e ∷ []) (watching (repeat_start z))
    → (repeat_happens z (repeated z es) e).world.values.client.accepted_count ≢ (repeated z es).world.values.client.accepted_count
    → HasCollided (repeat_happens z (repeated z es) e).world ⊎ AcceptsNew (repeated z es).world (repeat_happens z (repeated z es) e).world
