-- The sessions that the client accepts in a repeat run, at the server.
use Rattle.std.specs.Prelude.{◌≡◌, ◌≢◌, ℕ, true, List, [], ◌∷◌, ◌++◌, ◌⊎◌}
use Rattle.spec_exchange.specs.State.{Server}
use Rattle.spec_world.specs.Settings.{WorldSettings, logon_of}
use Rattle.spec_world.specs.World.{World}
use Rattle.spec_hostile.specs.RepeatRuns.{RepeatEvent, repeat_happens, repeat_start}
use Rattle.spec_hostile.specs.SignedFor.{watching}
use Rattle.spec_hostile.specs.HostileNetwork.{HasCollided, SignsAlone, repeated}
use Rattle.law_sessions.specs.sessions.Sessions.{logon_user}
use Rattle.law_ties.specs.wire_facts.Fitting.{IsFitting}
use Rattle.law_hostile.specs.unforged.Unforged.{AllSigned}
use Rattle.law_hostile.specs.loosely.LooseSessions.{NoMoreMade, IsOver}

-- its id was given, no connection makes it any more, and where it is there it is the client's user's
pub record IsBegunFor (z : WorldSettings) (s : Server) (x : ℕ) : Type 0 where
  pub made : NoMoreMade s x
  pub user : s.present x ≡ true → s.user x ≡ logon_user (logon_of z)

abbrev pub NoneOrBegun : WorldSettings → Server → ℕ → Type 0
NoneOrBegun z s x = (x ≡ 0) ⊎ IsBegunFor z s x

-- where nothing is sealed, and no message of the run is forged: of the session that the client accepted last, or it accepted none
abbrev pub AcceptedIsBegun : Type 0
AcceptedIsBegun =
    (z : WorldSettings) (es : List RepeatEvent) → IsFitting z → SignsAlone z → AllSigned z es (watching (repeat_start z))
    → HasCollided (repeated z es).world
    ⊎ NoneOrBegun z (repeated z es).world.values.server (repeated z es).world.values.client.accepted

-- between these worlds the client accepts the session that it waited for; and the one that it had accepted last is over
pub record AcceptsNext (z : WorldSettings) (w v : World) : Type 0 where
  pub now : v.values.client.accepted ≡ w.values.client.pending
  pub begun : IsBegunFor z v.values.server v.values.client.accepted
  pub before : (w.values.client.accepted ≡ 0) ⊎ IsOver v.values.server w.values.client.accepted

-- of one event more, behind which the client has accepted another session
abbrev pub AcceptedEndsBefore : Type 0
AcceptedEndsBefore =
    (z : WorldSettings) (es : List RepeatEvent) (e : RepeatEvent) → IsFitting z → SignsAlone z
    → AllSigned z (es ++ e ∷ []) (watching (repeat_start z))
    → (repeat_happens z (repeated z es) e).world.values.client.accepted ≢ (repeated z es).world.values.client.accepted
    → HasCollided (repeat_happens z (repeated z es) e).world ⊎ AcceptsNext z (repeated z es).world (repeat_happens z (repeated z es) e).world
