-- The session that a logon begins is none of which anything waits.
use Rattle.std.specs.Prelude.{◌≡◌, ℕ, List, ◌∷◌}
use Rattle.spec_exchange.specs.Network.{Event, Sent, answer, run, start}
use Rattle.spec_world.specs.Settings.{WorldSettings, values_of}
use Rattle.spec_world.specs.Logon.{progress}
use Rattle.spec_world.specs.World.{World}
use Rattle.law_ties.specs.events.Links.{IsTied}
use Rattle.law_dialogs.specs.dialog_requests.Serving.{IsApart}

abbrev pub SessionsAreApart : Type 0
SessionsAreApart =
    (z : WorldSettings) (w : World) (events : List Event) → w.values ≡ run events (start (values_of z)) → IsTied z w → (k : ℕ) (x : Sent)
    (xs : List Sent) → (w.values.conns k).up ≡ x ∷ xs →
    IsApart w x.message.session_id (progress x.message.command (answer w.values x).reply)
