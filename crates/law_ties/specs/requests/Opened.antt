-- What keeps ends tied behind an Open.
use Rattle.std.specs.Prelude.{◌≡◌, ℕ, ◌≤◌, length}
use Rattle.spec_wire.specs.messages.Places.{number_of}
use Rattle.spec_exchange.specs.Network.{Open}
use Rattle.spec_world.specs.Settings.{WorldSettings}
use Rattle.spec_world.specs.World.{World, greeting_of}
use Rattle.spec_world.specs.Events.{Plain, bytes_happen}
use Rattle.law_ties.specs.wire_facts.Lawful.{IsLawful}
use Rattle.law_ties.specs.events.Links.{IsTied}

-- where the client is the settings' and its NEGOTIATE fits a frame before a session
abbrev pub OpensAreKept : Type 0
OpensAreKept =
    (z : WorldSettings) (w : World) (k : ℕ) → IsLawful z → IsTied z w → w.values.client.who.guid ≡ number_of z.client.guid →
    length (greeting_of z w k) ≤ 66000 → IsTied z (bytes_happen z w (Plain (Open k)))
