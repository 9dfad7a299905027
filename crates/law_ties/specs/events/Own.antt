-- The events that read no frame do to the values what they do in the model of values.
use Rattle.std.specs.Prelude.{◌≡◌, Bool, true, false}
use Rattle.spec_exchange.specs.Network.{Event, Serve, Take, Crash, happens}
use Rattle.spec_world.specs.Settings.{WorldSettings}
use Rattle.spec_world.specs.World.{World}
use Rattle.spec_world.specs.Events.{Plain, bytes_happen}
use Rattle.spec_world.specs.Statements.{value_event}

-- it takes the front of a list, and so what its bytes say
abbrev pub reads_frame : Event → Bool
reads_frame (Serve k) = true
reads_frame (Take k) = true
reads_frame (Crash k kept) = kept
reads_frame _ = false

-- a push that can't be paid for pushes nothing in either
abbrev pub OwnEvents : Type 0
OwnEvents =
    (z : WorldSettings) (w : World) (e : Event) → reads_frame e ≡ false →
    (bytes_happen z w (Plain e)).values ≡ happens w.values (value_event w e)
