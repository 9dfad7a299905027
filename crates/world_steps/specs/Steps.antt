-- What a step of a world in code is in the exchange over bytes.
use Rattle.std.specs.Prelude.{◌≡◌, ℕ, Option, Some, None, Result, Ok, Err, MatchResult, Bool, ⊤}
use Rattle.spec_exchange.specs.Network as network
use Rattle.client_values.specs.outcomes.Meaning.{refusal_of}
use Rattle.wire_bytes.specs.declared.session_messages.refusal.Refusal.{Refusal}
use Rattle.client_values.specs.operations.Meaning.{op_of}
use Rattle.spec_world.specs.Courses.{push_lowest}
use Rattle.spec_world.specs.Events.{ByteEvent, Plain, Tamper, bytes_happen, flip, forge}
use Rattle.spec_world.specs.Notes as notes
use Rattle.spec_world.specs.Settings.{WorldSettings}
use Rattle.spec_world.specs.World as bytes
use Rattle.world_ends.specs.Shown.{ShowsWorld}
use Rattle.world_ends.specs.declared.events.WorldError.{WorldError}
use Rattle.world_ends.specs.declared.events.WorldError.TheVariants as errors
use Rattle.world_ends.specs.declared.events.WorldEvent.{WorldEvent}
use Rattle.world_ends.specs.declared.events.WorldEvent.TheVariants as events
use Rattle.world_ends.specs.declared.world.World.{World}
use Rattle.world_steps.specs.Changes.{change_of}
use Rattle.world_steps.specs.Parts.{IsWorldMemory}
use Rattle.world_steps.specs.declared.tampering.Change.{Change}

-- a push is the program's own
abbrev pub meant : bytes.World → WorldEvent → ByteEvent
meant w (events.Submit number kind) = Plain (network.Submit number (op_of kind))
meant w (events.Open k) = Plain (network.Open k)
meant w (events.Push k) = Plain (push_lowest w k)
meant w (events.Serve k) = Plain (network.Serve k)
meant w (events.Take k) = Plain (network.Take k)
meant w (events.Cut k) = Plain (network.Cut k)
meant w (events.Drop k) = Plain (network.Drop k)
meant w events.Restart = Plain network.Restart
meant w (events.Crash k kept) = Plain (network.Crash k kept)
meant w (events.Wait n) = Plain (network.Wait n)
meant w (events.Forge k up bytes) = forge k up bytes
meant w (events.Flip k up at mask) = flip k up at mask

-- it refuses for the reason that is due, and the world is as before; or memory ran out
abbrev pub WorldRefuses : WorldSettings → World → bytes.World → Option notes.WorldError → WorldError → Type 0
WorldRefuses z new w due errors.Memory = ⊤
WorldRefuses z new w due (errors.NoChannel k) = (due ≡ Some (notes.NoChannel k)) × ShowsWorld z new w
WorldRefuses z new w due (errors.NothingThere k) = (due ≡ Some (notes.NothingThere k)) × ShowsWorld z new w
WorldRefuses z new w due (errors.InUse k) = (due ≡ Some (notes.InUse k)) × ShowsWorld z new w

-- it is the event that the definitions have, which the world meets, or it refuses as they do
abbrev pub StepsAs : WorldSettings → bytes.World → ByteEvent → World → Result Unit WorldError → Type 0
StepsAs z w e new (Ok u) = (notes.step_error w e ≡ None) × ShowsWorld z new (bytes_happen z w e)
StepsAs z w e new (Err why) = WorldRefuses z new w (notes.step_error w e) why

abbrev pub WorldSteps : World → WorldEvent → World → Result Unit WorldError → Type 0
WorldSteps old e new result = (z : WorldSettings) (w : bytes.World) → ShowsWorld z old w → StepsAs z w (meant w e) new result

-- the front of what goes up, or comes down, becomes another one
abbrev pub Tampers : World → ℕ → Bool → Change → World → Result Unit WorldError → Type 0
Tampers old k up change new result = (z : WorldSettings) (w : bytes.World) → ShowsWorld z old w
    → StepsAs z w (Tamper k up (change_of change)) new result

-- the client gives up, where no session is live; else nothing happens
abbrev pub WorldFinishes : World → Refusal → World → Result Unit WorldError → Type 0
WorldFinishes old refusal new result = (z : WorldSettings) (w : bytes.World) → ShowsWorld z old w
    → MatchResult result (λ u. ShowsWorld z new (bytes_happen z w (Plain (network.Finish (refusal_of refusal))))) (λ e. IsWorldMemory e)
