-- What a line of a script comes to over a world in code.
use Rattle.std.specs.Prelude.{◌≡◌, ℕ, None, Result, Ok, Err, MatchResult}
use Rattle.law_scripts.specs.script_setup.Scripts.{event_line}
use Rattle.spec_exchange.specs.Network as network
use Rattle.client_values.specs.operations.Meaning.{op_of}
use Rattle.script_words.specs.declared.text_lines.line.Refusal.{Refusal}
use Rattle.script_words.specs.Outcome.{Fails}
use Rattle.script_words.specs.declared.values.Code.TheVariants as codes
use Rattle.script_words.specs.declared.values.Fault.{Fault}
use Rattle.script_words.specs.declared.values.Fault.TheVariants.{Memory, Refused}
use Rattle.script_words.specs.declared.values.Statement.{Statement}
use Rattle.script_words.specs.declared.values.Statement.TheVariants as statements
use Rattle.spec_world.specs.Courses.{Course, Line, Does, Forges, Flips, Pushes, go, line_error}
use Rattle.spec_world.specs.Settings.{WorldSettings}
use Rattle.world_ends.specs.Shown.{ShowsWorld}
use Rattle.world_ends.specs.declared.events.WorldError.{WorldError}
use Rattle.world_ends.specs.declared.events.WorldError.TheVariants as errors
use Rattle.world_ends.specs.declared.events.WorldEvent.{WorldEvent}
use Rattle.world_ends.specs.declared.events.WorldEvent.TheVariants as events
use Rattle.world_ends.specs.declared.world.World.{World}
use Rattle.world_steps.specs.Steps.{WorldRefuses}

-- it is what the definitions make of the line, which the world meets; or it refuses as they do, and the world is as before
abbrev pub DrivesAs : WorldSettings → Course → Line → World → Result Unit WorldError → Type 0
DrivesAs z c l new (Ok u) = (line_error c.world l ≡ None) × ShowsWorld z new (go z 256 c l).world
DrivesAs z c l new (Err why) = WorldRefuses z new c.world (line_error c.world l) why

abbrev pub Drives : World → Line → World → Result Unit WorldError → Type 0
Drives old l new result = (z : WorldSettings) (c : Course) → ShowsWorld z old c.world → DrivesAs z c l new result

-- the line of an event of a world; a push is the program's own
abbrev pub line_of : WorldEvent → Line
line_of (events.Submit number kind) = Does (network.Submit number (op_of kind))
line_of (events.Open k) = Does (network.Open k)
line_of (events.Push k) = Pushes k
line_of (events.Serve k) = Does (network.Serve k)
line_of (events.Take k) = Does (network.Take k)
line_of (events.Cut k) = Does (network.Cut k)
line_of (events.Drop k) = Does (network.Drop k)
line_of events.Restart = Does network.Restart
line_of (events.Crash k kept) = Does (network.Crash k kept)
line_of (events.Wait n) = Does (network.Wait n)
line_of (events.Forge k up bytes) = Forges k up bytes
line_of (events.Flip k up at mask) = Flips k up at mask

-- an operation goes under this number; a setting does nothing
abbrev pub ScriptSays : World → ℕ → Statement → World → Result Unit WorldError → Type 0
ScriptSays old number (statements.Setting s) new result = (result ≡ Ok tt) × (new ≡ old)
ScriptSays old number (statements.Operation kind) new result = Drives old (Does (network.Submit number (op_of kind))) new result
ScriptSays old number (statements.Event e) new result = Drives old (event_line e) new result

-- a refusal gets its line
abbrev pub fault_at : ℕ → WorldError → Fault Refusal
fault_at line errors.Memory = Memory
fault_at line (errors.NoChannel k) = Refused (record { line = line; code = codes.NoChannel k })
fault_at line (errors.NothingThere k) = Refused (record { line = line; code = codes.NothingThere k })
fault_at line (errors.InUse k) = Refused (record { line = line; code = codes.InUse k })

-- the world shows the course that is due, or the refusal is that which is due
abbrev pub ScriptComes : {A : Type 0} → WorldSettings → Result Course Refusal → World → Result A (Fault Refusal) → Type 0
ScriptComes z due new result = MatchResult result (λ _. (d : Course) × (due ≡ Ok d) × ShowsWorld z new d.world) (λ fault. Fails fault due)
