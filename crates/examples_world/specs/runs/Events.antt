-- Frames whose events went otherwise than by the step alone.
use Rattle.std.specs.Prelude.{ℕ, List, [], ◌++◌, replicate, Option, Some}
use Rattle.spec_wire.specs.messages.Bare.{bare_spelling}
use Rattle.spec_exchange.specs.Fold.{nothing_yet}
use Rattle.spec_exchange.specs.Client.{Stage}
use Rattle.spec_exchange.specs.Operations.{Refusal}
use Rattle.spec_world.specs.Messages.{HeardMessage, message_spelling}
use Rattle.spec_world.specs.Ends.{ClientEnd, no_client_end, no_logons}
use Rattle.spec_world.specs.Given.{Given, GivenStep, given_step}
use Rattle.spec_world.specs.Mishaps.{Mishap, Lacks, Halts, owned_step}
use Rattle.spec_world.specs.Dialog.{last_fault}
use Rattle.examples_world.specs.runs.Ends.{greeted_end, nobody, header_of}

-- two TREE_DISCONNECTs, which nobody signed; each has an event
abbrev pub disconnect : ℕ → ℕ → List ℕ
disconnect id next = message_spelling (header_of 4 id 0 next) bare_spelling

abbrev pub two_disconnects : List ℕ
two_disconnects = disconnect 1 72 ++ (replicate 4 0 ++ disconnect 2 0)

abbrev pub with_mishaps : List (Option Mishap) → GivenStep
with_mishaps mishaps = owned_step nobody 0 5 [] nothing_yet no_logons greeted_end mishaps two_disconnects

-- an event that found no memory and left the server as it was
abbrev pub lacks : Option Mishap
lacks = Some (Lacks nothing_yet)

abbrev pub halts : Option Mishap
halts = Some (Halts 3)

-- a SESSION_SETUP whose body is too short, where so many had an event before
abbrev pub setup_behind : ℕ → List Given → GivenStep
setup_behind before given =
    given_step nobody 0 5 [] before nothing_yet no_logons greeted_end given (message_spelling (header_of 1 1 0 0) bare_spelling)

-- ---- a response that grants so many credits, at a client that holds none

abbrev pub penniless : ClientEnd
penniless = record no_client_end { purse = record { held = 0; next = 2 } }

abbrev pub granting : ℕ → HeardMessage
granting credits = record { header = record (header_of 1 1 1 0) { credits = credits }; bytes = [] }

abbrev pub fault_at : Stage → ℕ → Option Refusal
fault_at stage credits = last_fault penniless stage (granting credits)
