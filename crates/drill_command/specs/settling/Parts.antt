-- What the parts of a drain and of settling come to.
use Rattle.std.specs.Prelude.{◌≡◌, ℕ, Bool, true, false, not, length, Option, Some, None, Result, Ok, Err, MatchResult}
use Rattle.spec_exchange.specs.ClientStep.{some_unsettled}
use Rattle.spec_world.specs.Courses.{Course, drain, each, finished_after, linked, ready_round, tidy}
use Rattle.spec_world.specs.Settings.{WorldSettings}
use Rattle.world_ends.specs.Shown.{ShowsWorld}
use Rattle.world_ends.specs.declared.sides.Channel.{Channel}
use Rattle.world_ends.specs.declared.events.WorldError.{WorldError}
use Rattle.world_ends.specs.declared.world.World.{World}
use Rattle.world_steps.specs.Parts.{IsWorldMemory}

-- how many frames go up, or come down; of no connection none
abbrev pub count_at : Bool → Channel → ℕ
count_at true x = length x.up.items
count_at false x = length x.down.items

abbrev pub count_in : Bool → Option Channel → ℕ
count_in up None = 0
count_in up (Some x) = count_at up x

abbrev pub IsCount : Bool → Option Channel → ℕ → Type 0
IsCount up o n = n ≡ count_in up o

-- so many dialogs were refused in front of it
abbrev pub FinishesAfter : Bool → ℕ → World → World → Result Unit WorldError → Type 0
FinishesAfter is_new refusals old new result = (z : WorldSettings) (c d : Course) → length c.world.values.client.refusals ≡ refusals
    → ShowsWorld z old d.world → MatchResult result (λ u. ShowsWorld z new (finished_after z is_new c d).world) (λ why. IsWorldMemory why)

abbrev pub DrainsAfter : ℕ → Bool → ℕ → World → World → Result Unit WorldError → Type 0
DrainsAfter k is_new refusals old new result = (z : WorldSettings) (c : Course) → length c.world.values.client.refusals ≡ refusals
    → ShowsWorld z old c.world
    → MatchResult result (λ u. ShowsWorld z new (finished_after z is_new c (drain z 64 c k)).world) (λ why. IsWorldMemory why)

-- ---- a round, where an operation is unsettled

abbrev pub is_left : Course → Bool
is_left c = some_unsettled c.world.values.client c.world.values.client.taken

abbrev pub round_of : WorldSettings → Course → Course
round_of z c = each (tidy z) 0 256 (ready_round z 256 (linked z 256 c))

-- whether there was one
abbrev pub RoundsAs : WorldSettings → Course → World → Result Bool WorldError → Type 0
RoundsAs z c new (Ok true) = (is_left c ≡ true) × ShowsWorld z new (round_of z c).world
RoundsAs z c new (Ok false) = (is_left c ≡ false) × ShowsWorld z new c.world
RoundsAs z c new (Err why) = IsWorldMemory why

abbrev pub RoundsIf : World → World → Result Bool WorldError → Type 0
RoundsIf old new result = (z : WorldSettings) (c : Course) → ShowsWorld z old c.world → RoundsAs z c new result

-- it shows the same worlds, and whether an operation is unsettled there
abbrev pub LooksAt : World → World → Bool → Type 0
LooksAt old new is_over = (z : WorldSettings) (c : Course) → ShowsWorld z old c.world
    → ShowsWorld z new c.world × (is_over ≡ not (is_left c))
