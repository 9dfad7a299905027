-- Where the command ends with 0, as many links were served as its words say.
use Rattle.std.proofs.Common.{◌≡◌, ℕ, ◌+◌, ◌<◌, ◌^◌, List, Bool, true, false, length, refl, sym, ap, ◌∙◌, subst, add-zero}
use Rattle.std.specs.Prelude.{Option, None, Some, is_some}
use Rattle.serve_turns.specs.link_threads.Accepted.{AreAccepted, let_go}
use Rattle.serve_turns.specs.link_threads.Covering.{HaveEnds}
use Rattle.serve_turns.specs.declared.link_threads.links.Halt.{Halt}
use Rattle.serve_turns.specs.declared.link_threads.links.Halt.TheVariants as halts
use Rattle.serve_command.specs.declared.server_settings.words.Bound.{Bound}
use Rattle.serve_turns.specs.declared.link_serving.ended.Ended.{Ended}
use Rattle.serve_command.specs.Serving.{AllEnded, Behind, serving_accepted, serving_listed}
use Rattle.serve_command.specs.declared.ending.Ending.{Ending}
use Rattle.serve_command.specs.declared.ending.Ending.TheVariants.{DiskFailed, Done, Memory, NetFailed}

disk_apart : (ending : Ending) → ending ≡ DiskFailed → ending ≡ Done → ⊥
disk_apart ending is done = absurd (let h : DiskFailed ≡ Done = sym is ∙ done in cc)

net_apart : (ending : Ending) → ending ≡ NetFailed → ending ≡ Done → ⊥
net_apart ending is done = absurd (let h : NetFailed ≡ Done = sym is ∙ done in cc)

memory_apart : (ending : Ending) → ending ≡ Memory → ending ≡ Done → ⊥
memory_apart ending is done = absurd (let h : Memory ≡ Done = sym is ∙ done in cc)

module _ (written written' : Option (List ℕ)) (sink sink' : ℕ) (bound : Option Bound) (ends : List (Option Ended)) (ending : Ending) where
  by_count : (halt : Halt) (stopped risen : Bool) → Behind written written' sink sink' bound halt ends stopped risen ending
      → ending ≡ Done → halt ≡ halts.Count
  by_count halt true true tells done = absurd (disk_apart ending tells.0 done)
  by_count halt true false tells done = absurd (memory_apart ending tells.0 done)
  by_count halts.Count false risen tells done = refl
  by_count halts.NetFault false risen tells done = absurd (net_apart ending tells.0 done)
  by_count halts.Ended false risen tells done = absurd (memory_apart ending tells.0 done)
  by_count halts.Memory false risen tells done = absurd (memory_apart ending tells.0 done)

  -- where it ended with 0 the server goes on
  pub none_stopped : (halt : Halt) (o : Option ℕ) (risen : Bool) → Behind written written' sink sink' bound halt ends (is_some o) risen
      ending
      → ending ≡ Done → o ≡ None
  none_stopped halt None risen tells done = refl
  none_stopped halt (Some n) true tells done = absurd (disk_apart ending tells.0 done)
  none_stopped halt (Some n) false tells done = absurd (memory_apart ending tells.0 done)

all_ended : (bound : Option Bound) (ends : List (Option Ended)) (links links' : ℕ) → length ends ≡ serving_listed bound
    → HaveEnds (serving_accepted bound) ends → (links + serving_accepted bound < 2 ^ 64 → links'
    ≡ links + serving_accepted bound) → AllEnded bound ends links links'
all_ended None ends links links' long have more = more
all_ended (Some bound) ends links links' long have more = (long, have, more)

-- none was let go
all_counted : (most served : ℕ) (halt : Halt) (links links' : ℕ) → AreAccepted most served halt links links' → halt ≡ halts.Count
    → links + most < 2 ^ 64 → links' ≡ links + most
all_counted most served halt links links' a is few =
    let none : let_go halt ≡ 0 = ap let_go is in
    let count : served + let_go halt ≡ most = (λ i. served + none i) ∙ (ap (λ (n : ℕ). n + 0) (a.all is) ∙ add-zero most) in
    a.counted (subst (λ (n : ℕ). links + n < 2 ^ 64) (sym count) few) ∙ ap (λ (n : ℕ). links + n) count

pub counted : (written written' : Option (List ℕ)) (sink sink' : ℕ) (bound : Option Bound) (ends : List (Option Ended)) (ending : Ending)
    (halt : Halt) (stopped risen : Bool) (room served links links' : ℕ)
    → Behind written written' sink sink' bound halt ends stopped risen ending → room ≡ serving_listed bound → length ends ≡ room
    → (halt ≡ halts.Count → HaveEnds (serving_accepted bound) ends) → AreAccepted (serving_accepted bound) served halt links links'
    → ending ≡ Done → AllEnded bound ends links links'
counted written written' sink sink' bound ends ending halt stopped risen room served links links' tells is_room long have accepted done =
    let all : halt ≡ halts.Count = by_count written written' sink sink' bound ends ending halt stopped risen tells done in
    all_ended bound ends links links' (long ∙ is_room) (have all) (all_counted (serving_accepted bound) served halt links links'
    accepted all)
