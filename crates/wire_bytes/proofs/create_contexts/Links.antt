-- The first break of a chain whose first context leads on as it may.
use Rattle.std.proofs.Common.{◌≡◌, ℕ, ◌≤◌, false, List, length, Option, arith}
use Rattle.std.proofs.lemmas.Grind.{common_steps}
use Rattle.spec_wire.specs.messages.Chain.{is_badly_linked, piece}
use Rattle.spec_wire.specs.messages.CreateContexts.{first_fault, context_fault}

pub behind_link : (due : List ℕ → Option ℕ) (m : List ℕ) → 16 ≤ length m → is_badly_linked m ≡ false → first_fault due m
    ≡ context_fault due (piece m)
unfolding first_fault
behind_link due m long link = grind (arith, common_steps)

pub ruleset first_faults = (behind_link)
