-- Counts against their limits.
use Rattle.std.proofs.Common.{◌≡◌, ℕ, nat_le, arith}
use Rattle.std.proofs.lemmas.Bool.Decides.{nat_tests}
use Rattle.spec_exchange.specs.CheckCreate.{max_guids}
use Rattle.store_opens.specs.open_index.Keep.{keep_capped}

-- a count that stands still at its end is full where the count is
pub full_capped : (n : ℕ) → nat_le max_guids (keep_capped n) ≡ nat_le max_guids n
full_capped n = grind (arith, nat_tests)
