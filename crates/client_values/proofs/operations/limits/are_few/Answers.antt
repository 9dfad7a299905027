use Rattle.std.proofs.Common.{◌≡◌, ℕ, ◌<◌, Bool, true, ◌&&◌, nat_le, length, get_or, arith}
use Rattle.spec_exchange.specs.Operations.{are_below}
use Rattle.client_values.proofs.operations.Fitting.{are_below-each}
use Rattle.client_values.proofs.operations.limits.are_few.Goals as goal

by_each : (below few : Bool) → below ≡ true → few ≡ (below && few)
by_each below few e = grind arith

pub returns : goal.returns
returns c =
    let each : (k : ℕ) → k < length c.args.bytes.now → get_or c.args.bytes.now k 0 < 256 = λ k l.
    (let h = c.type_inv.bytes k in omega arith) in
    by_each (are_below 256 c.args.bytes.now) (nat_le (length c.args.bytes.now) 1048577) (are_below-each 256 c.args.bytes.now each)
