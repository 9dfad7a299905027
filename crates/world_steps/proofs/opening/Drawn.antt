-- A draw is 32 bytes, all of which are taken.
use Rattle.std.proofs.Common.{◌≡◌, ℕ, ◌++◌, List, take, arith}
use Rattle.std.proofs.lemmas.List.{take_all}
use Rattle.sha2.proofs.Facts256.{length-sha256}
use Rattle.spec_wire.specs.messages.Places.{le}
use Rattle.spec_world.specs.Settings.{draw}

pub whole : (seed : List ℕ) (n : ℕ) → take 32 (draw seed n) ≡ draw seed n
unfolding draw
whole seed n = take_all 32 (draw seed n) (let e = length-sha256 (seed ++ le 8 n) in omega (arith, e))
