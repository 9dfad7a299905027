-- How many bytes a character takes in UTF-16.
use Rattle.std.proofs.Common.{◌≡◌, ℕ, ◌<◌, ◌≤◌, length, arith, length-append}
use Rattle.spec_wire.specs.messages.Utf16.{units_of}
use Rattle.spec_wire.proofs.messages.Numbers.{length-le}

pub short_units : (c : ℕ) → c < 65536 → length (units_of c) ≡ 2
short_units c small = grind (arith, length-le)

pub long_units : (c : ℕ) → 65536 ≤ c → length (units_of c) ≡ 4
long_units c big = grind (arith, length-le, length-append)
