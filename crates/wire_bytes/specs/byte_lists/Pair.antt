-- Two surrogates that stand at a place, and the code of their character (RFC 2781).
use Rattle.std.specs.Prelude.{◌≡◌, ℕ, ◌+◌, ◌-◌, ◌*◌, ◌≤◌, List, ◌++◌, length, take}
use Rattle.spec_wire.specs.messages.Places.{le, number}
use Rattle.spec_wire.specs.messages.Utf16.{IsHigh, IsLow}

pub record IsBytePair (bytes : List ℕ) (at code : ℕ) : Type 0 where
  pub high : IsHigh (number 2 bytes at)
  pub low : IsLow (number 2 bytes (at + 2))
  pub is_code : code ≡ 0x10000 + (number 2 bytes at - 0xd800) * 0x400 + (number 2 bytes (at + 2) - 0xdc00)
  pub place : at + 4 ≤ length bytes
  pub spelled : take (at + 4) bytes ≡ (take at bytes ++ le 2 (number 2 bytes at)) ++ le 2 (number 2 bytes (at + 2))
