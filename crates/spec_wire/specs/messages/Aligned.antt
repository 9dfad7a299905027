-- Where a variable part is written, and what is told of one that is empty (MS-SMB2 2.2).
use Rattle.std.specs.Prelude.{ℕ, ◌==◌, if◌then◌else◌}
use Rattle.spec_wire.specs.messages.Places.{gap_to_8}

-- the place that is told of a part of this length: 0 where it is empty
abbrev pub told : ℕ → ℕ → ℕ
told len at = if len == 0 then 0 else at

-- how many bytes lie between what ends at a place and a part of this length that begins at a multiple of 8; none
-- where the part is empty
abbrev pub aligned_gap : ℕ → ℕ → ℕ
aligned_gap len at = if len == 0 then 0 else gap_to_8 at
