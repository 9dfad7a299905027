-- A moment as MS-DTYP 2.3.3 counts it.
use Rattle.std.specs.Prelude.{ℕ, ◌+◌, ◌/◌, min}

-- Units of 100 nanoseconds since 1601, of so many nanoseconds since 1970. It stands still at the last number of 64 bits.
abbrev pub file_time : ℕ → ℕ
file_time nanos = min (nanos / 100 + 116_444_736_000_000_000) 18_446_744_073_709_551_615
