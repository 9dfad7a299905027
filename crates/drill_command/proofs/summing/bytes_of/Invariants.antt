use Rattle.std.proofs.Common.{◌≡◌, ◌+◌, ◌-◌, length, drop}
use Rattle.drill_command.specs.Summing.{stored_bytes}
use Rattle.drill_command.proofs.summing.bytes_of.Given as goal

abbrev pub invariant-loop-place : goal.invariant-loop-place
invariant-loop-place l = l.bytes + stored_bytes (drop l.place l.files) ≡ stored_bytes l.files

abbrev pub decreases-loop-place : goal.decreases-loop-place
decreases-loop-place l = length l.files - l.place
