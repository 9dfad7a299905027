use Rattle.std.proofs.Common.{◌≡◌, ◌+◌, ◌*◌, ◌≤◌, drop, sum_by}
use Rattle.spec_exchange.specs.Texts.{units_of}
use Rattle.store_files.proofs.names.names.units.Given as goal

abbrev pub invariant-loop-byte : goal.invariant-loop-byte
invariant-loop-byte l = (sum_by units_of l.text ≡ l.units + sum_by units_of (drop l.byte-index l.text)) × l.units ≤ 2 * l.byte-index
