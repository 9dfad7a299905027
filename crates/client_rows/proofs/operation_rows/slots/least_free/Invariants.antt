use Rattle.std.proofs.Common.{◌≡◌, ℕ, ◌+◌, ◌<◌, false}
use Rattle.client_rows.specs.operation_rows.Slots.{is_slot_free}
use Rattle.client_rows.proofs.operation_rows.slots.least_free.Given as goal

abbrev pub invariant-loop-place : goal.invariant-loop-place
invariant-loop-place l = (k : ℕ) → k < l.place → is_slot_free l.rows l.slots l.session (k + 1) ≡ false
