use Rattle.std.proofs.Common.{◌≡◌, ◌-◌, ◌*◌, ◌/◌, length}
use Rattle.spec_wire.specs.messages.Offer.{has_id, ids_at}
use Rattle.conn_core.proofs.negotiating.greeting.has_dialect.Given as goal

abbrev pub invariant-loop-k : goal.invariant-loop-k
invariant-loop-k l =
    has_id 0x311 (ids_at l.dialects (2 * l.k) (length l.dialects / 2 - l.k)) ≡ has_id 0x311 (ids_at l.dialects 0 (length l.dialects / 2))
