use Rattle.std.proofs.Common.{◌≡◌, ℕ, ◌+◌, ◌-◌, take, drop, ap, ◌∙◌, arith}
use Rattle.spec_wire.specs.messages.Places.{number, number_of, bytes_at}
use Rattle.wire_bytes.proofs.byte_lists.place.u16_at.Goals as goal
use Rattle.wire_bytes.proofs.byte_lists.Units.{one_unit}

pub returns-clause-spelled : goal.returns-clause-spelled
unfolding bytes_at
returns-clause-spelled c =
    let width : c.args.at + 2 - c.args.at ≡ 2 = omega arith in
    let value : c.u16_of.result ≡ number 2 c.args.bytes.now c.args.at = c.u16_of.ensures
    ∙ ap (λ (w : ℕ). number_of (take w (drop c.args.at c.args.bytes.now))) width in
    let low = c.type_inv.bytes c.args.at in
    let high = c.type_inv.bytes (c.args.at + 1) in
    rw value (one_unit c.args.bytes.now c.args.at c.requires (omega arith) (omega arith))
