use Rattle.std.proofs.Common.{nat_le, sym, ◌∙◌}
use Rattle.server_core.proofs.durable_state.Choice.{and_on, first_off, le_on, le_off}
use Rattle.server_core.proofs.durable_state.locks.is_slot.Goals as goal

pub returns-then-index-ge1 : goal.returns-then-index-ge1
returns-then-index-ge1 c = and_on (nat_le 1 c.args.index) (nat_le c.args.index 64) (le_on 1 c.args.index c.if-index-ge1.true)

pub returns-else-index-ge1 : goal.returns-else-index-ge1
returns-else-index-ge1 c =
    let off = le_off 1 c.args.index c.if-index-ge1.false in
    off ∙ sym (first_off (nat_le 1 c.args.index) (nat_le c.args.index 64) off)
