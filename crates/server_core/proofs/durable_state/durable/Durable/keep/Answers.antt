use Rattle.std.proofs.Common.{sym, ◌∙◌}
use Rattle.server_core.proofs.durable_state.Locking.{slot_from, slot_to, slot_kept, no_slot}
use Rattle.server_core.proofs.durable_state.durable.Durable.keep.Goals as goal

pub keep-requires : goal.keep-requires
keep-requires c = let e = sym c.is_slot.ensures ∙ c.if-is_slot.true in (slot_from c.args.index e, slot_to c.args.index e)

pub returns-then-is_slot : goal.returns-then-is_slot
returns-then-is_slot c = λ s h st. slot_kept c.args.self.now c.keep.new.self s c.args.id c.args.index c.args.number
    c.args.status h (c.keep.ensures s h.opens st)

pub returns-else-is_slot : goal.returns-else-is_slot
returns-else-is_slot c = λ s h st. no_slot c.args.self.now s c.args.id c.args.index c.args.number c.args.status
    (sym c.is_slot.ensures ∙ c.if-is_slot.false) h
