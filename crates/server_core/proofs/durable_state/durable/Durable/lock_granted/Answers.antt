use Rattle.std.proofs.Common.{sym, ◌∙◌}
use Rattle.server_core.proofs.durable_state.Locking.{none_granted, granted_more}
use Rattle.server_core.proofs.durable_state.durable.Durable.lock_granted.Goals as goal

pub returns-then-is_empty : goal.returns-then-is_empty
returns-then-is_empty c = λ s i h st. none_granted c.args.self.now s c.args.id c.owned_ranges.result c.args.elements.now
    (sym c.is_empty.ensures ∙ c.if-is_empty.true)
    (c.owned_ranges.ensures s h st) h

pub returns-in-Ok : goal.returns-in-Ok
returns-in-Ok c = granted_more c.change_ranges-in-Ok.result c.args.self.now c.change_ranges-in-Ok.new.self c.args.id c.args.elements.now
    c.from_vec.result c.in-Ok.wanted.items c.from_vec.ensures c.in-Ok.ensures (sym c.is_empty.ensures ∙ c.if-is_empty.false)
    c.change_ranges-in-Ok.ensures
