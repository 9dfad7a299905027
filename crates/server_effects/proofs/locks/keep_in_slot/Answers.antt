use Rattle.server_effects.proofs.Steps.{slot_0, slot_past, slot_tables}
use Rattle.server_effects.proofs.locks.keep_in_slot.Goals as goal

pub returns-then-index-eq0-clause-shows : goal.returns-then-index-eq0-clause-shows
returns-then-index-eq0-clause-shows c = λ s h st. slot_0 c.args.t.now s c.args.id c.args.index c.args.number c.args.status
    c.if-index-eq0.true h

pub returns-then-index-gt64-clause-shows : goal.returns-then-index-gt64-clause-shows
returns-then-index-gt64-clause-shows c = λ s h st. slot_past c.args.t.now s c.args.id c.args.index c.args.number c.args.status
    c.if-index-gt64.true h

pub returns-clause-shows : goal.returns-clause-shows
returns-clause-shows c = λ s h st. slot_tables c.args.t.now c.keep.new.self s c.args.id c.args.index c.args.number c.args.status h
    (c.keep.ensures s h.opens st)
