use Rattle.std.proofs.Common.{Bool, if◌then◌else◌, sym, ap, ◌∙◌}
use Rattle.server_plan.proofs.owed_records.Told.{slot_small}
use Rattle.server_plan.proofs.owed_records.lock.recorded_index.Goals as goal

pub narrow-requires : goal.narrow-requires
narrow-requires c = slot_small c.args.index (sym c.is_slot.ensures ∙ c.if-not-is_slot.false)

pub returns-then-not-is_slot : goal.returns-then-not-is_slot
returns-then-not-is_slot c = ap (λ (b : Bool). if b then c.args.index else 0) (sym c.if-not-is_slot.true ∙ c.is_slot.ensures)

pub returns : goal.returns
returns c = c.narrow.ensures ∙ ap (λ (b : Bool). if b then c.args.index else 0) (sym c.if-not-is_slot.false ∙ c.is_slot.ensures)
