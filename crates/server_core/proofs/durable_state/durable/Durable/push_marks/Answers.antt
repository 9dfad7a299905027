use Rattle.server_core.proofs.durable_state.Marks.{marks_told}
use Rattle.server_core.proofs.durable_state.durable.Durable.push_marks.Goals as goal

pub returns : goal.returns
returns c = λ s i h. marks_told c.push_each.result c.args.self.now s _ _ i h c.push_each.ensures.ordered
    (c.push_each.ensures.told s h.files h.opens)
