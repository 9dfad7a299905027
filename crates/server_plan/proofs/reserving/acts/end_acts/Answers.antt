use Rattle.server_plan.proofs.reserving.Differs.{end_differs}
use Rattle.server_plan.proofs.reserving.acts.end_acts.Goals as goal

pub returns : goal.returns
returns c = λ s h x. end_differs s c.args.file c.args.now c.args.size c.has_length-held.result c.is_touched-touched.result c.differs.result
    c.differs.ensures (c.has_length-held.ensures s h x) (c.is_touched-touched.ensures s h x)
