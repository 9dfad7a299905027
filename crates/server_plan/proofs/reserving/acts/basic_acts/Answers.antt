use Rattle.server_plan.proofs.reserving.Differs.{basic_differs}
use Rattle.server_plan.proofs.reserving.acts.basic_acts.Goals as goal

pub returns : goal.returns
returns c = λ s now h x. basic_differs s c.args.file now c.args.basic.now c.basic-old.result c.same_basic.result c.same_basic.ensures
    (c.basic-old.ensures s h x)
