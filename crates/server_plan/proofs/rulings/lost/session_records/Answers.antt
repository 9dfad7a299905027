use Rattle.server_plan.proofs.rulings.Quiet.{own, plain_stand}
use Rattle.server_plan.proofs.rulings.lost.session_records.Goals as goal

pub returns-in-Ok : goal.returns-in-Ok
returns-in-Ok c = λ s f h. own s c.args.origin c.args.session _ _ c.new-records.ensures
    (c.in-Ok.ensures s s f h.opens h.files (c.new-leaving.ensures s f) (plain_stand s c.args.session f)).1
