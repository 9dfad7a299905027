use Rattle.world_steps.proofs.opening.beginning.ends_with.Goals as goal

pub returns-in-Ok : goal.returns-in-Ok
returns-in-Ok c = λ drawn live counted. c.with_conn.ensures c.args.fresh c.args.bound drawn live counted c.in-Ok.ensures

pub returns-in-Err : goal.returns-in-Err
returns-in-Err c = λ drawn live counted. c.in-Err.ensures
