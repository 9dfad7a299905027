use Rattle.server_core.proofs.behind_expiry.behind.plan_behind.Goals as goal

pub returns-in-Ok : goal.returns-in-Ok
returns-in-Ok c = λ s records f h b. c.with_body.ensures s records f h (c.in-Ok.ensures.ruled s f h) b
