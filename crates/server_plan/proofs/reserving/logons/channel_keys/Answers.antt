use Rattle.server_plan.proofs.reserving.Steps.{bound_as}
use Rattle.server_plan.proofs.reserving.logons.channel_keys.Goals as goal

pub returns-in-Some : goal.returns-in-Some
returns-in-Some c = λ keys pending l. bound_as c.in-Some.row.now (keys c.args.session) c.args.logon.now.key
    c.args.part.now.chain c.bind.result
    (c.in-Some.ensures.keys keys pending l) c.bind.ensures
