use Rattle.server_checks.specs.session_table.Logons.{logon_of}
use Rattle.server_plan.proofs.reserving.Kept.{if_ok_by}
use Rattle.server_plan.proofs.reserving.Steps.{ended}
use Rattle.server_plan.proofs.reserving.logons.final_token.Goals as goal

pub returns-in-Some : goal.returns-in-Some
returns-in-Some c = if_ok_by c.final_for.result c.final_for.ensures (λ b e keys pending l.
    ended c.in-Some.making.now (pending c.args.m.now.connection) (logon_of c.args.logon.now) c.args.signs c.as_slice.result.now b
    (c.in-Some.ensures.pending keys pending l) c.as_slice.ensures e)
