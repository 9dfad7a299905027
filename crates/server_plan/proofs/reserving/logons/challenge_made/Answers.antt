use Rattle.std.proofs.Common.{IfOk, subst, sym}
use Rattle.server_checks.specs.session_table.Logons.{begun_in}
use Rattle.server_checks.specs.declared.session_table.tokens.TokenShown.{TokenShown}
use Rattle.server_plan.specs.reserving.Logons.{ChallengeOf}
use Rattle.server_plan.proofs.reserving.logons.challenge_made.Goals as goal

pub returns-in-Begins : goal.returns-in-Begins
returns-in-Begins c = subst (λ (v : TokenShown). IfOk c.challenge_to.result (λ a. ChallengeOf (begun_in v) c.args.part.now.fresh c.args.now
    a.list a.acceptor a.token)) (sym c.in-Begins.is) c.challenge_to.ensures
