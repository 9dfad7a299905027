use Rattle.std.proofs.Common.{sym, ◌∙◌}
use Rattle.spec_exchange.specs.CheckCreate.{names_of_found}
use Rattle.law_server.proofs.tables.Checked.{found_exists}
use Rattle.server_checks.proofs.tables.Tables.names_there.Goals as goal

pub returns-in-Some : goal.returns-in-Some
unfolding names_of_found
returns-in-Some c = λ s t e.
    rw c.in-Some.is (c.found_refusal.ensures s t
    (found_exists s c.args.request.now.path c.in-Some.file (sym e ∙ c.in-Some.is)))

pub returns-in-None : goal.returns-in-None
unfolding names_of_found
returns-in-None c = λ s t e. rw c.in-None.is c.missing_refusal.ensures
