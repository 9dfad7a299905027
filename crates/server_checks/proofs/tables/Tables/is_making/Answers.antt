use Rattle.std.proofs.Common.{ap, ◌∙◌}
use Rattle.server_checks.proofs.Sessions.{not_made}
use Rattle.server_checks.specs.Looks.{is_made_for}
use Rattle.server_checks.proofs.tables.Tables.is_making.Goals as goal

pub returns-in-Some : goal.returns-in-Some
returns-in-Some c = λ s t. c.is_purpose.ensures ∙ ap (is_made_for c.args.purpose) (c.in-Some.ensures.shows s t.sessions)

pub returns-in-None : goal.returns-in-None
returns-in-None c = λ s t. not_made c.args.purpose ∙ ap (is_made_for c.args.purpose) (c.in-None.ensures.shows s t.sessions)
