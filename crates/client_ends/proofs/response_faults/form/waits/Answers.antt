use Rattle.std.proofs.Common.{sym, ◌∙◌}
use Rattle.client_ends.proofs.response_faults.Forms.{dialogs_token, no_token}
use Rattle.client_ends.proofs.response_faults.form.waits.Goals as goal

pub returns-in-Some : goal.returns-in-Some
returns-in-Some c = λ n s. dialogs_token c.in-Some.token (n.awaited c.args.id) (s.awaited c.args.id ∙ sym c.in-Some.ensures)

pub returns-in-None : goal.returns-in-None
returns-in-None c = λ n s. no_token (n.awaited c.args.id) (s.awaited c.args.id ∙ sym c.in-None.ensures)
