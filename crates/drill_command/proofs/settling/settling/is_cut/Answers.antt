use Rattle.std.proofs.Common.{ℕ, ◌==◌, ap, subst, sym}
use Rattle.client_steps.specs.whole_client.Shown.{ShowsClient}
use Rattle.client_steps.specs.declared.whole_client.client.Client.{Client as Core}
use Rattle.drill_command.proofs.settling.settling.is_cut.Goals as goal

pub returns : goal.returns
returns c = λ d s.
    let t = subst (λ (x : Core). ShowsClient x d) (sym c.client.ensures) s in ap (λ (n : ℕ). n == 0) (c.channels.ensures d t.table.session)
