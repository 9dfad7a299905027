use Rattle.std.proofs.Common.{subst, sym}
use Rattle.client_steps.specs.whole_client.Shown.{ShowsClient}
use Rattle.client_steps.specs.declared.whole_client.client.Client.{Client as Core}
use Rattle.world_steps.proofs.happening.taken_by.Goals as goal

pub returns : goal.returns
returns c = λ d s. c.taken.ensures d (subst (λ (x : Core). ShowsClient x d) (sym c.client.ensures) s)
