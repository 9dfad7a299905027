use Rattle.std.proofs.Common.{subst, sym}
use Rattle.client_steps.specs.whole_client.Shown.{ShowsClient}
use Rattle.client_steps.specs.declared.whole_client.client.Client.{Client as Core}
use Rattle.world_steps.proofs.serving.noting.is_create.Goals as goal

pub returns : goal.returns
returns c = λ d shows above within.
    c.is_create_in.ensures d (subst (λ (x : Core). ShowsClient x d) (sym c.client.ensures) shows) above within
