use Rattle.std.proofs.Common.{sym, subst}
use Rattle.client_steps.specs.declared.whole_client.client.Client.{Client as Core}
use Rattle.client_steps.specs.whole_client.Shown.{ShowsClient}
use Rattle.client_events.proofs.played_client.played.Played.order.Goals as goal

pub returns : goal.returns
returns c = λ d s. c.order.ensures d (subst (λ (z : Core). ShowsClient z d) (sym c.self.view_is) s)
