use Rattle.std.proofs.Common.{sym, subst}
use Rattle.std.proofs.lemmas.Result.{IfOk-weaker}
use Rattle.client_steps.specs.declared.whole_client.client.Client.{Client as Core}
use Rattle.client_steps.specs.whole_client.Shown.{ShowsClient}
use Rattle.client_events.proofs.played_client.played.Played.request.Goals as goal

pub request_of-requires : goal.request_of-requires
request_of-requires c = record { fits = c.self.invariant.fits }

pub returns : goal.returns
returns c = IfOk-weaker c.request_of.result _ _
    (λ q is d s e. is d (subst (λ (z : Core). ShowsClient z d) (sym c.self.view_is) s) e)
    c.request_of.ensures
