use Rattle.std.proofs.Common.{sym, subst}
use Rattle.std.proofs.lemmas.Result.{IfOk-weaker, on_err_weaker}
use Rattle.spec_exchange.specs.Client.{Client}
use Rattle.client_steps.specs.declared.whole_client.client.Client.{Client as Core}
use Rattle.client_steps.specs.whole_client.Shown.{ShowsClient}
use Rattle.client_events.proofs.played_client.played.Played.head.Goals as goal

pub head_of-requires : goal.head_of-requires
head_of-requires c = record { fits = c.self.invariant.fits }

pub returns : goal.returns
returns c =
    let back : (d : Client) → ShowsClient c.args.self.now d → ShowsClient c.self.inside.client d =
    (λ d s. subst (λ (z : Core). ShowsClient z d) (sym c.self.view_is) s) in
    record {
      message = IfOk-weaker c.head_of.result _ _ (λ q is d k id s. is d k id (back d s)) c.head_of.ensures.message;
      none = on_err_weaker c.head_of.result (λ h d s. h d (back d s)) c.head_of.ensures.none;
    }
