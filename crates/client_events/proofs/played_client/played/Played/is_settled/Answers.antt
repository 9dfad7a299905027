use Rattle.std.proofs.Common.{sym, subst}
use Rattle.spec_exchange.specs.Client.{Client}
use Rattle.client_steps.specs.declared.whole_client.client.Client.{Client as Core}
use Rattle.client_steps.specs.whole_client.Shown.{ShowsClient}
use Rattle.client_events.proofs.played_client.played.Played.is_settled.Goals as goal

pub look-requires : goal.look-requires
look-requires c = record { holds = c.self.invariant }

pub invariant_of-self : goal.invariant_of-self
invariant_of-self c = c.look.ensures.holds

pub returns : goal.returns
returns c =
    let e = c.look.ensures in
    let back : (d : Client) → ShowsClient c.args.self.now d → ShowsClient c.self.inside.client d =
    (λ d s. subst (λ (z : Core). ShowsClient z d) (sym c.self.view_is) s) in
    record {
      shown = λ d s. e.shown d (back d s);
      told = λ d s. e.told d (back d s);
    }
