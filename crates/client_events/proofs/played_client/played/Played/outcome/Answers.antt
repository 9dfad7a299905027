use Rattle.std.proofs.Common.{◌≡◌, true, subst}
use Rattle.std.specs.Prelude.{IfSome, IfNone}
use Rattle.spec_exchange.specs.Operations.{Unsettled}
use Rattle.spec_exchange.specs.Client.{Client, is_taken}
use Rattle.client_values.specs.outcomes.Meaning.{outcome_of}
use Rattle.client_steps.specs.declared.whole_client.client.Client.{Client as Core}
use Rattle.client_steps.specs.whole_client.Shown.{ShowsClient}
use Rattle.client_events.proofs.played_client.played.Played.outcome.Goals as goal

pub outcome-requires : goal.outcome-requires
outcome-requires c = record { fits = c.self.invariant.fits }

pub returns : goal.returns
returns c =
    let g = c.args.number in
    record {
      some = subst (λ (z : Core). IfSome c.outcome.result (λ o. (d : Client) → ShowsClient z d
          → (is_taken d g ≡ true) × (d.outcome g ≡ outcome_of o.now))) c.self.view_is c.outcome.ensures.some;
      none = subst (λ (z : Core). IfNone c.outcome.result ((d : Client) → ShowsClient z d → is_taken d g ≡ true → d.outcome g ≡ Unsettled))
          c.self.view_is c.outcome.ensures.none;
    }
