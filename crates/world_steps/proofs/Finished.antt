-- The client gives up.
use Rattle.std.proofs.Common.{◌≡◌, ◌+◌, Bool, true, false, not, if◌then◌else◌, refl, sym, subst}
use Rattle.client_events.specs.declared.event_calls.steps.Event.TheVariants as happens
use Rattle.law_client.proofs.table.Events.{keeps}
use Rattle.client_values.specs.outcomes.Meaning.{refusal_of}
use Rattle.client_values.specs.declared.outcomes.outcome.Why.TheVariants as causes
use Rattle.client_events.specs.played_client.Holding.{PlayedSteps as Happens}
use Rattle.client_events.proofs.world_law.Events.{asks_on}
use Rattle.spec_exchange.specs.ClientStep.{Finishes}
use Rattle.spec_exchange.specs.Network.{Finish, changed}
use Rattle.spec_exchange.specs.Operations.{NoSession}
use Rattle.spec_exchange.specs.State.{no_later}
use Rattle.wire_bytes.specs.declared.session_messages.refusal.Refusal.{Refusal}
use Rattle.spec_world.specs.Events.{Plain, bytes_happen, bytes_later}
use Rattle.spec_world.specs.Settings.{WorldSettings}
use Rattle.spec_world.specs.World as bytes
use Rattle.spec_world.specs.World.{with_values}
use Rattle.world_ends.specs.Shown.{ShowsWorld}
use Rattle.world_ends.specs.declared.world.World.{World}
use Rattle.world_steps.proofs.Onward.{later_shown}

abbrev behind : bytes.World → Refusal → bytes.World
behind w why = with_values w (changed w.values (Finish (refusal_of why)))

-- by whether a session is live
abbrev finished_if : Bool → bytes.World → Refusal → bytes.World
finished_if b w why = if not b then bytes_later (behind w why) 1 else w

given_up : (z : WorldSettings) (x y : World) (w : bytes.World) (why : Refusal)
    → Happens x.client y.client (happens.Finish (causes.NoSession why)) → w.values.client.live ≡ false → ShowsWorld z x w
    → ShowsWorld z (record x { client = y.client }) (behind w why)
given_up z x y w why r live h =
    let c = w.values.client in
    let e = Finishes (NoSession (refusal_of why)) in
    record {
      settings = h.settings;
      own = record {
        client = r c e h.own.client h.own.kept refl;
        kept = keeps c e h.own.kept live;
        asks = asks_on c e h.own.asks;
        who = h.own.who;
        accepted_is = h.own.accepted_is;
        making_is = h.own.making_is;
        apart = h.own.apart;
      };
      session = h.session;
      server = h.server;
      moment = h.moment;
      draws = h.draws;
      places = h.places;
      channels = h.channels;
    }

pub finished : (z : WorldSettings) (x y v : World) (w : bytes.World) (why : Refusal)
    → Happens x.client y.client (happens.Finish (causes.NoSession why)) → w.values.client.live ≡ false
    → v ≡ record (record x { client = y.client }) { moment = v.moment } → v.moment ≡ no_later (x.moment + 1) → ShowsWorld z x w
    → ShowsWorld z v (bytes_happen z w (Plain (Finish (refusal_of why))))
finished z x y v w why r live late time h =
    subst (λ (b : Bool). ShowsWorld z v (finished_if b w why)) (sym live)
    (later_shown z (record x { client = y.client }) v (behind w why) 1 late time (given_up z x y w why r live h))

-- where a session is live nothing happens
pub goes_on : (z : WorldSettings) (x : World) (w : bytes.World) (why : Refusal) → w.values.client.live ≡ true → ShowsWorld z x w
    → ShowsWorld z x (bytes_happen z w (Plain (Finish (refusal_of why))))
goes_on z x w why live h = subst (λ (b : Bool). ShowsWorld z x (finished_if b w why)) (sym live) h
