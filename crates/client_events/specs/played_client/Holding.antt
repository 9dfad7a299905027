-- What always holds of a client to which events happen.
use Rattle.spec_exchange.specs.Client.{Client}
use Rattle.spec_exchange.specs.ClientStep.{ClientEvent, client_after}
use Rattle.law_client.specs.table.Kept.{IsTimely, TableKept}
use Rattle.client_steps.specs.declared.whole_client.client.Client.{Client as Core}
use Rattle.client_steps.specs.whole_client.Shown.{FitsClient, ShowsClient}
use Rattle.client_events.specs.declared.event_calls.steps.Event.{Event}
use Rattle.client_events.specs.event_calls.Events.{MayCome, Means, event_of}

-- it shows a client of the model, for which what always holds does
pub record PlayedHolds (x : Core) : Type 0 where
  pub fits : FitsClient x
  pub model : Client
  pub shown : ShowsClient x model
  pub kept : TableKept model

-- an event may come to a client of the model
abbrev pub PlayedComesTo : Client → Event → Type 0
PlayedComesTo c e = MayCome c (event_of c e) × IsTimely c (event_of c e)

-- to each that it shows
abbrev pub PlayedComes : Core → Event → Type 0
PlayedComes x e = (c : Client) → ShowsClient x c → TableKept c → PlayedComesTo c e

-- behind the event it shows the model's client behind that event
abbrev pub PlayedSteps : Core → Core → Event → Type 0
PlayedSteps old new x = (c : Client) (e : ClientEvent) → ShowsClient old c → TableKept c → Means c x e → ShowsClient new (client_after c e)
