-- A world in code behind its last event shows one of the definitions, whose client has ended.
use Rattle.client_steps.specs.whole_client.Shown.{FitsClient, ShowsClient}
use Rattle.spec_exchange.specs.Client.{finish}
use Rattle.spec_exchange.specs.Operations.{Ended}
use Rattle.world_ends.specs.memory_server.Held.{HoldsBook}
use Rattle.spec_world.specs.Settings.{WorldSettings}
use Rattle.spec_world.specs.World as bytes
use Rattle.world_ends.specs.declared.results.ending.EndedWorld.{EndedWorld}
use Rattle.world_ends.specs.Places.{ChannelShowsPlaces}

-- w is the world behind the last event; its client alone is the one that gave up what wasn't settled
pub record ShowsEnded (z : WorldSettings) (x : EndedWorld) (w : bytes.World) : Type 0 where
  pub fits : FitsClient x.client
  pub client : ShowsClient x.client (finish w.values.client Ended)
  pub server : HoldsBook x.book z.server.users w.values.server w.logons w.values.records
  pub places : ChannelShowsPlaces x.places w.values.client.taken w.values.client.settled_by w.values.log.places w.values.log.who
      w.values.log.first w.values.log.birth
