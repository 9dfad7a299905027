-- A world in code shows one of the definitions: an equation for each column that it keeps.
--
-- It keeps of `values`: the client but for what no step looks at (settled_by stands in the marks; given_up, accepted_count and rank are
-- free), the server with its records, the moment, of each connection the ends and the lists, and of the log places, who, first and birth.
-- Free are of the log gave, did, bytes, since and prior, the trace, next_id, and of a message on its way all but its token, of a reply all
-- but its place. Of the bytes it keeps all but made, accepted and sealings. An end that is closed shows nothing.
--
-- Each part is stated of the columns that it looks at, so that a step which leaves them leaves it as it is.
use Rattle.std.specs.Prelude.{◌≡◌, ℕ, ◌<◌, ◌≤◌, Bool, true, false, Option, is_some}
use Rattle.client_steps.specs.whole_client.Shown.{ShowsClient}
use Rattle.client_steps.specs.declared.whole_client.client.Client.{Client as Core}
use Rattle.law_client.specs.table.Kept.{TableKept}
use Rattle.client_events.specs.world_law.Asking.{AsksFit}
use Rattle.spec_exchange.specs.Client.{Client}
use Rattle.spec_crypto.specs.declared.sessions.material.Keys.{Keys}
use Rattle.world_ends.specs.memory_server.Held.{HoldsBook}
use Rattle.spec_world.specs.Settings.{WorldSettings, identity_of}
use Rattle.spec_world.specs.World as bytes
use Rattle.world_ends.specs.Channels.{ShowsChannels, seen_of}
use Rattle.world_ends.specs.Places.{ChannelShowsPlaces}
use Rattle.world_ends.specs.Settings.{IsSetBy}
use Rattle.world_ends.specs.declared.world.World.{World}

-- ---- the client, with what its core keeps not

pub record ShowsOwn (z : WorldSettings) (x : Core) (accepted : ℕ) (making : Option ℕ) (c : Client) : Type 0 where
  pub client : ShowsClient x c
  pub kept : TableKept c
  pub asks : AsksFit c
  pub who : c.who ≡ identity_of z
  pub accepted_is : c.accepted ≡ accepted
  pub making_is : c.making ≡ making
  -- a session is in the making only while none is live
  pub apart : is_some making ≡ true → c.live ≡ false

-- ---- its session, whose keys are shown once one was accepted

pub record WorldShowsSession (x : Keys) (seals : Bool) (count : ℕ) (keys : Keys) (encrypts : Bool) (numbers : ℕ) : Type 0 where
  pub keys_are : 0 < numbers → keys ≡ x
  pub known : x.cipher ≤ 4
  pub encrypts_is : encrypts ≡ seals
  pub numbers_are : numbers ≡ count

-- ---- the whole

pub record ShowsWorld (z : WorldSettings) (x : World) (w : bytes.World) : Type 0 where
  pub settings : IsSetBy z x.settings x.guid x.seed x.salt
  pub own : ShowsOwn z x.client x.accepted x.making w.values.client
  pub session : WorldShowsSession x.keys x.encrypts x.numbers w.keys w.encrypts w.numbers
  pub server : HoldsBook x.book z.server.users w.values.server w.logons w.values.records
  pub moment : w.values.moment ≡ x.moment
  pub draws : w.draws ≡ x.draws
  pub places : ChannelShowsPlaces x.places w.values.client.taken w.values.client.settled_by w.values.log.places w.values.log.who
      w.values.log.first w.values.log.birth
  pub channels : ShowsChannels x.settings x.guid x.keys w.values.client.taken (seen_of w.values.client) w.values.conns w.wires
      x.channels.items
