-- What a world begins with.
use Rattle.std.specs.Prelude.{◌≡◌, ℕ, List, [], length, slice_get, Some, None}
use Rattle.client_ends.specs.dialog_calls.Ending.{CanConnect}
use Rattle.client_ends.specs.ends.Shown.{settings_of}
use Rattle.client_ends.specs.declared.ends.config.ClientConfig.{ClientConfig}
use Rattle.client_ends.specs.dialog_requests.Dialogs.{CanOffer}
use Rattle.server_checks.specs.declared.tables.Config.{Config}
use Rattle.server_core.specs.restart_tables.Restart.{configuration_of}
use Rattle.spec_world.specs.Settings.{WorldSettings}
use Rattle.world_ends.specs.declared.sides.Channel.{Channel}
use Rattle.world_ends.specs.declared.sides.ClientSide.TheVariants.{Closed}

-- both ends of each connection are closed, and nothing is on its way
pub record IsWorldClosed (x : Channel) : Type 0 where
  pub client : x.client ≡ Closed
  pub server : x.server ≡ None
  pub up : x.up.items ≡ []
  pub down : x.down.items ≡ []

pub record AreClosed (n : ℕ) (xs : List Channel) : Type 0 where
  pub counted : length xs ≡ n
  pub each : (k : ℕ) (x : Channel) → slice_get xs k ≡ Some x → IsWorldClosed x

-- the settings of the definitions are these; what is offered fits its contexts, and the share's path its field
pub record IsBegunBy (z : WorldSettings) (config : Config) (guid : List ℕ) (settings : ClientConfig) (seed : List ℕ) : Type 0 where
  pub client : z.client ≡ settings_of settings
  pub users : z.server.users ≡ config.users
  pub guid_is : z.server.guid ≡ guid
  pub share : z.share ≡ settings.share
  pub shared : z.share ≡ config.share
  pub room : z.room ≡ config.room
  pub encrypts : z.encrypts ≡ config.encrypts
  pub address : z.address ≡ (configuration_of config).address
  pub seed_is : z.seed ≡ seed
  pub offers : CanOffer settings
  pub connects : CanConnect settings.share
