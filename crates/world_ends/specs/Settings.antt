-- The settings that a world in code has.
use Rattle.std.specs.Prelude.{◌≡◌, ℕ, List}
use Rattle.client_ends.specs.dialog_calls.Ending.{CanConnect}
use Rattle.client_ends.specs.ends.Shown.{settings_of}
use Rattle.client_ends.specs.declared.ends.config.ClientConfig.{ClientConfig}
use Rattle.client_ends.specs.dialog_requests.Dialogs.{CanOffer}
use Rattle.spec_world.specs.Settings.{WorldSettings, identity_of}

-- those of its client, the server's ServerGuid, its seed and its salt; of the server's configuration the book has the users, and the
-- state the rest
pub record IsSetBy (z : WorldSettings) (settings : ClientConfig) (guid seed : List ℕ) (salt : ℕ) : Type 0 where
  pub client : z.client ≡ settings_of settings
  pub guid_is : z.server.guid ≡ guid
  pub share : z.share ≡ settings.share
  pub seed_is : z.seed ≡ seed
  pub salt_is : (identity_of z).salt ≡ salt
  -- what is offered fits its contexts, and the share's path its field
  pub offers : CanOffer settings
  pub connects : CanConnect settings.share
