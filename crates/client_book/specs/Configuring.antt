-- What a client is configured with, of a script's settings.
use Rattle.std.specs.Prelude.{◌≡◌, ℕ, List}
use Rattle.law_scripts.specs.script_setup.Scripts.{ciphers_of, signings_of}
use Rattle.client_ends.specs.declared.ends.config.ClientConfig.{ClientConfig}
use Rattle.script_words.specs.declared.text_lines.settings.Settings.{Settings}
use Rattle.script_words.specs.declared.values.User.{User}

-- it logs on as this user, and offers what the settings name first, and then the others
pub record IsClientOf (s : Settings) (u : User) (guid : List ℕ) (c : ClientConfig) : Type 0 where
  pub user : c.user ≡ u.name
  pub password : c.password ≡ u.password
  pub share : c.share ≡ s.share
  pub ciphers : c.ciphers ≡ ciphers_of s.cipher
  pub signings : c.signings ≡ signings_of s.signing
  pub guid_is : c.guid ≡ guid
