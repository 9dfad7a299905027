-- What the server is set up with.
use Rattle.std.specs.Prelude.{◌≡◌, ℕ, false, map}
use Rattle.law_scripts.specs.script_setup.Scripts.{seals, user_of}
use Rattle.script_words.specs.declared.text_lines.settings.Settings.{Settings}
use Rattle.server_checks.specs.declared.tables.Config.{Config}

pub record IsServerOf (s : Settings) (c : Config) : Type 0 where
  pub users : c.users ≡ record { list = map user_of s.users; bare = false }
  pub share : c.share ≡ s.share
  pub room : c.room ≡ s.room
  pub encrypts : c.encrypts ≡ seals s.cipher
  pub ip : c.address.ip ≡ 2130706433
  pub port : c.address.port ≡ 445
