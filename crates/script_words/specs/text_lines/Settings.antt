-- The settings of a script, with those that it doesn't give.
use Rattle.std.specs.Prelude.{ℕ, List, [], ◌∷◌, codes, Option, Some, None}
use Rattle.script_words.specs.declared.values.Cipher.{Cipher}
use Rattle.script_words.specs.declared.values.Cipher.TheVariants as ciphers
use Rattle.script_words.specs.declared.values.Given.{Given}
use Rattle.script_words.specs.declared.values.Signing.TheVariants as signings
use Rattle.script_words.specs.declared.values.User.{User}
use Rattle.script_words.specs.declared.text_lines.settings.Settings.{Settings}

abbrev pub or_else : {A : Type 0} → A → Option A → A
or_else x None = x
or_else x (Some y) = y

-- `user Password`, where no user is given
abbrev pub users_or : List User → List User
users_or [] = record { name = codes "user"; password = codes "Password" } ∷ []
users_or (user ∷ more) = user ∷ more

-- AES-128-GCM and AES-CMAC first, a room of 268,435,456 bytes, the share `data`, two channels
unfoldable pub settings_of : Given → Settings
settings_of g = record {
  cipher = or_else ciphers.Gcm g.cipher;
  signing = or_else signings.Cmac g.signing;
  room = or_else 268_435_456 g.room;
  users = users_or g.users;
  share = or_else (codes "data") g.share;
  channels = or_else 2 g.channels;
}
