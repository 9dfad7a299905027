-- What settings tell a server that is reached at an address.
use Rattle.std.specs.Prelude.{ℕ, ◌+◌, ◌/◌, ◌==◌, Bool, true, false, not, ◌&&◌, if◌then◌else◌, List, [], ◌∷◌, length, Result, Ok, Err}
use Rattle.script_words.specs.Outcome.{◌>>=◌}
use Rattle.script_words.specs.declared.values.Cipher.{Cipher}
use Rattle.script_words.specs.declared.values.Cipher.TheVariants as ciphers
use Rattle.script_words.specs.declared.values.Command.TheVariants.{Serve}
use Rattle.script_words.specs.declared.values.Given.{Given}
use Rattle.script_words.specs.declared.values.User.{User as GivenUser}
use Rattle.script_words.specs.text_lines.Script.{script}
use Rattle.script_words.specs.text_lines.Settings.{settings_of}
use Rattle.script_words.specs.declared.text_lines.line.Refusal.{Refusal}
use Rattle.script_words.specs.declared.text_lines.settings.Settings.{Settings}
use Rattle.server_checks.specs.declared.tables.Config.{Config}
use Rattle.base_outside.specs.declared.streams.address.Address.{Address}
use Rattle.serve_command.specs.declared.server_settings.refusal.SettingsRefusal.{SettingsRefusal}
use Rattle.serve_command.specs.declared.server_settings.refusal.SettingsRefusal.TheVariants.{Line, NoUser}
use Rattle.serve_command.specs.declared.server_settings.settings.Setup.{Setup}
use Rattle.serve_command.specs.server_settings.Served.{line_count, marked, own_of, takes_bare, watch_of}
use Rattle.spec_crypto.specs.tokens.Acceptor.{User}

abbrev pub user_of : GivenUser → User
user_of u = record { name = u.name; password = u.password }

abbrev pub users_of : List GivenUser → List User
users_of [] = []
users_of (user ∷ more) = user_of user ∷ users_of more

-- sessions are sealed but where the settings name no cipher
abbrev pub served_seals : Cipher → Bool
served_seals ciphers.None = false
served_seals ciphers.Ccm = true
served_seals ciphers.Gcm = true
served_seals ciphers.Ccm256 = true
served_seals ciphers.Gcm256 = true

-- where the server is reached, and whether it takes NTLM's messages alone too
abbrev pub config_of : Settings → Address → Bool → Config
config_of s at bare = record {
  users = record { list = users_of s.users; bare = bare };
  share = s.share;
  room = s.room;
  encrypts = served_seals s.cipher;
  address = record { ip = at.ip; port = at.port };
}

-- 127.0.0.0/8: only programs of the same machine reach it
abbrev pub is_loopback : Address → Bool
is_loopback at = at.ip / 16_777_216 == 127

-- Where anybody may reach the server it has no user of its own: the settings have to name one.
abbrev pub lacks_user : Address → Given → Bool
lacks_user at given = length given.users == 0 && not (is_loopback at)

-- a refused line, as the settings' refusal
abbrev pub at_its_line : {A : Type 0} → Result A Refusal → Result A SettingsRefusal
at_its_line (Ok x) = Ok x
at_its_line (Err refusal) = Err (Line refusal)

-- what the text's other lines give; where a user is missing the line behind the last is refused
abbrev pub given_due : Address → List ℕ → Result Given SettingsRefusal
given_due at text =
    at_its_line (script Serve (marked text)) >>= λ r. if lacks_user at r.given then Err (NoUser (line_count text + 1)) else Ok r.given

-- what a text of settings tells, or why it is refused; of several refused lines the first
abbrev pub config_due : Address → List ℕ → Result Setup SettingsRefusal
config_due at text =
    given_due at text >>= λ given. Ok (record { config = config_of (settings_of given) at (takes_bare (own_of text)); watch = watch_of (own_of text) })
