-- The settings of a script of `drill`, and its lines, as the world over bytes has them (this project's).
use Rattle.std.specs.Prelude.{ℕ, ◌+◌, Bool, true, false, List, [], ◌∷◌, ◌++◌, codes, map}
use Rattle.spec_exchange.specs.Network as network
use Rattle.client_values.specs.operations.Meaning.{op_of}
use Rattle.script_words.specs.text_lines.Script.{Read}
use Rattle.script_words.specs.text_lines.Settings.{settings_of}
use Rattle.script_words.specs.declared.text_lines.line.Line.{Line as Said}
use Rattle.script_words.specs.declared.text_lines.settings.Settings.{Settings}
use Rattle.script_words.specs.declared.values.Cipher.{Cipher}
use Rattle.script_words.specs.declared.values.Cipher.TheVariants as ciphers
use Rattle.script_words.specs.declared.values.ScriptEvent.{ScriptEvent}
use Rattle.script_words.specs.declared.values.ScriptEvent.TheVariants as events
use Rattle.script_words.specs.declared.values.Signing.{Signing}
use Rattle.script_words.specs.declared.values.Signing.TheVariants as signings
use Rattle.script_words.specs.declared.values.Statement.{Statement}
use Rattle.script_words.specs.declared.values.Statement.TheVariants as statements
use Rattle.script_words.specs.declared.values.User.{User}
use Rattle.spec_crypto.specs.tokens.Acceptor as acceptor
use Rattle.spec_world.specs.Courses.{Line, Does, Forges, Flips, Pushes, Links, Settles}
use Rattle.spec_world.specs.Settings.{WorldSettings}

-- ---- settings: the client offers what the script names first, and then the others

-- AES-128-CCM 1, AES-128-GCM 2, AES-256-CCM 3, AES-256-GCM 4 (MS-SMB2 2.2.3.1.2); none where both ends sign alone
abbrev pub ciphers_of : Cipher → List ℕ
ciphers_of ciphers.None = []
ciphers_of ciphers.Ccm = 1 ∷ 2 ∷ 4 ∷ 3 ∷ []
ciphers_of ciphers.Gcm = 2 ∷ 1 ∷ 4 ∷ 3 ∷ []
ciphers_of ciphers.Ccm256 = 3 ∷ 2 ∷ 1 ∷ 4 ∷ []
ciphers_of ciphers.Gcm256 = 4 ∷ 2 ∷ 1 ∷ 3 ∷ []

-- AES-CMAC 1, AES-GMAC 2 (MS-SMB2 2.2.3.1.7)
abbrev pub signings_of : Signing → List ℕ
signings_of signings.Cmac = 1 ∷ 2 ∷ []
signings_of signings.Gmac = 2 ∷ 1 ∷ []

-- the server seals where the client offers a cipher
abbrev pub seals : Cipher → Bool
seals ciphers.None = false
seals ciphers.Ccm = true
seals ciphers.Gcm = true
seals ciphers.Ccm256 = true
seals ciphers.Gcm256 = true

abbrev pub user_of : User → acceptor.User
user_of u = record { name = u.name; password = u.password }

-- the client logs on as the first user; the settings of a script have one
abbrev pub first_user : List User → User
first_user [] = record { name = []; password = [] }
first_user (u ∷ us) = u

-- the server is at 127.0.0.1, port 445
unfoldable pub drill_settings : Settings → List ℕ → WorldSettings
drill_settings s seed = record {
  server = record { users = record { list = map user_of s.users; bare = false }; guid = codes "smb311-server-01" };
  client = record {
    user = (first_user s.users).name;
    password = (first_user s.users).password;
    guid = codes "smb311-client-01";
    ciphers = ciphers_of s.cipher;
    signings = signings_of s.signing;
  };
  share = s.share;
  room = s.room;
  encrypts = seals s.cipher;
  address = record { ip = 2130706433; port = 445 };
  seed = seed;
}

-- ---- lines

abbrev pub event_line : ScriptEvent → Line
event_line (events.Open k) = Does (network.Open k)
event_line (events.Push k) = Pushes k
event_line (events.Serve k) = Does (network.Serve k)
event_line (events.Take k) = Does (network.Take k)
event_line (events.Cut k) = Does (network.Cut k)
event_line (events.Drop k) = Does (network.Drop k)
event_line events.Restart = Does network.Restart
event_line (events.Crash k kept) = Does (network.Crash k kept)
event_line (events.Forge k up bytes) = Forges k up bytes
event_line (events.Flip k up at mask) = Flips k up at mask
event_line (events.Wait time) = Does (network.Wait time)
event_line (events.Link k) = Links k
event_line events.Settle = Settles

-- what one statement says behind so many operations: they count from 1
abbrev pub lines_of_statement : ℕ → Statement → List Line
lines_of_statement before (statements.Setting s) = []
lines_of_statement before (statements.Operation kind) = Does (network.Submit (before + 1) (op_of kind)) ∷ []
lines_of_statement before (statements.Event e) = event_line e ∷ []

abbrev pub operations_of : Statement → ℕ
operations_of (statements.Setting s) = 0
operations_of (statements.Operation kind) = 1
operations_of (statements.Event e) = 0

unfoldable pub lines_of : ℕ → List Said → List Line
lines_of before [] = []
lines_of before (l ∷ ls) = lines_of_statement before l.statement ++ lines_of (before + operations_of l.statement) ls

-- ---- of a script that was read, with a run's 32 random bytes

abbrev pub settings_in : Read → List ℕ → WorldSettings
settings_in r seed = drill_settings (settings_of r.given) seed

abbrev pub lines_in : Read → List Line
lines_in r = lines_of 0 r.lines
