-- The lines of settings. They come before all else, each at most once; `serve` takes many users, and `channels` is of `run` alone.
use Rattle.std.specs.Prelude.{ℕ, ◌==◌, nat_le, Bool, true, false, not, ◌&&◌, ◌||◌, if◌then◌else◌, List, [], ◌∷◌, codes}
use Rattle.std.specs.Prelude.{length, Option, Some, None, is_some}
use Rattle.std.specs.Prelude.{Result, Ok, Err}
use Rattle.std.specs.List.{list_any}
use Rattle.std.specs.Str.{bytes_eq, str_eq_ignore_ascii_case}
use Rattle.script_words.specs.Outcome.{◌>>=◌}
use Rattle.script_words.specs.Parts.{Reading, word, number, short_text, is_ascii, given_by, said_by}
use Rattle.script_words.specs.declared.values.Code.{Code}
use Rattle.script_words.specs.declared.values.Code.TheVariants.{BadLine}
use Rattle.script_words.specs.declared.values.Command.{Command}
use Rattle.script_words.specs.declared.values.Command.TheVariants.{Drill, Serve, Run}
use Rattle.script_words.specs.declared.values.Cipher.{Cipher}
use Rattle.script_words.specs.declared.values.Cipher.TheVariants as ciphers
use Rattle.script_words.specs.declared.values.Given.{Given}
use Rattle.script_words.specs.declared.values.Setting.{Setting}
use Rattle.script_words.specs.declared.values.Setting.TheVariants as settings
use Rattle.script_words.specs.declared.values.Signing.{Signing}
use Rattle.script_words.specs.declared.values.Signing.TheVariants as signings
use Rattle.script_words.specs.declared.values.User.{User}

abbrev pub serves : Command → Bool
serves Serve = true
serves _ = false

abbrev pub runs : Command → Bool
runs Run = true
runs _ = false

abbrev pub drills : Command → Bool
drills Drill = true
drills _ = false

-- what the client offers first; `none` is signing alone
unfoldable pub cipher_of : List ℕ → Option Cipher
cipher_of text =
    if bytes_eq text (codes "none") then Some ciphers.None
    else if bytes_eq text (codes "ccm") then Some ciphers.Ccm
    else if bytes_eq text (codes "gcm") then Some ciphers.Gcm
    else if bytes_eq text (codes "ccm256") then Some ciphers.Ccm256
    else if bytes_eq text (codes "gcm256") then Some ciphers.Gcm256
    else None

-- `cipher none|ccm|gcm|ccm256|gcm256`
unfoldable pub cipher : List (List ℕ) → Reading Setting
cipher words = do
  first ← word words
  chosen ← given_by (cipher_of first.0) first.1
  Ok (settings.Cipher chosen.0, chosen.1)

-- what the client offers first to sign with
unfoldable pub signing_of : List ℕ → Option Signing
signing_of text =
    if bytes_eq text (codes "cmac") then Some signings.Cmac
    else if bytes_eq text (codes "gmac") then Some signings.Gmac
    else None

-- `signing cmac|gmac`
unfoldable pub signing : List (List ℕ) → Reading Setting
signing words = do
  first ← word words
  chosen ← given_by (signing_of first.0) first.1
  Ok (settings.Signing chosen.0, chosen.1)

-- `room N`: how many bytes all files may have
unfoldable pub room : List (List ℕ) → Reading Setting
room words = do
  bytes ← number 268_435_456 words
  Ok (settings.Room bytes.0, bytes.1)

-- an earlier name is this one but for the case of ASCII letters
abbrev pub is_name_taken : List ℕ → List User → Bool
is_name_taken name users = list_any (λ (user : User). str_eq_ignore_ascii_case user.name name) users

-- a user's name is ASCII, and no earlier user's
abbrev pub user_name : List User → List ℕ → Result (List ℕ) Code
user_name users text = if not (is_ascii text) || is_name_taken text users then Err BadLine else short_text text

-- `user NAME PASSWORD`
unfoldable pub user : List User → List (List ℕ) → Reading Setting
user users words = do
  first ← word words
  name ← said_by (user_name users first.0) first.1
  second ← word name.1
  password ← said_by (short_text second.0) second.1
  Ok (settings.User (record { name = name.0; password = password.0 }), password.1)

-- a share's name has no `\` and isn't that of the pipes
abbrev pub share_name : List ℕ → Result (List ℕ) Code
share_name text =
    if list_any (λ byte. byte == 92) text || str_eq_ignore_ascii_case text (codes "IPC$") then Err BadLine else short_text text

-- `share NAME`
unfoldable pub share : List (List ℕ) → Reading Setting
share words = do
  first ← word words
  name ← said_by (share_name first.0) first.1
  Ok (settings.Share name.0, name.1)

-- 1 to 32
abbrev pub some_channels : ℕ → Option ℕ
some_channels n = if nat_le 1 n then Some n else None

-- `channels N`
unfoldable pub channels : List (List ℕ) → Reading Setting
channels words = do
  count ← number 32 words
  some ← given_by (some_channels count.0) count.1
  Ok (settings.Channels some.0, some.1)

-- a setting that may not be given here is a bad line by its first word
abbrev pub unless : Bool → Reading Setting → Reading Setting
unless refused reading = if refused then Err BadLine else reading

unfoldable pub setting : Command → Given → List ℕ → List (List ℕ) → Reading Setting
setting command given name words =
    if bytes_eq name (codes "cipher") then unless (given.begun || is_some given.cipher) (cipher words)
    else if bytes_eq name (codes "signing") then unless (given.begun || is_some given.signing) (signing words)
    else if bytes_eq name (codes "room") then unless (given.begun || is_some given.room) (room words)
    else if bytes_eq name (codes "user") then unless
    (given.begun || (not (length given.users == 0) && not (serves command))) (user given.users words)
    else if bytes_eq name (codes "share") then unless (given.begun || is_some given.share) (share words)
    else if bytes_eq name (codes "channels") then unless (given.begun || (is_some given.channels || not (runs command))) (channels words)
    else Err BadLine
