-- Settings and messages whose parts fit their fields.
use Rattle.std.specs.Prelude.{◌≡◌, ℕ, ◌<◌, ◌≤◌, ◌^◌, ◌⊎◌, true, List, [], ◌∷◌, ◌++◌, length, Option, Some, None, IsUtf8}
use Rattle.spec_wire.specs.declared.messages.header.Header.{Header}
use Rattle.spec_exchange.specs.Status.{success, more_processing_required}
use Rattle.spec_exchange.specs.Commands.{Command, Setup, SetupRequest}
use Rattle.spec_exchange.specs.State.{Message, Reply}
use Rattle.spec_crypto.specs.sessions.Choice.{is_cipher, is_signing}
use Rattle.spec_crypto.specs.sessions.Signing.{signed}
use Rattle.spec_crypto.specs.declared.sessions.material.Signer.{Signer}
use Rattle.spec_crypto.specs.tokens.Acceptor.{User, user_named}
use Rattle.spec_crypto.specs.tokens.Formulas.{utf16}
use Rattle.spec_commands.specs.BodyOf.{host}
use Rattle.spec_commands.specs.ReplyBody.{seals_in}
use Rattle.spec_commands.specs.Tables.{bit_if}
use Rattle.law_commands.specs.commands.Fitting.{IsFittingName, HasNoBackslash}
use Rattle.spec_world.specs.Settings.{ClientSettings, WorldSettings}
use Rattle.spec_world.specs.Messages.{message_spelling}

-- ---- settings: at most 256 characters of ASCII in a name, ids of ciphers and algorithms that are known

abbrev pub AllAscii : List ℕ → Type 0
AllAscii [] = Unit {0}
AllAscii (b ∷ bs) = (b < 128) × AllAscii bs

pub record IsUserName (name : List ℕ) : Type 0 where
  pub ascii : AllAscii name
  pub short : length name ≤ 256

pub record IsPassword (password : List ℕ) : Type 0 where
  pub utf8 : IsUtf8 password
  pub short : length password ≤ 1024

abbrev pub AreUsers : List User → Type 0
AreUsers [] = Unit {0}
AreUsers (u ∷ us) = IsUserName u.name × IsPassword u.password × AreUsers us

abbrev pub AreCiphers : List ℕ → Type 0
AreCiphers [] = Unit {0}
AreCiphers (c ∷ cs) = (is_cipher c ≡ true) × AreCiphers cs

abbrev pub AreSignings : List ℕ → Type 0
AreSignings [] = Unit {0}
AreSignings (s ∷ ss) = (is_signing s ≡ true) × AreSignings ss

pub record IsFittingClient (c : ClientSettings) : Type 0 where
  pub user : IsUserName c.user
  pub password : IsPassword c.password
  pub guid : length c.guid ≡ 16
  pub ciphers : AreCiphers c.ciphers
  pub signings : AreSignings c.signings
  pub few_ciphers : length c.ciphers ≤ 4
  pub few_signings : length c.signings ≤ 2

-- the user of that name has this password; another password might prove itself by chance, which nothing here excludes
abbrev pub HasPassword : Option User → List ℕ → Type 0
HasPassword None password = Unit {0}
HasPassword (Some u) password = u.password ≡ password

pub record IsFitting (z : WorldSettings) : Type 0 where
  pub client : IsFittingClient z.client
  pub users : AreUsers z.server.users.list
  pub server_guid : length z.server.guid ≡ 16
  pub password : HasPassword (user_named (utf16 z.client.user) z.server.users.list) z.client.password
  pub share : IsFittingName (host ++ z.share)
  pub plain_share : HasNoBackslash z.share

-- ---- a request's numbers fit its header

pub record IsSent (m : Message) (charge : ℕ) : Type 0 where
  pub charge_fits : charge < 256 ^ 2
  pub channel_sequence : m.channel_sequence < 256 ^ 2
  pub message_id : m.message_id < 256 ^ 8
  pub tree_id : m.tree_id < 256 ^ 4
  pub session_id : m.session_id < 256 ^ 8

-- ---- bytes are a message of this header and this body, signed or not

pub data IsMessage (h : Header) (body m : List ℕ) : Type 0 where
  Bare : m ≡ message_spelling h body → IsMessage h body m
  Signed : (signer : Signer) → m ≡ signed signer (message_spelling h body) → IsMessage h body m

-- ---- a SESSION_SETUP's interim or final response, with its token

pub record IsSetUpBy (c : Command) (r : Reply) (token : List ℕ) : Type 0 where
  pub request : SetupRequest
  pub command : c ≡ Setup request
  pub status : (r.status ≡ success) ⊎ (r.status ≡ more_processing_required)
  pub short : length token < 256 ^ 2

-- ENCRYPT_DATA alone
abbrev pub flags_of : Reply → ℕ
flags_of r = bit_if (seals_in r.body) 4
