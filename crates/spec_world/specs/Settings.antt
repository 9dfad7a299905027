-- What both ends are configured with (MS-SMB2 3.2.1.1, 3.3.1.5), and the bytes that a run draws.
use Rattle.std.specs.Prelude.{ℕ, Bool, List, ◌++◌, take, if◌then◌else◌, Option, Some, None}
use Rattle.std.specs.Str.{bytes_eq}
use Rattle.sha2.specs.Sha256.{sha256}
use Rattle.spec_wire.specs.messages.Places.{le, number_of}
use Rattle.spec_crypto.specs.declared.sessions.choice.Chosen.{Chosen}
use Rattle.spec_crypto.specs.sessions.Choice.{chosen_with, cipher_of, signing_of}
use Rattle.spec_crypto.specs.tokens.Formulas.{utf16}
use Rattle.spec_crypto.specs.tokens.Acceptor.{User, user_named}
use Rattle.spec_crypto.specs.tokens.Tokens.{Users}
use Rattle.spec_exchange.specs.Commands.{Shows, Refused, Logon}
use Rattle.spec_exchange.specs.State.{Address}
use Rattle.spec_exchange.specs.Client.{Identity}
use Rattle.spec_exchange.specs.Network.{Settings}

-- the server's users, and its ServerGuid of 16 bytes
pub record ServerSettings : Type 0 where
  pub users : Users
  pub guid : List ℕ

-- the client's user, its ClientGuid of 16 bytes, and the ciphers and signing algorithms that it offers, in its order
pub record ClientSettings : Type 0 where
  pub user : List ℕ
  pub password : List ℕ
  pub guid : List ℕ
  pub ciphers : List ℕ
  pub signings : List ℕ

pub record WorldSettings : Type 0 where
  pub server : ServerSettings
  pub client : ClientSettings
  pub share : List ℕ  -- the server's, to which the client connects
  pub room : ℕ
  pub encrypts : Bool
  pub address : Address
  pub seed : List ℕ

-- the n-th draw of a run, n from 0, of which so many bytes are taken as are wanted
unfoldable pub draw : List ℕ → ℕ → List ℕ
draw seed n = sha256 (seed ++ le 8 n)

-- ---- the client as the model of values sees it

-- what this server chooses of the client's offer
abbrev pub chosen_of : ClientSettings → Chosen
chosen_of c = chosen_with (cipher_of c.ciphers) (signing_of c.signings)

abbrev pub logon_with : List ℕ → Option User → Shows
logon_with password None = Refused
logon_with password (Some u) = if bytes_eq u.password password then Logon u.name else Refused

-- what its second token shows: a logon, where a user of the server has its name and its password
unfoldable pub logon_of : WorldSettings → Shows
logon_of z = logon_with z.client.password (user_named (utf16 z.client.user) z.server.users.list)

-- the first draw is the random half of its CreateGuids
abbrev pub identity_of : WorldSettings → Identity
identity_of z = record {
  guid = number_of z.client.guid;
  salt = number_of (take 8 (draw z.seed 0));
  logon = logon_of z;
  share = z.share;
  cipher = (chosen_of z.client).cipher;
  signing = (chosen_of z.client).signing;
}

-- the settings of the model of values
abbrev pub values_of : WorldSettings → Settings
values_of z = record { who = identity_of z; share = z.share; room = z.room; encrypts = z.encrypts; address = z.address }
