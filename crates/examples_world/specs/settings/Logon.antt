-- The settings of a worked logon.
use Rattle.std.specs.Prelude.{ℕ, true, false, List, [], ◌∷◌}
use Rattle.spec_world.specs.Settings.{ServerSettings, ClientSettings, WorldSettings}

-- `User` and `Password`
abbrev pub user_name : List ℕ
user_name = 85 ∷ 115 ∷ 101 ∷ 114 ∷ []

abbrev pub password : List ℕ
password = 80 ∷ 97 ∷ 115 ∷ 115 ∷ 119 ∷ 111 ∷ 114 ∷ 100 ∷ []

-- `data`
abbrev pub share_name : List ℕ
share_name = 100 ∷ 97 ∷ 116 ∷ 97 ∷ []

abbrev pub client_guid : List ℕ
client_guid = 16 ∷ 17 ∷ 18 ∷ 19 ∷ 20 ∷ 21 ∷ 22 ∷ 23 ∷ 24 ∷ 25 ∷ 26 ∷ 27 ∷ 28 ∷ 29 ∷ 30 ∷ 31 ∷ []

abbrev pub server_guid : List ℕ
server_guid = 32 ∷ 33 ∷ 34 ∷ 35 ∷ 36 ∷ 37 ∷ 38 ∷ 39 ∷ 40 ∷ 41 ∷ 42 ∷ 43 ∷ 44 ∷ 45 ∷ 46 ∷ 47 ∷ []

abbrev pub logon_client : ClientSettings
logon_client = record {
  user = user_name;
  password = password;
  guid = client_guid;
  ciphers = 2 ∷ 1 ∷ 4 ∷ 3 ∷ [];
  signings = 2 ∷ 1 ∷ [];
}

abbrev pub logon_server : ServerSettings
logon_server = record { users = record { list = record { name = user_name; password = password } ∷ []; bare = false }; guid = server_guid }

abbrev pub logon_settings : WorldSettings
logon_settings = record {
  server = logon_server;
  client = logon_client;
  share = share_name;
  room = 1000000;
  encrypts = true;
  address = record { ip = 0; port = 445 };
  seed = [];
}
