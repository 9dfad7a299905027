-- A client and a server for the worked examples.
use Rattle.std.specs.Prelude.{false, true, List, [], ◌∷◌}
use Rattle.spec_exchange.specs.Commands.{Shows, Refused, Logon}
use Rattle.spec_exchange.specs.Operations.{OpCreate, OpWrite}
use Rattle.spec_exchange.specs.Client.{Identity}
use Rattle.spec_exchange.specs.Schedules.{Line, Does, Settles}
use Rattle.spec_exchange.specs.Network.{Settings, Submit}

abbrev pub somebody : Shows → Identity
somebody logon = record { guid = 7; salt = 3; logon = logon; share = 100 ∷ []; cipher = 2; signing = 1 }

abbrev pub settings : Shows → Settings
settings logon =
    record { who = somebody logon; share = 100 ∷ []; room = 268435456; encrypts = true; address = record { ip = 2130706433; port = 445 } }

-- one that the server takes, and one whose logon it refuses
abbrev pub known : Settings
known = settings (Logon (117 ∷ []))

abbrev pub stranger : Settings
stranger = settings Refused

-- a create, a write and settling
abbrev pub create_and_write : List Line
create_and_write = Does (Submit 1 (OpCreate (97 ∷ []) 0x183 0 2 false false)) ∷ Does (Submit 2 (OpWrite 1 0 (98 ∷ []))) ∷ Settles ∷ []
