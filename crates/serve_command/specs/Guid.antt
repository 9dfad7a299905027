-- What a server calls itself.
use Rattle.std.specs.Prelude.{ℕ, List, codes}

-- ServerGuid (MS-SMB2 3.3.1.5)
abbrev pub server_guid : List ℕ
server_guid = codes "smb311-server-01"
