-- A SESSION_SETUP that ends its logon (MS-SMB2 3.3.5.5.3).
use Rattle.std.specs.Prelude.{◌≡◌, true, is_some, ⊤}
use Rattle.spec_exchange.specs.State.{Message, Server}
use Rattle.spec_exchange.specs.Verdict.{Verdict, Begin, Join}

-- it is of the session of its message, which is in the making on its connection
abbrev pub EndsMaking : Server → Message → Verdict → Type 0
EndsMaking s m (Begin session user previous request quiet) = (session ≡ m.session_id) × (is_some (s.making m.connection) ≡ true)
EndsMaking s m (Join session) = (session ≡ m.session_id) × (is_some (s.making m.connection) ≡ true)
EndsMaking s m _ = ⊤
