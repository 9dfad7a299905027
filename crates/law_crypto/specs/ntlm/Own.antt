-- A client with a logon of its own, and the user whose logon it is.
use Rattle.std.specs.Prelude.{◌≡◌, List, length, Some}
use Rattle.std.specs.Str.{IsAscii}
use Rattle.spec_crypto.specs.tokens.Formulas.{utf16}
use Rattle.spec_crypto.specs.tokens.Acceptor.{User, user_named}
use Rattle.spec_crypto.specs.tokens.Answer.{Credentials}

-- 8 and 16 random bytes, and a name in ASCII
pub record IsClient (c : Credentials) : Type 0 where
  pub challenge : length c.challenge ≡ 8
  pub key : length c.key ≡ 16
  pub ascii : IsAscii c.user

-- the first user of the name has the password
pub record IsItsUser (c : Credentials) (users : List User) (u : User) : Type 0 where
  pub named : user_named (utf16 c.user) users ≡ Some u
  pub password : u.password ≡ c.password
