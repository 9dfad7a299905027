-- The connection behind the replies of a frame, in code.
use Rattle.std.specs.Prelude.{◌≡◌, ℕ, List, Option, Some, None, ⊤}
use Rattle.spec_crypto.specs.sessions.Nonces.{NonceState}
use Rattle.spec_world.specs.Ends as ends
use Rattle.spec_world.specs.Answering as answering
use Rattle.conn_core.specs.declared.logon_state.behind.Behind.{Behind}
use Rattle.conn_core.specs.declared.conn.Logon.{Logon}
use Rattle.conn_core.specs.declared.conn.Progress.{Progress}
use Rattle.conn_core.specs.declared.conn.Progress.TheVariants.{Interim}
use Rattle.conn_core.specs.Shown.{ShowsGreeting, ShowsMaking, AreKnown}

pub record ShowsLogon (l : Logon) (f : ends.ServerEnd) : Type 0 where
  pub greeting : ShowsGreeting l.greeting f.greeting
  pub making : ShowsMaking l.making f.making
  pub keys : f.keys ≡ l.keys
  pub known : AreKnown l.keys
  pub encrypts : f.encrypts ≡ l.encrypts

-- the nonces go on, or begin anew on a channel that was made
abbrev pub GoOn : NonceState → Option ℕ → ℕ → ℕ → Type 0
GoOn nonces None channel counter = (channel ≡ nonces.channel) × (counter ≡ nonces.counter)
GoOn nonces (Some made) channel counter = (channel ≡ made) × (counter ≡ 0)

abbrev pub NoncesBehind : NonceState → Option ℕ → ends.ServerEnd → Type 0
NoncesBehind nonces made f = GoOn nonces made f.channel f.counter

pub record ShowsBehind (nonces : NonceState) (b : Behind) (f : ends.ServerEnd) : Type 0 where
  pub logon : ShowsLogon b.logon f
  pub nonces_are : NoncesBehind nonces b.channel f

-- the request of an interim response stands as it was heard
abbrev pub IsHashed : Progress → answering.SaidReply → List ℕ → Type 0
IsHashed (Interim signer) s request = s.request.raw ≡ request
IsHashed _ s request = ⊤
