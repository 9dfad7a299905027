-- What holds of both ends and of the final responses in every world of a run, tampered with or not.
use Rattle.std.specs.Prelude.{◌≡◌, ℕ, true, Bool, List, length, Option, Some, None, is_some, slice_get}
use Rattle.spec_exchange.specs.State.{Making}
use Rattle.spec_exchange.specs.Client.{Stage, SaidNegotiate, SaidFirst, SaidSecond}
use Rattle.spec_exchange.specs.Network.{Conn}
use Rattle.spec_world.specs.Ends.{ClientEnd, ServerEnd, Greeting}
use Rattle.spec_world.specs.Answering.{Ending}
use Rattle.spec_world.specs.World.{World, Wires}
use Rattle.spec_world.specs.Statements.{IsWhole, IsVerified}

-- ---- how many messages are hashed at each stage

abbrev pub ClientFits : Stage → List (List ℕ) → Type 0
ClientFits (SaidNegotiate bound) t = length t ≡ 1
ClientFits (SaidFirst bound) t = length t ≡ 3
ClientFits (SaidSecond bound) t = length t ≡ 5
ClientFits _ t = Unit {0}

abbrev pub GreetingFits : Option Greeting → Type 0
GreetingFits None = Unit {0}
GreetingFits (Some g) = length g.transcript ≡ 2

abbrev pub MakingFits : Option (List (List ℕ)) → Type 0
MakingFits None = Unit {0}
MakingFits (Some t) = length t ≡ 4

pub record EndsFit (n : ClientEnd) (f : ServerEnd) : Type 0 where
  pub client : ClientFits n.stage n.transcript
  pub greeting : GreetingFits f.greeting
  pub making : MakingFits f.making

-- where the server has something in the making, its end is open and has the four messages
pub record IsSynced (server_open : Bool) (making : Option Making) (f : ServerEnd) : Type 0 where
  pub opened : is_some making ≡ true → server_open ≡ true
  pub held : is_some making ≡ true → is_some f.making ≡ true

abbrev pub AreWhole : List Ending → Type 0
AreWhole es = (i : ℕ) (e : Ending) → slice_get es i ≡ Some e → IsWhole e

abbrev pub AreVerified : List Ending → Type 0
AreVerified es = (i : ℕ) (a : Ending) → slice_get es i ≡ Some a → IsWhole a × IsVerified a

pub record NegotiationKept (wires : ℕ → Wires) (conns : ℕ → Conn) (making : ℕ → Option Making) (made accepted : List Ending) : Type 0 where
  pub fits : (k : ℕ) → EndsFit (wires k).client_end (wires k).server_end
  pub synced : (k : ℕ) → IsSynced (conns k).server_open (making k) (wires k).server_end
  pub made_whole : AreWhole made
  pub accepted_whole : AreVerified accepted

abbrev pub NegotiationKeeps : World → Type 0
NegotiationKeeps w = NegotiationKept w.wires w.values.conns w.values.server.making w.made w.accepted
