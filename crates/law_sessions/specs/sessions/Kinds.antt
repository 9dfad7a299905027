-- Of which kind this client's trees and opens are: its only share is that of the pipes or it isn't.
use Rattle.std.specs.Prelude.{◌≡◌, ℕ, Bool, true, false, List, Some, slice_get}
use Rattle.spec_exchange.specs.Texts.{same_name}
use Rattle.spec_exchange.specs.Commands.{TreeConnect}
use Rattle.spec_exchange.specs.State.{Server}
use Rattle.spec_exchange.specs.CheckSetup.{tree_in, pipes_name}
use Rattle.spec_exchange.specs.Client.{Client}
use Rattle.spec_exchange.specs.Network.{Conn, Sent}

-- a TREE_CONNECT that waits asks for the client's share
abbrev pub SharesUp : Client → (ℕ → Conn) → Type 0
SharesUp c conns = (k n : ℕ) (x : Sent) (share : List ℕ) → slice_get (conns k).up n ≡ Some x → x.message.command
    ≡ TreeConnect share → share ≡ c.who.share

-- a session's tree is that of the pipes exactly where the client's share is
abbrev pub TreeKinds : Client → Server → Type 0
TreeKinds c s = (x id : ℕ) (b : Bool) → tree_in (s.trees x) id ≡ Some b → b ≡ same_name c.who.share pipes_name

-- an open stands only where the client's share isn't that of the pipes
abbrev pub OpenKind : Client → Server → Type 0
OpenKind c s = (o : ℕ) → s.standing o ≡ true → same_name c.who.share pipes_name ≡ false

pub record Kinds (c : Client) (conns : ℕ → Conn) (s : Server) : Type 0 where
  pub shares_up : SharesUp c conns
  pub tree_kinds : TreeKinds c s
  pub open_kind : OpenKind c s
