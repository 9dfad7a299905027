-- A reply tells the tree of its request, or one whose id is at most the last one; which one isn't said (MS-SMB2 3.3.5.7).
use Rattle.std.specs.Prelude.{◌≡◌, ◌⊎◌, ℕ, ◌≤◌, ◌<◌, ◌^◌, List, None}
use Rattle.spec_exchange.specs.Status.{success}
use Rattle.spec_exchange.specs.Commands.{TreeConnect}
use Rattle.spec_exchange.specs.CheckSetup.{last_tree}
use Rattle.spec_exchange.specs.State.{Message, Body, Answer, Connected}
use Rattle.spec_exchange.specs.Network.{World, Sent, answer}

abbrev pub TellsTree : Message → Answer → Type 0
TellsTree m A = (A.reply.tree_id ≡ m.tree_id) ⊎ (A.reply.tree_id ≤ last_tree)

abbrev pub TreesAreTold : Type 0
TreesAreTold = (w : World) (x : Sent) → TellsTree x.message (answer w x)

-- the success of a TREE_CONNECT tells a kind, capabilities and an access that fit their fields
abbrev pub IsConnected : Body → Type 0
IsConnected b =
    (kind : ℕ) × (capabilities : ℕ) × (access : ℕ) × (b ≡ Connected kind capabilities access) × (kind < 256) × (capabilities < 256 ^ 4)
    × (access < 256 ^ 4)

abbrev pub TreesAreConnected : Type 0
TreesAreConnected =
    (w : World) (x : Sent) (share : List ℕ) → x.message.command ≡ TreeConnect share → x.message.fault ≡ None →
    (answer w x).reply.status ≡ success →
    IsConnected (answer w x).reply.body
