-- What holds of the client's ends, and of what they put up, in repeat runs.
use Rattle.std.specs.Prelude.{◌≡◌, ℕ, ◌≤◌, ◌<◌, Bool, true, false, List, Some, slice_get}
use Rattle.spec_exchange.specs.Commands.{Command, TreeConnect}
use Rattle.spec_exchange.specs.Network.{Sent, Token, ForDialog}
use Rattle.spec_world.specs.Settings.{WorldSettings}
use Rattle.law_ties.specs.channel_numbers.Counted.{Counted}
use Rattle.spec_hostile.specs.RepeatRuns.{RepeatEvent, UpFrame}
use Rattle.spec_hostile.specs.HostileNetwork.{repeated}

-- channels that are ready and dialogs on their way, at both the client and its ends
abbrev pub ChannelsAreCounted : Type 0
ChannelsAreCounted = (z : WorldSettings) (es : List RepeatEvent) → Counted (repeated z es).world

-- an operation's request, or a TREE_CONNECT
abbrev pub goes_on_line : Token → Command → Bool
goes_on_line ForDialog (TreeConnect share) = true
goes_on_line ForDialog _ = false
goes_on_line _ _ = true

-- a dialog has the message ids 0, 1 and 2 on each connection, and a line those above
abbrev pub HasItsId : Sent → Type 0
HasItsId x =
    (goes_on_line x.token x.message.command ≡ false → x.message.message_id < 3)
    × (goes_on_line x.token x.message.command ≡ true → 3 ≤ x.message.message_id)

-- each NEGOTIATE and SESSION_SETUP that was put up, and each request of a line
abbrev pub DialogsComeFirst : Type 0
DialogsComeFirst =
    (z : WorldSettings) (es : List RepeatEvent) (i : ℕ) (u : UpFrame) → slice_get (repeated z es).ups i ≡ Some u → HasItsId u.sent

-- it was put up on this connection for its present opening, under this id
pub record WasPutUnder (us : List UpFrame) (k opened n : ℕ) (t : Token) : Type 0 where
  pub index : ℕ
  pub put : UpFrame
  pub at : slice_get us index ≡ Some put
  pub connection : put.connection ≡ k
  pub opening : put.opening ≡ opened
  pub id : put.sent.message.message_id ≡ n
  pub token : put.sent.token ≡ t

-- each operation's request whose response an end waits for
abbrev pub AwaitedWasPut : Type 0
AwaitedWasPut =
    (z : WorldSettings) (es : List RepeatEvent) (k id : ℕ) (token : Token)
    → ((repeated z es).world.wires k).client_end.awaited id ≡ Some token → (token ≡ ForDialog → ⊥)
    → WasPutUnder (repeated z es).ups k ((repeated z es).openings k) id token
