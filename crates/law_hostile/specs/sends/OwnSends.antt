-- What the client sends at the events of a repeat run: the model's own messages, of the client as it stands there.
use Rattle.std.specs.Prelude.{◌≡◌, ℕ, true, false, List, ◌∷◌, ◌++◌, Option, Some, None, slice_get}
use Rattle.spec_exchange.specs.State.{Reply}
use Rattle.spec_exchange.specs.Client.{Client, SaidNegotiate, AskedTree, own_message, ask_message}
use Rattle.spec_exchange.specs.ClientStep.{Pick, Act, Sends, Asks, Pushes, act, client_after}
use Rattle.spec_exchange.specs.Dialogs.{DialogStep, GoesOn, Accepts, dialog_step, dialog_message, went_on, accepted}
use Rattle.spec_exchange.specs.Network.{Sent, ForDialog, ForOp, ForAttach, Open, Push, is_possible}
use Rattle.spec_world.specs.Settings.{WorldSettings}
use Rattle.spec_world.specs.Messages.{HeardMessage}
use Rattle.spec_world.specs.Dialog.{dialog_response, dialog_fault}
use Rattle.spec_world.specs.World.{paid, dialog_reply}
use Rattle.spec_hostile.specs.RepeatRuns.{RepeatWorld, RepeatEvent, Same, Give, UpFrame, DownFrame, is_heard, repeat_happens}
use Rattle.spec_hostile.specs.HostileNetwork.{repeated}

-- on connection k, under this message id, by the client behind the push: the operation itself, or what attaches its open
abbrev pub PushSends : ℕ → ℕ → Client → Act → Sent → Type 0
PushSends k id c (Sends g) x = x ≡ record { token = ForOp g; message = own_message c k id g }
PushSends k id c (Asks g) x = x ≡ record { token = ForAttach g; message = ask_message c k id g }
PushSends k id c _ x = ⊥

-- by a response of a dialog: its next SESSION_SETUP, or the TREE_CONNECT of the session that it accepts
abbrev pub DialogSends : ℕ → ℕ → Client → Reply → DialogStep → Sent → Type 0
DialogSends k id c r (GoesOn next) x = x ≡ record { token = ForDialog; message = dialog_message (went_on c k next r) k id next }
DialogSends k id c r Accepts x = x ≡ record { token = ForDialog; message = dialog_message (accepted c k) k id AskedTree }
DialogSends k id c r _ x = ⊥

-- The client sends this on connection k at an event: it opens the connection; or its channel is ready, and it pushes what is paid for; or
-- its dialog hears the response that is due, without a fault.
pub data SendsAt (z : WorldSettings) (r : RepeatWorld) (k : ℕ) (x : Sent) : RepeatEvent → Type 0 where
  AtOpen : is_possible r.world.values (Open k) ≡ true
      → x ≡ record { token = ForDialog; message = dialog_message r.world.values.client k 0 (SaidNegotiate r.world.values.client.live) }
      → SendsAt z r k x (Same (Open k))
  AtPush : (slotless : List ℕ) (pick : Option Pick)
      → r.world.values.client.ready k ≡ true
      → PushSends k (r.world.values.conns k).next_id
      (client_after r.world.values.client (Pushes k slotless (paid r.world k slotless pick)))
      (act r.world.values.client (Pushes k slotless (paid r.world k slotless pick))) x
      → SendsAt z r k x (Same (Push k slotless pick))
  AtResponse : (place : ℕ) (d : DownFrame) (y : HeardMessage) → slice_get r.downs place ≡ Some d → is_heard r.world k ≡ true
      → dialog_response (r.world.wires k).client_end (r.world.wires k).client_end.stage d.frame ≡ Some y
      → dialog_fault z.client (r.world.wires k).client_end (r.world.wires k).client_end.stage y ≡ None
      → DialogSends k (r.world.values.conns k).next_id r.world.values.client
      (dialog_reply r.world (r.world.wires k).client_end.stage y)
      (dialog_step (r.world.wires k).client_end.stage y.header.status) x
      → SendsAt z r k x (Give k false place)

-- at one event of the run, for the opening of its connection behind it
pub record WasSent (z : WorldSettings) (es : List RepeatEvent) (u : UpFrame) : Type 0 where
  pub before : List RepeatEvent
  pub event : RepeatEvent
  pub after : List RepeatEvent
  pub run : es ≡ before ++ event ∷ after
  pub sends : SendsAt z (repeated z before) u.connection u.sent event
  pub opening : u.opening ≡ (repeat_happens z (repeated z before) event).openings u.connection

-- each frame that was put up
abbrev pub OwnSends : Type 0
OwnSends = (z : WorldSettings) (es : List RepeatEvent) (i : ℕ) (u : UpFrame) → slice_get (repeated z es).ups i ≡ Some u → WasSent z es u
