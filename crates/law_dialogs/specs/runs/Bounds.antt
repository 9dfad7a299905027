-- What is left to say of the values for every run over bytes without tampering to be one of the model, and the statement given that.
use Rattle.std.specs.Prelude.{◌≡◌, ℕ, ◌+◌, ◌==◌, ◌^◌, ◌<◌, ◌≤◌, nat_le, Bool, true, false, List, ◌∷◌, ◌++◌, length, Option}
use Rattle.spec_exchange.specs.Status.{success}
use Rattle.spec_exchange.specs.Commands.{Logon, TreeConnect}
use Rattle.spec_exchange.specs.Operations.{weight, charge}
use Rattle.spec_exchange.specs.Client.{SaidSecond, own_message, ask_message}
use Rattle.spec_exchange.specs.ClientStep.{Pick, Pushes, Sends, Asks, client_after, act}
use Rattle.spec_exchange.specs.Network.{Event, Sent, Received, ForDialog, answer, run, start}
use Rattle.spec_wire.specs.credits.Ids.{counted}
use Rattle.spec_commands.specs.BodyOf.{body_of}
use Rattle.spec_commands.specs.ReplyBody.{seals_in}
use Rattle.spec_crypto.specs.sessions.Derivation.{known}
use Rattle.spec_world.specs.Settings.{WorldSettings, chosen_of, logon_of, values_of}
use Rattle.spec_world.specs.World.{World, greeting_of, paid}
use Rattle.spec_world.specs.Events.{bytes_start}
use Rattle.spec_world.specs.Statements.{plain_run, value_events, IsInStep, RequestsAreHeard}
use Rattle.law_ties.specs.wire_facts.Lawful.{IsLawful}
use Rattle.law_ties.specs.events.Links.{is_lined, IsTied}
use Rattle.law_ties.specs.requests.Lines.{is_lines, ReplyFits, TellsToken}
use Rattle.law_ties.specs.requests.Sending.{IsLineMessage}
use Rattle.law_dialogs.specs.dialog_requests.Serving.{ReplyHeaderFits}
use Rattle.law_dialogs.specs.dialog_responses.Talking.{goes_on}

-- what goes up at a push, where it is paid for, fits and reads back
pub record PushBounds (z : WorldSettings) (w : World) (k : ℕ) (slotless : List ℕ) (pick : Option Pick) : Type 0 where
  pub sends :
      (g : ℕ) → act w.values.client (Pushes k slotless pick) ≡ Sends g →
      nat_le (counted (charge (weight ((client_after w.values.client (Pushes k slotless pick)).op g)))) (w.wires k).client_end.purse.held
      ≡ true →
      IsLineMessage z (w.wires k).client_end k
      (own_message (client_after w.values.client (Pushes k slotless pick)) k (w.wires k).client_end.purse.next g)
      (charge (weight ((client_after w.values.client (Pushes k slotless pick)).op g)))
  pub asks :
      (g : ℕ) → act w.values.client (Pushes k slotless pick) ≡ Asks g → nat_le (counted 1) (w.wires k).client_end.purse.held ≡ true →
      IsLineMessage z (w.wires k).client_end k
      (ask_message (client_after w.values.client (Pushes k slotless pick)) k (w.wires k).client_end.purse.next g) 1

-- the answer to a line's request fits, and tells what its operation, or the TREE_CONNECT, asked
pub record LineBounds (z : WorldSettings) (w : World) (x : Sent) : Type 0 where
  pub fits : ReplyFits x.message.command (answer w.values x).reply
  pub tells : TellsToken z w.values.client.op x.token x.message.command (answer w.values x).reply

-- a NEGOTIATE or SESSION_SETUP is of a dialog whose end is no line yet, and its answer fits; a success is that of the settings' user, and
-- seals where there is a cipher
pub record DialogBounds (z : WorldSettings) (w : World) (k : ℕ) (x : Sent) : Type 0 where
  pub own : x.token ≡ ForDialog
  pub unlined : (w.values.conns k).client_open ≡ true → is_lined (w.values.client.stage k) ≡ false
  pub fits : ReplyHeaderFits (answer w.values x).reply
  pub moment : w.values.moment < 256 ^ 8
  pub logs_on :
      (w.values.conns k).client_open ≡ true → (bound : Bool) → w.values.client.stage k ≡ SaidSecond bound →
      (answer w.values x).reply.status ≡ success → (user : List ℕ) × (logon_of z ≡ Logon user)
  pub seals : seals_in (answer w.values x).reply.body ≡ true → (known (chosen_of z.client).cipher == 0) ≡ false

-- the ids of the client's sessions fit, and so does the one that it is told
pub record GoingBounds (w : World) (y : Received) : Type 0 where
  pub session : w.values.client.session < 256 ^ 8
  pub accepted : w.values.client.accepted < 256 ^ 8
  pub pending : w.values.client.pending < 256 ^ 8
  pub told : y.reply.session_id < 256 ^ 8

-- the id of the session that is accepted fits, and its TREE_CONNECT fits a frame
pub record AcceptingBounds (z : WorldSettings) (w : World) : Type 0 where
  pub pending : w.values.client.pending < 2 ^ 64
  pub short : 64 + length (body_of (TreeConnect z.share)) ≤ 1114060

-- numbers fit their fields and messages their frames, what waits is of whom it may be of, and an answer tells what was asked
pub record RunBounds (z : WorldSettings) (w : World) : Type 0 where
  pub opens : (k : ℕ) → length (greeting_of z w k) ≤ 66000
  pub pushes :
      (k : ℕ) (slotless : List ℕ) (pick : Option Pick) → w.values.client.ready k ≡ true →
      PushBounds z w k slotless (paid w k slotless pick)
  pub lines :
      (k : ℕ) (x : Sent) (xs : List Sent) → (w.values.conns k).server_open ≡ true → (w.values.conns k).up ≡ x ∷ xs →
      is_lines x.message.command ≡ true → LineBounds z w x
  pub dialogs :
      (k : ℕ) (x : Sent) (xs : List Sent) → (w.values.conns k).server_open ≡ true → (w.values.conns k).up ≡ x ∷ xs →
      is_lines x.message.command ≡ false → DialogBounds z w k x
  pub going :
      (k : ℕ) (y : Received) (ys : List Received) → (w.values.conns k).client_open ≡ true → (w.values.conns k).down ≡ y ∷ ys →
      goes_on (w.values.client.stage k) ≡ true → GoingBounds w y
  pub accepting :
      (k : ℕ) → (w.values.conns k).client_open ≡ true → w.values.client.stage k ≡ SaidSecond false → AcceptingBounds z w

-- of each world to which a run of these events without tampering comes before one of them, whose ends are tied and which is in step so far
abbrev pub AreRunsBounded : WorldSettings → List Event → Type 0
AreRunsBounded z events =
    (before after : List Event) (e : Event) (w : World) → before ++ e ∷ after ≡ events → w ≡ plain_run z before →
    w.values ≡ run (value_events z (bytes_start z) before) (start (values_of z)) → IsTied z w → RunBounds z w

pub record RunsInStep (z : WorldSettings) (events : List Event) : Type 0 where
  pub in_step : IsInStep z events
  pub requests : RequestsAreHeard z (plain_run z events)
  pub tied : IsTied z (plain_run z events)

abbrev pub RunsGoInStep : Type 0
RunsGoInStep = (z : WorldSettings) (events : List Event) → IsLawful z → AreRunsBounded z events → RunsInStep z events
