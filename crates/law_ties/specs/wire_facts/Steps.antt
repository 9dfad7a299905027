-- What is said of runs without tampering, of settings that fit.
use Rattle.std.specs.Prelude.{◌≡◌, ℕ, ◌+◌, ◌<◌, ◌^◌, true, false, List, [], ◌∷◌, Option, Some}
use Rattle.spec_exchange.specs.State.{Reply}
use Rattle.spec_exchange.specs.Client.{Stage, Apart}
use Rattle.spec_exchange.specs.Network.{Event, Submit, Restart, Crash, Received, Token, ForDialog, ForOp, ForAttach}
use Rattle.spec_commands.specs.ReplyOf.{reply_of}
use Rattle.law_commands.specs.commands.Fitting.{IsHeardAlike}
use Rattle.spec_world.specs.Settings.{WorldSettings}
use Rattle.spec_world.specs.Messages.{HeardMessage}
use Rattle.spec_world.specs.Ends.{ClientEnd}
use Rattle.spec_world.specs.Dialog.{line_response, dialog_response}
use Rattle.spec_world.specs.World.{World, command_asked}
use Rattle.spec_world.specs.Statements.{plain_run, IsInStep, RequestsAreHeard, NoncesOnce, AcceptedIsMade, SealsAreKept}
use Rattle.law_ties.specs.wire_facts.Fitting.{IsFitting}

-- ---- the front of what comes down is heard as the reply that the server's step gave

pub record IsSameReply (x : HeardMessage) (r : Reply) : Type 0 where
  pub status : x.header.status ≡ r.status
  pub session : x.header.session ≡ r.session_id
  pub tree : x.header.tree ≡ r.tree_id

abbrev pub IsHeardFor : World → HeardMessage → Reply → Token → Type 0
IsHeardFor w x r ForDialog = Unit {0}
IsHeardFor w x r (ForOp g) =
    IsHeardAlike (w.values.client.op g) (reply_of (command_asked w.values.client g false) x.header x.bytes).body r.body
IsHeardFor w x r (ForAttach g) = Unit {0}

pub record IsHeardReply (w : World) (n : ClientEnd) (y : Received) (x : HeardMessage) : Type 0 where
  pub awaited : n.awaited x.header.message ≡ Some y.token
  pub same : IsSameReply x y.reply
  pub body : IsHeardFor w x y.reply y.token

abbrev pub response_at : ClientEnd → Stage → List ℕ → Option HeardMessage
response_at n Apart frame = line_response n frame
response_at n stage frame = dialog_response n stage frame

abbrev pub RepliesAreHeard : World → Type 0
RepliesAreHeard w =
    (k : ℕ) (b : List ℕ) (bs : List (List ℕ)) (y : Received) (ys : List Received) →
    (w.values.conns k).client_open ≡ true → (w.wires k).down ≡ b ∷ bs → (w.values.conns k).down ≡ y ∷ ys →
    (x : HeardMessage) × (response_at (w.wires k).client_end (w.wires k).client_end.stage b ≡ Some x)
    × IsHeardReply w (w.wires k).client_end y x

-- ---- over every run without tampering, of fewer restarts than an epoch of 32 bits has values, and of no more operations than a CreateGuid
-- has numbers for: 8 of its 16 bytes are the operation's

unfoldable pub restarts_in : List Event → ℕ
restarts_in [] = 0
restarts_in (Restart ∷ es) = 1 + restarts_in es
restarts_in (Crash k kept ∷ es) = 1 + restarts_in es
restarts_in (e ∷ es) = restarts_in es

unfoldable pub submits_in : List Event → ℕ
submits_in [] = 0
submits_in (Submit g op ∷ es) = 1 + submits_in es
submits_in (e ∷ es) = submits_in es

pub record LawfulSteps (z : WorldSettings) (events : List Event) : Type 0 where
  pub in_step : IsInStep z events
  pub requests : RequestsAreHeard z (plain_run z events)
  pub replies : RepliesAreHeard (plain_run z events)
  pub nonces : NoncesOnce (plain_run z events)
  pub accepted : AcceptedIsMade (plain_run z events)
  pub seals : SealsAreKept (plain_run z events)

abbrev pub StepLaw : Type 0
StepLaw =
    (z : WorldSettings) → IsFitting z → (events : List Event) → restarts_in events < 4294967295 → submits_in events < 2 ^ 64
    → LawfulSteps z events
