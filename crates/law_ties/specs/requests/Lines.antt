-- What keeps ends tied behind a Serve of a line's request.
use Rattle.std.specs.Prelude.{◌≡◌, ℕ, ◌+◌, ◌^◌, ◌<◌, ◌≤◌, Bool, true, false, List, ◌∷◌, length}
use Rattle.spec_exchange.specs.Status.{success}
use Rattle.spec_exchange.specs.Commands.{Command, Aside, Setup, TreeConnect}
use Rattle.spec_exchange.specs.State.{Reply, Empty, Connected}
use Rattle.spec_exchange.specs.Operations.{Op, request_of}
use Rattle.spec_exchange.specs.Network.{Serve, Crash, Sent, Token, ForDialog, ForOp, ForAttach, answer}
use Rattle.spec_commands.specs.ReplyBody.{reply_body}
use Rattle.law_commands.specs.commands.Fitting.{IsFittingAnswer}
use Rattle.spec_world.specs.Settings.{WorldSettings}
use Rattle.spec_world.specs.World.{World}
use Rattle.spec_world.specs.Events.{Plain, bytes_happen}
use Rattle.law_ties.specs.wire_facts.Lawful.{IsLawful}
use Rattle.law_ties.specs.events.Links.{is_lined, IsTied}

-- neither NEGOTIATE nor SESSION_SETUP, nor what else the connection answers by itself
abbrev pub is_lines : Command → Bool
is_lines (Aside status) = false
is_lines (Setup request) = false
is_lines _ = true

-- the reply fits its header, and with its body a frame
pub record ReplyFits (c : Command) (r : Reply) : Type 0 where
  pub status : r.status < 256 ^ 4
  pub session : r.session_id < 256 ^ 8
  pub tree : r.tree_id < 256 ^ 4
  pub short : (token : List ℕ) → 64 + length (reply_body token c r) ≤ 1114060

-- a success has the body that an operation's has, and a refusal none
pub record TellsOperation (op : Op) (c : Command) (r : Reply) : Type 0 where
  pub guid : ℕ
  pub file : ℕ
  pub slot : ℕ
  pub number : ℕ
  pub command : c ≡ request_of op guid file slot number
  pub told : r.status ≡ success → IsFittingAnswer op r.body
  pub refused : (r.status ≡ success → ⊥) → r.body ≡ Empty

pub record LineTellsTree (z : WorldSettings) (c : Command) (r : Reply) : Type 0 where
  pub command : c ≡ TreeConnect z.share
  pub told :
      r.status ≡ success →
      (kind : ℕ) × (capabilities : ℕ) × (access : ℕ) × (r.body ≡ Connected kind capabilities access) × (kind < 256)
      × (capabilities < 256 ^ 4) × (access < 256 ^ 4)

abbrev pub TellsToken : WorldSettings → (ℕ → Op) → Token → Command → Reply → Type 0
TellsToken z op ForDialog c r = LineTellsTree z c r
TellsToken z op (ForOp g) c r = TellsOperation (op g) c r
TellsToken z op (ForAttach g) c r = Unit {0}

pub record IsLineFront (z : WorldSettings) (w : World) (k : ℕ) (x : Sent) : Type 0 where
  pub line : is_lines x.message.command ≡ true
  pub lined : (w.values.conns k).client_open ≡ true → is_lined (w.wires k).client_end.stage ≡ true
  pub fits : ReplyFits x.message.command (answer w.values x).reply
  pub tells : TellsToken z w.values.client.op x.token x.message.command (answer w.values x).reply

abbrev pub LineServesAreKept : Type 0
LineServesAreKept =
    (z : WorldSettings) (w : World) (k : ℕ) (x : Sent) (xs : List Sent) → IsLawful z → IsTied z w →
    (w.values.conns k).server_open ≡ true → (w.values.conns k).up ≡ x ∷ xs → IsLineFront z w k x →
    IsTied z (bytes_happen z w (Plain (Serve k)))

-- ---- a Crash that keeps such a request: what the server took stands, and every server's end closes

abbrev pub LineCrashesAreKept : Type 0
LineCrashesAreKept =
    (z : WorldSettings) (w : World) (k : ℕ) (x : Sent) (xs : List Sent) → IsTied z w → (w.values.conns k).server_open ≡ true →
    (w.values.conns k).up ≡ x ∷ xs → is_lines x.message.command ≡ true → IsTied z (bytes_happen z w (Plain (Crash k true)))
