-- The client's own events leave the server and its logons as they are.
use Rattle.std.proofs.Common.{◌≡◌, ℕ, ◌==◌, Bool, true, false, if◌then◌else◌, List, [], ◌∷◌, refl, Option, Some, None}
use Rattle.spec_exchange.specs.Operations.{Refusal, BadToken, HadStatus}
use Rattle.spec_exchange.specs.Client.{Client, Stage, Apart, SaidNegotiate, SaidFirst, SaidSecond, AskedTree}
use Rattle.spec_exchange.specs.ClientStep.{Pick, Act, Nothing, Sends, Asks, CloseChannel, CloseChannels, AllSettled, Pushes, Hears, IsCut}
use Rattle.spec_exchange.specs.ClientStep.{IsReady, IsRefused, client_after, act}
use Rattle.spec_exchange.specs.Dialogs.{DialogStep, GoesOn, Accepts, Binds, Readies, Refuses, dialog_step, went_on}
use Rattle.spec_exchange.specs.Network.{Received, Token, ForDialog, ForOp, ForAttach, with_client, cut_off}
use Rattle.spec_commands.specs.ReplyOf.{reply_of}
use Rattle.law_server.proofs.tables.Logic.{either}
use Rattle.spec_world.specs.Settings.{WorldSettings}
use Rattle.spec_world.specs.Messages.{HeardMessage}
use Rattle.spec_world.specs.Dialog.{status_due, dialog_fault, paid_in, noted_heard, line_response, dialog_response}
use Rattle.spec_world.specs.World.{World, with_values, with_client_end, off_by, one_off, closed_wires, cut_wires, op_heard, line_heard}
use Rattle.spec_world.specs.World.{line_hears, command_asked, dialog_off, dialog_went, channel_bound, dialog_reply}
use Rattle.spec_world.specs.World.{dialog_wires, pushed_wires}
use Rattle.spec_world.specs.World.{pushed_with, next_token, dialog_passed, dialog_hears, hears, behind_frame, take_frame}
use Rattle.law_nonces.proofs.negotiation.Values.{pushed_only, cut_only, ended_only, op_only, dialog_only}

pub record IsStill (w x : World) : Type 0 where
  pub server : x.values.server ≡ w.values.server
  pub logons : x.logons ≡ w.logons

-- ---- logons

closed_logons : (x : World) (k : ℕ) (a : Act) → (closed_wires x k a).logons ≡ x.logons
closed_logons x k CloseChannels = refl
closed_logons x k CloseChannel = refl
closed_logons x k Nothing = refl
closed_logons x k (Sends g) = refl
closed_logons x k (Asks g) = refl
closed_logons x k AllSettled = refl

off_logons : (x : World) (k : ℕ) (a : Act) → (off_by x k a).logons ≡ x.logons
off_logons x k CloseChannels = refl
off_logons x k CloseChannel = refl
off_logons x k Nothing = refl
off_logons x k (Sends g) = refl
off_logons x k (Asks g) = refl
off_logons x k AllSettled = refl

pushed_logons : (w : World) (k : ℕ) (c : Client) (a : Act) → (pushed_wires w k c a).logons ≡ w.logons
pushed_logons w k c (Sends g) = refl
pushed_logons w k c (Asks g) = refl
pushed_logons w k c Nothing = refl
pushed_logons w k c CloseChannel = refl
pushed_logons w k c CloseChannels = refl
pushed_logons w k c AllSettled = refl

went_logons : (x : World) (k : ℕ) (stage : Stage) (token : List ℕ) → (dialog_went x k stage token).logons ≡ x.logons
went_logons x k (SaidFirst bound) token = refl
went_logons x k (SaidSecond bound) token = refl
went_logons x k Apart token = refl
went_logons x k (SaidNegotiate bound) token = refl
went_logons x k AskedTree token = refl

step_logons : (z : WorldSettings) (w : World) (k : ℕ) (stage : Stage) (x : HeardMessage) (s : DialogStep)
    → (dialog_wires z w k stage x s).logons ≡ w.logons
step_logons z w k stage x (GoesOn next) =
    let n = (w.wires k).client_end in
    let c = went_on w.values.client k next (dialog_reply w stage x) in
    went_logons (with_client_end (with_values w (with_client w.values c)) k (noted_heard n stage x)) k next (next_token z n next x.bytes)
step_logons z w k stage x Accepts = refl
step_logons z w k stage x Binds =
    closed_logons (channel_bound w k x) k (act w.values.client (IsReady k w.values.client.session w.values.client.tree))
step_logons z w k stage x Readies =
    closed_logons (with_client_end w k (record (paid_in (w.wires k).client_end x.header) { stage = Apart })) k
    (act w.values.client (IsReady k w.values.client.pending (dialog_reply w stage x).tree_id))
step_logons z w k stage x (Refuses status) = closed_logons w k (act w.values.client (IsRefused k (HadStatus status)))

-- ---- each event

pub push_still : (w : World) (k : ℕ) (slotless : List ℕ) (pick : Option Pick) → IsStill w (pushed_with w k slotless pick)
push_still w k slotless pick =
    let c = client_after w.values.client (Pushes k slotless pick) in
    let a = act w.values.client (Pushes k slotless pick) in
    let only = pushed_only w.values k c a in
    record { server = only.server; logons = pushed_logons w k c a }

pub cut_still : (w : World) (k : ℕ) → IsStill w (cut_wires w k)
cut_still w k =
    let only = cut_only w.values k in
    either (IsStill w) (w.values.client.ready k) (with_values (off_by w k (act w.values.client (IsCut k))) (cut_off w.values k))
    (with_values (one_off w k) (cut_off w.values k))
    (λ _. record { server = only.server; logons = off_logons w k (act w.values.client (IsCut k)) })
    (λ _. record { server = only.server; logons = refl })

op_still : (w : World) (k g : ℕ) (asking : Bool) (x : HeardMessage) (place : ℕ) → IsStill w (op_heard w k g asking x place)
op_still w k g asking x place =
    let r = reply_of (command_asked w.values.client g asking) x.header x.bytes in
    let only = op_only w.values k g asking r place in
    record {
      server = only.server;
      logons = closed_logons (with_client_end w k (paid_in (w.wires k).client_end x.header)) k
          (act w.values.client (Hears k g asking r place));
    }

on_line : (w : World) (k : ℕ) (x : HeardMessage) (place : ℕ) (t : Option Token) → IsStill w (line_heard w k x place t)
on_line w k x place None = cut_still w k
on_line w k x place (Some ForDialog) = cut_still w k
on_line w k x place (Some (ForOp g)) = op_still w k g false x place
on_line w k x place (Some (ForAttach g)) = op_still w k g true x place

lines : (w : World) (k place : ℕ) (o : Option HeardMessage) → IsStill w (line_hears w k place o)
lines w k place None = cut_still w k
lines w k place (Some x) = on_line w k x place ((w.wires k).client_end.awaited x.header.message)

refused : (w : World) (k : ℕ) (why : Refusal) → IsStill w (dialog_off w k why)
refused w k why =
    let only = ended_only w.values k (IsRefused k why) in
    record { server = only.server; logons = closed_logons w k (act w.values.client (IsRefused k why)) }

passed : (z : WorldSettings) (w : World) (k : ℕ) (stage : Stage) (x : HeardMessage) (o : Option Refusal)
    → IsStill w (dialog_passed z w k stage x o)
passed z w k stage x (Some why) = refused w k why
passed z w k stage x None =
    let s = dialog_step stage x.header.status in
    let only = dialog_only w.values k (dialog_reply w stage x) s in
    record { server = only.server; logons = step_logons z w k stage x s }

heard : (z : WorldSettings) (w : World) (k : ℕ) (stage : Stage) (o : Option HeardMessage) → IsStill w (dialog_hears z w k stage o)
heard z w k stage None = refused w k BadToken
heard z w k stage (Some x) =
    passed z w k stage x (if x.header.status == status_due stage then dialog_fault z.client (w.wires k).client_end stage x else None)

by_stage : (z : WorldSettings) (w : World) (k : ℕ) (b : List ℕ) (place : ℕ) (stage : Stage) → IsStill w (hears z w k b place stage)
by_stage z w k b place Apart = lines w k place (line_response (w.wires k).client_end b)
by_stage z w k b place (SaidNegotiate bound) =
    heard z w k (SaidNegotiate bound) (dialog_response (w.wires k).client_end (SaidNegotiate bound) b)
by_stage z w k b place (SaidFirst bound) = heard z w k (SaidFirst bound) (dialog_response (w.wires k).client_end (SaidFirst bound) b)
by_stage z w k b place (SaidSecond bound) = heard z w k (SaidSecond bound) (dialog_response (w.wires k).client_end (SaidSecond bound) b)
by_stage z w k b place AskedTree = heard z w k AskedTree (dialog_response (w.wires k).client_end AskedTree b)

-- the world behind the frame has the server and the logons of the one before it
pub take_still : (z : WorldSettings) (w : World) (k : ℕ) (fs : List (List ℕ)) (ys : List Received) → IsStill w (take_frame z w k fs ys)
take_still z w k [] ys = record { server = refl; logons = refl }
take_still z w k (b ∷ bs) [] = record { server = refl; logons = refl }
take_still z w k (b ∷ bs) (y ∷ ys) =
    let s = by_stage z (behind_frame w k bs ys) k b y.place (w.wires k).client_end.stage in
    record { server = s.server; logons = s.logons }
