-- Which events leave a server's end as it is.
use Rattle.std.proofs.Common.{◌≡◌, ℕ, ◌+◌, ◌==◌, Bool, true, false, if◌then◌else◌, List, [], ◌∷◌, refl, sym, ◌∙◌, subst, Option, Some, None, eqb-true}
use Rattle.spec_exchange.specs.Table.{put}
use Rattle.spec_exchange.specs.Operations.{Refusal, HadStatus, BadToken}
use Rattle.spec_exchange.specs.Client.{Client, Stage, Apart, SaidNegotiate, SaidFirst, SaidSecond, AskedTree}
use Rattle.spec_exchange.specs.ClientStep.{Act, Nothing, Sends, Asks, CloseChannel, CloseChannels, AllSettled, IsCut, IsReady, IsRefused, Hears, act}
use Rattle.spec_exchange.specs.Dialogs.{DialogStep, GoesOn, Accepts, Binds, Readies, Refuses, dialog_step, went_on}
use Rattle.spec_exchange.specs.Network.{Received, Token, ForDialog, ForOp, ForAttach, with_client, cut_off}
use Rattle.spec_world.specs.Settings.{WorldSettings}
use Rattle.spec_world.specs.Messages.{HeardMessage}
use Rattle.spec_world.specs.Ends.{ClientEnd}
use Rattle.spec_world.specs.Dialog.{line_response, dialog_response, status_due, dialog_fault, noted_heard, paid_in, accepted_end, bound_end}
use Rattle.spec_commands.specs.ReplyOf.{reply_of}
use Rattle.spec_world.specs.World.{Wires, World, with_values, with_client_end, pushed_wires, closed_wires, off_by, one_off}
use Rattle.spec_world.specs.World.{cut_wires, op_heard, line_heard, line_hears, dialog_went, session_accepted}
use Rattle.spec_world.specs.World.{channel_bound, dialog_reply, dialog_wires, dialog_passed, dialog_hears, hears, take_frame, next_token, behind_frame, command_asked}

abbrev pub SameEnds : (ℕ → Wires) → (ℕ → Wires) → Type 0
SameEnds old new = (j : ℕ) → (new j).server_end ≡ (old j).server_end

pub put_ends : (f : ℕ → Wires) (k : ℕ) (u : Wires) → u.server_end ≡ (f k).server_end → SameEnds f (put f k u)
put_ends f k u e j = elim (j == k) as (λ b. j == k ≡ b → (if b then u else f j).server_end ≡ (f j).server_end) [
  | true ↦ λ t. subst (λ i. u.server_end ≡ (f i).server_end) (sym (eqb-true j k t)) e
  | false ↦ λ t. refl
] refl

pub then_ends : (f g h : ℕ → Wires) → SameEnds f g → SameEnds g h → SameEnds f h
then_ends f g h p q j = q j ∙ p j

-- one of two worlds
pub either_ends : (f : ℕ → Wires) (b : Bool) (x y : World) → SameEnds f x.wires → SameEnds f y.wires → SameEnds f (if b then x else y).wires
either_ends f true x y p q = p
either_ends f false x y p q = q

-- the client's end alone changes
client_ends : (w : World) (k : ℕ) (n : ClientEnd) → SameEnds w.wires (with_client_end w k n).wires
client_ends w k n = put_ends w.wires k (record (w.wires k) { client_end = n }) refl

closed_ends : (w : World) (k : ℕ) (a : Act) → SameEnds w.wires (closed_wires w k a).wires
closed_ends w k CloseChannels = λ j. refl
closed_ends w k CloseChannel = put_ends w.wires k _ refl
closed_ends w k Nothing = λ j. refl
closed_ends w k (Sends g) = λ j. refl
closed_ends w k (Asks g) = λ j. refl
closed_ends w k AllSettled = λ j. refl

off_ends : (w : World) (k : ℕ) (a : Act) → SameEnds w.wires (off_by w k a).wires
off_ends w k CloseChannels = λ j. refl
off_ends w k CloseChannel = put_ends w.wires k _ refl
off_ends w k Nothing = put_ends w.wires k _ refl
off_ends w k (Sends g) = put_ends w.wires k _ refl
off_ends w k (Asks g) = put_ends w.wires k _ refl
off_ends w k AllSettled = put_ends w.wires k _ refl

pub cut_ends : (w : World) (k : ℕ) → SameEnds w.wires (cut_wires w k).wires
cut_ends w k =
    either_ends w.wires (w.values.client.ready k) (with_values (off_by w k (act w.values.client (IsCut k))) (cut_off w.values k))
    (with_values (one_off w k) (cut_off w.values k)) (off_ends w k (act w.values.client (IsCut k))) (put_ends w.wires k _ refl)

pub push_ends : (w : World) (k : ℕ) (c : Client) (a : Act) → SameEnds w.wires (pushed_wires w k c a).wires
push_ends w k c (Sends g) = put_ends w.wires k _ refl
push_ends w k c (Asks g) = put_ends w.wires k _ refl
push_ends w k c Nothing = λ j. refl
push_ends w k c CloseChannel = λ j. refl
push_ends w k c CloseChannels = λ j. refl
push_ends w k c AllSettled = λ j. refl

-- ---- Take, on a line

op_ends : (w : World) (k g : ℕ) (asking : Bool) (x : HeardMessage) (place : ℕ) → SameEnds w.wires (op_heard w k g asking x place).wires
op_ends w k g asking x place =
    let v = with_client_end w k (paid_in (w.wires k).client_end x.header) in
    let a = act w.values.client (Hears k g asking (reply_of (command_asked w.values.client g asking) x.header x.bytes) place) in
    then_ends w.wires v.wires (closed_wires v k a).wires (client_ends w k (paid_in (w.wires k).client_end x.header)) (closed_ends v k a)

line_ends : (w : World) (k : ℕ) (x : HeardMessage) (place : ℕ) (t : Option Token) → SameEnds w.wires (line_heard w k x place t).wires
line_ends w k x place (Some (ForOp g)) = op_ends w k g false x place
line_ends w k x place (Some (ForAttach g)) = op_ends w k g true x place
line_ends w k x place (Some ForDialog) = cut_ends w k
line_ends w k x place None = cut_ends w k

hears_ends : (w : World) (k place : ℕ) (o : Option HeardMessage) → SameEnds w.wires (line_hears w k place o).wires
hears_ends w k place None = cut_ends w k
hears_ends w k place (Some x) = line_ends w k x place ((w.wires k).client_end.awaited x.header.message)

-- ---- Take, of a dialog

went_ends : (w : World) (k : ℕ) (s : Stage) (token : List ℕ) → SameEnds w.wires (dialog_went w k s token).wires
went_ends w k (SaidFirst bound) token = put_ends w.wires k _ refl
went_ends w k (SaidSecond bound) token = put_ends w.wires k _ refl
went_ends w k Apart token = λ j. refl
went_ends w k (SaidNegotiate bound) token = λ j. refl
went_ends w k AskedTree token = λ j. refl

dialog_ends : (z : WorldSettings) (w : World) (k : ℕ) (stage : Stage) (x : HeardMessage) (d : DialogStep)
    → SameEnds w.wires (dialog_wires z w k stage x d).wires
dialog_ends z w k stage x (GoesOn next) =
    let n = (w.wires k).client_end in
    let c = went_on w.values.client k next (dialog_reply w stage x) in
    let v = with_client_end (with_values w (with_client w.values c)) k (noted_heard n stage x) in
    let token = next_token z n next x.bytes in
    then_ends w.wires v.wires (dialog_went v k next token).wires (client_ends w k (noted_heard n stage x)) (went_ends v k next token)
dialog_ends z w k stage x Accepts =
    let v = session_accepted w k x in
    then_ends w.wires v.wires (dialog_wires z w k stage x Accepts).wires
    (client_ends w k (accepted_end (w.wires k).client_end x w.values.client.pending)) (put_ends v.wires k _ refl)
dialog_ends z w k stage x Binds =
    let v = channel_bound w k x in
    let a = act w.values.client (IsReady k w.values.client.session w.values.client.tree) in
    then_ends w.wires v.wires (closed_wires v k a).wires (client_ends w k (bound_end (w.wires k).client_end x (w.numbers + 1)))
    (closed_ends v k a)
dialog_ends z w k stage x Readies =
    let n = record (paid_in (w.wires k).client_end x.header) { stage = Apart } in
    let v = with_client_end w k n in
    let a = act w.values.client (IsReady k w.values.client.pending (dialog_reply w stage x).tree_id) in
    then_ends w.wires v.wires (closed_wires v k a).wires (client_ends w k n) (closed_ends v k a)
dialog_ends z w k stage x (Refuses status) = closed_ends w k (act w.values.client (IsRefused k (HadStatus status)))

passed_ends : (z : WorldSettings) (w : World) (k : ℕ) (stage : Stage) (x : HeardMessage) (o : Option Refusal)
    → SameEnds w.wires (dialog_passed z w k stage x o).wires
passed_ends z w k stage x (Some why) = closed_ends w k (act w.values.client (IsRefused k why))
passed_ends z w k stage x None = dialog_ends z w k stage x (dialog_step stage x.header.status)

response_ends : (z : WorldSettings) (w : World) (k : ℕ) (stage : Stage) (o : Option HeardMessage)
    → SameEnds w.wires (dialog_hears z w k stage o).wires
response_ends z w k stage None = closed_ends w k (act w.values.client (IsRefused k BadToken))
response_ends z w k stage (Some x) =
    passed_ends z w k stage x (if x.header.status == status_due stage then dialog_fault z.client (w.wires k).client_end stage x else None)

heard_ends : (z : WorldSettings) (w : World) (k : ℕ) (frame : List ℕ) (place : ℕ) (s : Stage)
    → SameEnds w.wires (hears z w k frame place s).wires
heard_ends z w k frame place Apart = hears_ends w k place (line_response (w.wires k).client_end frame)
heard_ends z w k frame place (SaidNegotiate bound) =
    response_ends z w k (SaidNegotiate bound) (dialog_response (w.wires k).client_end (SaidNegotiate bound) frame)
heard_ends z w k frame place (SaidFirst bound) =
    response_ends z w k (SaidFirst bound) (dialog_response (w.wires k).client_end (SaidFirst bound) frame)
heard_ends z w k frame place (SaidSecond bound) =
    response_ends z w k (SaidSecond bound) (dialog_response (w.wires k).client_end (SaidSecond bound) frame)
heard_ends z w k frame place AskedTree = response_ends z w k AskedTree (dialog_response (w.wires k).client_end AskedTree frame)

pub take_ends : (z : WorldSettings) (w : World) (k : ℕ) (bs : List (List ℕ)) (ys : List Received)
    → SameEnds w.wires (take_frame z w k bs ys).wires
take_ends z w k [] ys = λ j. refl
take_ends z w k (b ∷ bs) [] = λ j. refl
take_ends z w k (b ∷ bs) (y ∷ ys) =
    let v = behind_frame w k bs ys in
    then_ends w.wires v.wires (hears z v k b y.place (w.wires k).client_end.stage).wires
    (put_ends w.wires k (record (w.wires k) { down = bs }) refl) (heard_ends z v k b y.place (w.wires k).client_end.stage)
