-- What the client's side does seals nothing to a client, and leaves the servers' ends, their logons and their records.
use Rattle.std.proofs.Common.{◌≡◌, ℕ, ◌+◌, ◌==◌, Bool, true, false, if◌then◌else◌, List, [], ◌∷◌, ◌++◌, refl, sym, ◌∙◌, ap, subst}
use Rattle.std.proofs.Common.{Option, Some, None}
use Rattle.std.proofs.lemmas.List.{append-nil}
use Rattle.spec_exchange.specs.Table.{put}
use Rattle.spec_exchange.specs.State.{Message, Reply}
use Rattle.spec_exchange.specs.Operations.{Refusal, BadToken, HadStatus, weight, charge}
use Rattle.spec_exchange.specs.Client.{Client, Stage, Apart, SaidNegotiate, SaidFirst, SaidSecond, AskedTree, own_message, ask_message}
use Rattle.spec_exchange.specs.ClientStep.{Act, Nothing, Sends, Asks, CloseChannel, CloseChannels, AllSettled, IsCut}
use Rattle.spec_exchange.specs.ClientStep.{IsReady, IsRefused, Hears, act, client_after, Pick, Pushes}
use Rattle.spec_exchange.specs.Dialogs.{DialogStep, GoesOn, Accepts, Binds, Readies, Refuses}
use Rattle.spec_exchange.specs.Dialogs.{dialog_step, dialog_message, accepted, went_on}
use Rattle.spec_exchange.specs.Network.{World as Values, Received, Token, ForDialog, ForOp, ForAttach, with_client}
use Rattle.spec_exchange.specs.Network.{cut_off, cut_by, closed_by, pushed_by, dialog_took}
use Rattle.spec_commands.specs.ReplyOf.{reply_of}
use Rattle.law_server.proofs.tables.Logic.{either}
use Rattle.spec_world.specs.Settings.{WorldSettings}
use Rattle.spec_world.specs.Messages.{HeardMessage}
use Rattle.spec_world.specs.Ends.{ClientEnd, Logons}
use Rattle.spec_world.specs.Answering.{Seal}
use Rattle.spec_world.specs.Sending.{line_frame, spent, sealed_on, seal_sent, seal_to_server, request_text}
use Rattle.spec_world.specs.Dialog.{status_due, dialog_fault, accepted_end, bound_end, noted_heard, paid_in, line_response, dialog_response}
use Rattle.spec_world.specs.World.{World, Wires, with_values, with_client_end, queued, line_sent, pushed_wires, pushed_with}
use Rattle.spec_world.specs.World.{client_end_off, all_off, one_off, closed_wires, off_by, cut_wires, op_heard, line_heard, line_hears}
use Rattle.spec_world.specs.World.{dialog_off, noted_sent, setup_of, setup_sent, next_token, dialog_went, session_accepted, channel_bound}
use Rattle.spec_world.specs.World.{dialog_reply, dialog_wires, dialog_passed, dialog_hears, hears, behind_frame, take_frame, command_asked}
use Rattle.law_nonces.proofs.negotiation.Tables.{by_key}
use Rattle.law_nonces.proofs.negotiation.Values.{ClientOnly, pushed_only, cut_only, ended_only, op_only, dialog_only, behind_only}
use Rattle.law_nonces.specs.server_nonces.Numbering.{AreTables, NonceDraws, AreNamed, key_sessions, Sealer, sealer_of}
use Rattle.law_nonces.specs.server_nonces.Numbering.{sealers, NonceNumbered, NonceKeeps}
use Rattle.law_nonces.proofs.server_nonces.Numbers.{alike, sent_keeps}

-- ---- what is left

pub record Moved (old : ℕ → Wires) (us : List Seal) (L : Logons) (new : ℕ → Wires) (vs : List Seal) (M : Logons) : Type 0 where
  pub ends : (j : ℕ) → (new j).server_end ≡ (old j).server_end
  pub logons : M ≡ L
  pub seals : (ends : ℕ → Sealer) (drawn : ℕ → ℕ) → NonceNumbered us ends drawn → NonceNumbered vs ends drawn

abbrev pub MovedTo : World → World → Type 0
MovedTo w x = Moved w.wires w.sealings w.logons x.wires x.sealings x.logons

pub moved_same : (w : World) → MovedTo w w
moved_same w = record { ends = λ j. refl; logons = refl; seals = λ ends drawn i. i }

pub one_moved : (w x : World) (k : ℕ) (u : Wires) → MovedTo w x → u.server_end ≡ (x.wires k).server_end
    → Moved w.wires w.sealings w.logons (put x.wires k u) x.sealings x.logons
one_moved w x k u m same =
    record {
      ends = by_key (λ j v. v.server_end ≡ (w.wires j).server_end) x.wires k u (same ∙ m.ends k) (λ j off. m.ends j);
      logons = m.logons;
      seals = m.seals;
    }

pub keeps_from : (w x : World) → NonceKeeps w → MovedTo w x → ClientOnly w.values x.values → x.values.records
    ≡ w.values.records → NonceKeeps x
keeps_from w x i m v records =
    record {
      drawn = i.drawn;
      tables = subst (λ rs. AreTables rs x.values.server) (sym records) (subst (AreTables w.values.records) (sym v.server) i.tables);
      draws = subst (λ s. NonceDraws s i.drawn) (sym v.server) i.draws;
      named = subst (λ s. AreNamed s (key_sessions x.logons)) (sym v.server)
          (subst (λ L. AreNamed w.values.server (key_sessions L)) (sym m.logons) i.named);
      numbered = alike x.sealings (sealers w.values.conns w.wires) (sealers x.values.conns x.wires) i.drawn
          (λ j. ap (λ b. sealer_of b (x.wires j).server_end) (v.opened j)
          ∙ ap (sealer_of (w.values.conns j).server_open) (m.ends j))
          (m.seals (sealers w.values.conns w.wires) i.drawn i.numbered);
    }

-- ---- a request on a line

sent_seals : (us : List Seal) (n : ClientEnd) (m : Message) (count : ℕ) (ends : ℕ → Sealer) (drawn : ℕ → ℕ)
    → NonceNumbered us ends drawn → NonceNumbered (us ++ seal_sent n m count) ends drawn
sent_seals us n m count ends drawn i =
    either (λ vs. NonceNumbered (us ++ vs) ends drawn) n.encrypts (seal_to_server n (request_text m count false) ∷ []) []
    (λ _. sent_keeps us (seal_to_server n (request_text m count false)) ends drawn refl i)
    (λ _. subst (λ vs. NonceNumbered vs ends drawn) (sym (append-nil us)) i)

pub line_moved : (w x : World) (k : ℕ) (token : Token) (m : Message) (n : ℕ) → MovedTo w x → MovedTo w (line_sent x k token m n)
line_moved w x k token m n i =
    let one = one_moved w x k (queued (x.wires k) (sealed_on (spent (x.wires k).client_end n token))
    (line_frame (x.wires k).client_end m n)) i refl in
    record {
      ends = one.ends;
      logons = one.logons;
      seals = λ ends drawn q. sent_seals x.sealings (x.wires k).client_end m n ends drawn (i.seals ends drawn q);
    }

-- ---- ends that close

one_off_moved : (w x : World) (k : ℕ) → MovedTo w x → MovedTo w (one_off x k)
one_off_moved w x k i = one_moved w x k (client_end_off (x.wires k)) i refl

all_off_moved : (w x : World) → MovedTo w x → MovedTo w (all_off x)
all_off_moved w x i = record { ends = i.ends; logons = i.logons; seals = i.seals }

closed_moved : (w x : World) (k : ℕ) (a : Act) → MovedTo w x → MovedTo w (closed_wires x k a)
closed_moved w x k CloseChannels i = all_off_moved w x i
closed_moved w x k CloseChannel i = one_off_moved w x k i
closed_moved w x k Nothing i = i
closed_moved w x k (Sends g) i = i
closed_moved w x k (Asks g) i = i
closed_moved w x k AllSettled i = i

off_moved : (w x : World) (k : ℕ) (a : Act) → MovedTo w x → MovedTo w (off_by x k a)
off_moved w x k CloseChannels i = all_off_moved w x i
off_moved w x k CloseChannel i = one_off_moved w x k i
off_moved w x k Nothing i = one_off_moved w x k i
off_moved w x k (Sends g) i = one_off_moved w x k i
off_moved w x k (Asks g) i = one_off_moved w x k i
off_moved w x k AllSettled i = one_off_moved w x k i

-- ---- records

closed_records : (v : Values) (k : ℕ) (a : Act) → (closed_by v k a).records ≡ v.records
closed_records v k CloseChannels = refl
closed_records v k CloseChannel = refl
closed_records v k Nothing = refl
closed_records v k (Sends g) = refl
closed_records v k (Asks g) = refl
closed_records v k AllSettled = refl

cut_by_records : (v : Values) (k : ℕ) (a : Act) → (cut_by v k a).records ≡ v.records
cut_by_records v k CloseChannels = refl
cut_by_records v k CloseChannel = refl
cut_by_records v k Nothing = refl
cut_by_records v k (Sends g) = refl
cut_by_records v k (Asks g) = refl
cut_by_records v k AllSettled = refl

cut_records : (v : Values) (k : ℕ) → (cut_off v k).records ≡ v.records
cut_records v k = either (λ (w : Values). w.records ≡ v.records) (v.client.ready k) _ _
    (λ _. cut_by_records v k (act v.client (IsCut k))) (λ _. refl)

pushed_records : (v : Values) (k : ℕ) (c : Client) (a : Act) → (pushed_by v k c a).records ≡ v.records
pushed_records v k c (Sends g) = refl
pushed_records v k c (Asks g) = refl
pushed_records v k c Nothing = refl
pushed_records v k c CloseChannel = refl
pushed_records v k c CloseChannels = refl
pushed_records v k c AllSettled = refl

dialog_records : (v : Values) (k : ℕ) (r : Reply) (s : DialogStep) → (dialog_took v k r s).records ≡ v.records
dialog_records v k r (GoesOn stage) = refl
dialog_records v k r Accepts = refl
dialog_records v k r Binds = closed_records v k (act v.client (IsReady k v.client.session v.client.tree))
dialog_records v k r Readies = closed_records v k (act v.client (IsReady k v.client.pending r.tree_id))
dialog_records v k r (Refuses status) = closed_records v k (act v.client (IsRefused k (HadStatus status)))

-- ---- Push and Cut

pushed_moved : (w : World) (k : ℕ) (c : Client) (a : Act) → MovedTo w (pushed_wires w k c a)
pushed_moved w k c (Sends g) = line_moved w w k (ForOp g) (own_message c k (w.wires k).client_end.purse.next g)
    (charge (weight (c.op g))) (moved_same w)
pushed_moved w k c (Asks g) = line_moved w w k (ForAttach g) (ask_message c k (w.wires k).client_end.purse.next g) 1 (moved_same w)
pushed_moved w k c Nothing = moved_same w
pushed_moved w k c CloseChannel = moved_same w
pushed_moved w k c CloseChannels = moved_same w
pushed_moved w k c AllSettled = moved_same w

pub pushed_keeps : (w : World) (k : ℕ) (slotless : List ℕ) (pick : Option Pick) → NonceKeeps w → NonceKeeps (pushed_with w k slotless pick)
pushed_keeps w k slotless pick i =
    let c = client_after w.values.client (Pushes k slotless pick) in
    let a = act w.values.client (Pushes k slotless pick) in
    keeps_from w (pushed_with w k slotless pick) i (pushed_moved w k c a) (pushed_only w.values k c a) (pushed_records w.values k c a)

pub cut_keeps : (w : World) (k : ℕ) → NonceKeeps w → NonceKeeps (cut_wires w k)
cut_keeps w k i =
    either NonceKeeps (w.values.client.ready k) (with_values (off_by w k (act w.values.client (IsCut k)))
    (cut_off w.values k)) (with_values (one_off w k) (cut_off w.values k))
    (λ _. keeps_from w (with_values (off_by w k (act w.values.client (IsCut k))) (cut_off w.values k)) i
    (off_moved w w k (act w.values.client (IsCut k)) (moved_same w)) (cut_only w.values k) (cut_records w.values k))
    (λ _. keeps_from w (with_values (one_off w k) (cut_off w.values k)) i (one_off_moved w w k (moved_same w)) (cut_only w.values k)
    (cut_records w.values k))

-- ---- a line's reply

end_moved : (w x : World) (k : ℕ) (n : ClientEnd) → MovedTo w x → MovedTo w (with_client_end x k n)
end_moved w x k n i = one_moved w x k (record (x.wires k) { client_end = n }) i refl

op_keeps : (w : World) (k g : ℕ) (asking : Bool) (x : HeardMessage) (place : ℕ) → NonceKeeps w → NonceKeeps (op_heard w k g asking x place)
op_keeps w k g asking x place i =
    let r = reply_of (command_asked w.values.client g asking) x.header x.bytes in
    let n = paid_in (w.wires k).client_end x.header in
    keeps_from w (op_heard w k g asking x place) i
    (closed_moved w (with_client_end w k n) k (act w.values.client (Hears k g asking r place)) (end_moved w w k n (moved_same w)))
    (op_only w.values k g asking r place) (closed_records w.values k (act w.values.client (Hears k g asking r place)))

line_heard_keeps : (w : World) (k : ℕ) (x : HeardMessage) (place : ℕ) (o : Option Token) → NonceKeeps w
    → NonceKeeps (line_heard w k x place o)
line_heard_keeps w k x place None i = cut_keeps w k i
line_heard_keeps w k x place (Some ForDialog) i = cut_keeps w k i
line_heard_keeps w k x place (Some (ForOp g)) i = op_keeps w k g false x place i
line_heard_keeps w k x place (Some (ForAttach g)) i = op_keeps w k g true x place i

line_keeps : (w : World) (k place : ℕ) (o : Option HeardMessage) → NonceKeeps w → NonceKeeps (line_hears w k place o)
line_keeps w k place None i = cut_keeps w k i
line_keeps w k place (Some x) i = line_heard_keeps w k x place ((w.wires k).client_end.awaited x.header.message) i

-- ---- a dialog's response

setup_moved : (w x : World) (k : ℕ) (stage : Stage) (bound : Bool) (token : List ℕ) → MovedTo w x
    → MovedTo w (setup_sent x k stage bound token)
setup_moved w x k stage bound token i =
    let u = x.wires k in
    let frame = setup_of x k stage bound token in
    one_moved w x k (queued u (noted_sent (spent u.client_end 1 ForDialog) stage frame) frame) i refl

went_moved : (w x : World) (k : ℕ) (stage : Stage) (token : List ℕ) → MovedTo w x → MovedTo w (dialog_went x k stage token)
went_moved w x k (SaidFirst bound) token i = setup_moved w x k (SaidFirst bound) bound token i
went_moved w x k (SaidSecond bound) token i = setup_moved w x k (SaidSecond bound) bound token i
went_moved w x k Apart token i = i
went_moved w x k (SaidNegotiate bound) token i = i
went_moved w x k AskedTree token i = i

accepts_moved : (w : World) (k : ℕ) (x : HeardMessage) → MovedTo w (session_accepted w k x)
accepts_moved w k x =
    let one = end_moved w w k (accepted_end (w.wires k).client_end x w.values.client.pending) (moved_same w) in
    record { ends = one.ends; logons = one.logons; seals = one.seals }

binds_moved : (w : World) (k : ℕ) (x : HeardMessage) → MovedTo w (channel_bound w k x)
binds_moved w k x =
    let one = end_moved w w k (bound_end (w.wires k).client_end x (w.numbers + 1)) (moved_same w) in
    record { ends = one.ends; logons = one.logons; seals = one.seals }

valued_moved : (w x : World) (v : Values) → MovedTo w x → MovedTo w (with_values x v)
valued_moved w x v i = record { ends = i.ends; logons = i.logons; seals = i.seals }

step_moved : (z : WorldSettings) (w : World) (k : ℕ) (stage : Stage) (x : HeardMessage) (s : DialogStep)
    → MovedTo w (dialog_wires z w k stage x s)
step_moved z w k stage x (GoesOn next) =
    let n = (w.wires k).client_end in
    let v = with_values w (with_client w.values (went_on w.values.client k next (dialog_reply w stage x))) in
    went_moved w (with_client_end v k (noted_heard n stage x)) k next (next_token z n next x.bytes)
    (end_moved w v k (noted_heard n stage x) (valued_moved w w v.values (moved_same w)))
step_moved z w k stage x Accepts =
    line_moved w (session_accepted w k x) k ForDialog (dialog_message (accepted w.values.client k) k
    ((session_accepted w k x).wires k).client_end.purse.next AskedTree) 1 (accepts_moved w k x)
step_moved z w k stage x Binds =
    closed_moved w (channel_bound w k x) k (act w.values.client (IsReady k w.values.client.session w.values.client.tree))
    (binds_moved w k x)
step_moved z w k stage x Readies =
    closed_moved w (with_client_end w k (record (paid_in (w.wires k).client_end x.header) { stage = Apart })) k
    (act w.values.client (IsReady k w.values.client.pending (dialog_reply w stage x).tree_id))
    (end_moved w w k (record (paid_in (w.wires k).client_end x.header) { stage = Apart }) (moved_same w))
step_moved z w k stage x (Refuses status) =
    closed_moved w w k (act w.values.client (IsRefused k (HadStatus status))) (moved_same w)

off_keeps : (w : World) (k : ℕ) (why : Refusal) → NonceKeeps w → NonceKeeps (dialog_off w k why)
off_keeps w k why i =
    keeps_from w (dialog_off w k why) i (closed_moved w w k (act w.values.client (IsRefused k why)) (moved_same w))
    (ended_only w.values k (IsRefused k why)) (closed_records w.values k (act w.values.client (IsRefused k why)))

passed_keeps : (z : WorldSettings) (w : World) (k : ℕ) (stage : Stage) (x : HeardMessage) (o : Option Refusal) → NonceKeeps w
    → NonceKeeps (dialog_passed z w k stage x o)
passed_keeps z w k stage x (Some why) i = off_keeps w k why i
passed_keeps z w k stage x None i =
    let s = dialog_step stage x.header.status in
    let r = dialog_reply w stage x in
    keeps_from w (dialog_passed z w k stage x None) i (valued_moved w (dialog_wires z w k stage x s) (dialog_took w.values k r s)
    (step_moved z w k stage x s)) (dialog_only w.values k r s) (dialog_records w.values k r s)

dialog_keeps : (z : WorldSettings) (w : World) (k : ℕ) (stage : Stage) (o : Option HeardMessage) → NonceKeeps w
    → NonceKeeps (dialog_hears z w k stage o)
dialog_keeps z w k stage None i = off_keeps w k BadToken i
dialog_keeps z w k stage (Some x) i =
    passed_keeps z w k stage x (if x.header.status == status_due stage then dialog_fault z.client (w.wires k).client_end
    stage x else None) i

hears_keeps : (z : WorldSettings) (w : World) (k : ℕ) (frame : List ℕ) (place : ℕ) (stage : Stage) → NonceKeeps w
    → NonceKeeps (hears z w k frame place stage)
hears_keeps z w k frame place Apart i = line_keeps w k place (line_response (w.wires k).client_end frame) i
hears_keeps z w k frame place (SaidNegotiate bound) i =
    dialog_keeps z w k (SaidNegotiate bound) (dialog_response (w.wires k).client_end (SaidNegotiate bound) frame) i
hears_keeps z w k frame place (SaidFirst bound) i =
    dialog_keeps z w k (SaidFirst bound) (dialog_response (w.wires k).client_end (SaidFirst bound) frame) i
hears_keeps z w k frame place (SaidSecond bound) i =
    dialog_keeps z w k (SaidSecond bound) (dialog_response (w.wires k).client_end (SaidSecond bound) frame) i
hears_keeps z w k frame place AskedTree i = dialog_keeps z w k AskedTree (dialog_response (w.wires k).client_end AskedTree frame) i

pub take_keeps : (z : WorldSettings) (w : World) (k : ℕ) (bs : List (List ℕ)) (ys : List Received) → NonceKeeps w
    → NonceKeeps (take_frame z w k bs ys)
take_keeps z w k [] ys i = i
take_keeps z w k (b ∷ bs) [] i = i
take_keeps z w k (b ∷ bs) (y ∷ ys) i =
    let v = behind_frame w k bs ys in
    let one = one_moved w w k (record (w.wires k) { down = bs }) (moved_same w) refl in
    hears_keeps z v k b y.place (w.wires k).client_end.stage
    (keeps_from w v i (record { ends = one.ends; logons = one.logons; seals = one.seals }) (behind_only w.values k ys) refl)
