-- How many ids and nonces a client's end used, and that its server's window is full: what each event leaves of both.
use Rattle.std.proofs.Common.{◌≡◌, ℕ, ◌+◌, ◌*◌, ◌≤◌, ◌==◌, Bool, true, false, if◌then◌else◌, List, [], ◌∷◌}
use Rattle.std.proofs.Common.{refl, sym, ap, ◌∙◌, subst, arith, Option, Some, None, is_some}
use Rattle.spec_exchange.specs.Table.{put}
use Rattle.spec_exchange.specs.Status.{success, more_processing_required}
use Rattle.spec_exchange.specs.Operations.{Refusal, BadToken, HadStatus, weight, charge}
use Rattle.spec_exchange.specs.Client.{Client, Stage, Apart, SaidNegotiate, SaidFirst, SaidSecond, AskedTree}
use Rattle.spec_exchange.specs.ClientStep.{Act, Nothing, Sends, Asks, CloseChannel, CloseChannels, AllSettled, IsCut}
use Rattle.spec_exchange.specs.ClientStep.{IsReady, IsRefused, Hears, act}
use Rattle.spec_exchange.specs.Dialogs.{DialogStep, GoesOn, Accepts, Binds, Readies, Refuses, dialog_step}
use Rattle.spec_exchange.specs.Network.{Received, Token, ForDialog, ForOp, ForAttach}
use Rattle.spec_wire.specs.credits.Ids.{counted}
use Rattle.spec_commands.specs.ReplyOf.{reply_of}
use Rattle.spec_world.specs.Settings.{WorldSettings}
use Rattle.spec_world.specs.Messages.{HeardMessage}
use Rattle.spec_world.specs.Ends.{ClientEnd}
use Rattle.spec_world.specs.Dialog.{status_due, dialog_fault, accepted_end, bound_end, noted_heard, paid_in, line_response, dialog_response}
use Rattle.spec_world.specs.World.{World, Wires, with_client_end, queued, pushed_wires, cost_of}
use Rattle.spec_world.specs.World.{client_end_off, closed_wires, off_by, cut_wires, op_heard, line_heard, line_hears}
use Rattle.spec_world.specs.World.{dialog_off, channel_bound, dialog_reply, dialog_wires, dialog_passed, dialog_hears, hears}
use Rattle.spec_world.specs.World.{behind_frame, take_frame, command_asked}
use Rattle.law_runs.proofs.purses.Windows.{IsFull}

-- ---- of one connection, behind so many pushes: its dialog has four requests, and each push uses at most 512 ids

abbrev pub sent_by : Stage → ℕ
sent_by Apart = 4
sent_by (SaidNegotiate bound) = 1
sent_by (SaidFirst bound) = 2
sent_by (SaidSecond bound) = 3
sent_by AskedTree = 4

pub record IsGood (p : ℕ) (u : Wires) : Type 0 where
  pub counter : u.client_end.counter ≤ p + 1
  pub next : u.client_end.purse.next ≤ sent_by u.client_end.stage + 512 * p
  pub full : is_some u.server_end.greeting ≡ true → IsFull u.server_end.window

abbrev pub AreGood : ℕ → (ℕ → Wires) → Type 0
AreGood p wires = (k : ℕ) → IsGood p (wires k)

abbrev pub Keeps : ℕ → World → Type 0
Keeps p w = AreGood p w.wires

pub put_good : (p : ℕ) (wires : ℕ → Wires) (k : ℕ) (u : Wires) → IsGood p u → AreGood p wires → AreGood p (put wires k u)
put_good p wires k u here there j = elim (j == k) as (λ b. IsGood p (if b then u else wires j)) [
  | true ↦ here
  | false ↦ there j
]

put_same : {X : Type 0} (f : ℕ → X) (k : ℕ) (v : X) → put f k v k ≡ v
put_same f k v = grind arith

pub either : {X : Type 0} (P : X → Type 0) (b : Bool) (x y : X) → (b ≡ true → P x) → (b ≡ false → P y) → P (if b then x else y)
either P true x y f g = f refl
either P false x y f g = g refl

more_counter : (p q n : ℕ) → p ≤ q → n ≤ p + 1 → n ≤ q + 1
more_counter p q n l h = omega (arith, l, h)

more_next : (p q n r : ℕ) → p ≤ q → n ≤ r + 512 * p → n ≤ r + 512 * q
more_next p q n r l h = omega (arith, l, h)

pub more_good : (p q : ℕ) → p ≤ q → (wires : ℕ → Wires) → AreGood p wires → AreGood q wires
more_good p q l wires i k = record {
  counter = more_counter p q (wires k).client_end.counter l (i k).counter;
  next = more_next p q (wires k).client_end.purse.next (sent_by (wires k).client_end.stage) l (i k).next;
  full = (i k).full;
}

-- another client's end
with_end : (p : ℕ) (u : Wires) (n : ClientEnd) → n.counter ≤ p + 1 → n.purse.next ≤ sent_by n.stage + 512 * p → IsGood p u
    → IsGood p (record u { client_end = n })
with_end p u n counter next i = record { counter = counter; next = next; full = i.full }

ended_good : (p : ℕ) (w : World) (k : ℕ) (n : ClientEnd) → n.counter ≤ p + 1 → n.purse.next ≤ sent_by n.stage + 512 * p → Keeps p w
    → Keeps p (with_client_end w k n)
ended_good p w k n counter next i =
    put_good p w.wires k (record (w.wires k) { client_end = n }) (with_end p (w.wires k) n counter next (i k)) i

-- a request goes up behind a change of the client's end
sent_good : (p : ℕ) (wires : ℕ → Wires) (k : ℕ) (n : ClientEnd) (frame : List ℕ) → n.counter ≤ p + 1
    → n.purse.next ≤ sent_by n.stage + 512 * p → AreGood p wires → AreGood p (put wires k (queued (wires k) n frame))
sent_good p wires k n frame counter next i =
    put_good p wires k (queued (wires k) n frame) (record { counter = counter; next = next; full = (i k).full }) i

-- ---- a push: with its cost it uses at most 512 ids

one_counted : (p c : ℕ) (b : Bool) → c ≤ p + 1 → (if b then c + 1 else c) ≤ (p + 1) + 1
one_counted p c true l = omega (arith, l)
one_counted p c false l = omega (arith, l)

more_ids : (p n r c : ℕ) → n ≤ r + 512 * p → c ≤ 512 → n + c ≤ r + 512 * (p + 1)
more_ids p n r c l h = omega (arith, l, h)

one_more : (p : ℕ) → p ≤ p + 1
one_more p = omega arith

pub pushed_good : (p : ℕ) (w : World) (k : ℕ) (c : Client) (a : Act) → counted (cost_of c a) ≤ 512 → Keeps p w
    → Keeps (p + 1) (pushed_wires w k c a)
pushed_good p w k c (Sends g) few i =
    let n = (w.wires k).client_end in
    sent_good (p + 1) w.wires k _ _ (one_counted p n.counter n.encrypts (i k).counter)
    (more_ids p n.purse.next (sent_by n.stage) (counted (charge (weight (c.op g)))) (i k).next few)
    (more_good p (p + 1) (one_more p) w.wires i)
pushed_good p w k c (Asks g) few i =
    let n = (w.wires k).client_end in
    sent_good (p + 1) w.wires k _ _ (one_counted p n.counter n.encrypts (i k).counter)
    (more_ids p n.purse.next (sent_by n.stage) (counted 1) (i k).next few)
    (more_good p (p + 1) (one_more p) w.wires i)
pushed_good p w k c Nothing few i = more_good p (p + 1) (one_more p) w.wires i
pushed_good p w k c CloseChannel few i = more_good p (p + 1) (one_more p) w.wires i
pushed_good p w k c CloseChannels few i = more_good p (p + 1) (one_more p) w.wires i
pushed_good p w k c AllSettled few i = more_good p (p + 1) (one_more p) w.wires i

-- ---- the client's ends close

off_good : (p : ℕ) (u : Wires) → IsGood p u → IsGood p (client_end_off u)
off_good p u i = record { counter = i.counter; next = i.next; full = i.full }

closed_good : (p : ℕ) (x : World) (k : ℕ) (a : Act) → Keeps p x → Keeps p (closed_wires x k a)
closed_good p x k CloseChannels i = λ j. off_good p (x.wires j) (i j)
closed_good p x k CloseChannel i = put_good p x.wires k (client_end_off (x.wires k)) (off_good p (x.wires k) (i k)) i
closed_good p x k Nothing i = i
closed_good p x k (Sends g) i = i
closed_good p x k (Asks g) i = i
closed_good p x k AllSettled i = i

by_off : (p : ℕ) (w : World) (k : ℕ) (a : Act) → Keeps p w → Keeps p (off_by w k a)
by_off p w k CloseChannels i = λ j. off_good p (w.wires j) (i j)
by_off p w k CloseChannel i = put_good p w.wires k (client_end_off (w.wires k)) (off_good p (w.wires k) (i k)) i
by_off p w k Nothing i = put_good p w.wires k (client_end_off (w.wires k)) (off_good p (w.wires k) (i k)) i
by_off p w k (Sends g) i = put_good p w.wires k (client_end_off (w.wires k)) (off_good p (w.wires k) (i k)) i
by_off p w k (Asks g) i = put_good p w.wires k (client_end_off (w.wires k)) (off_good p (w.wires k) (i k)) i
by_off p w k AllSettled i = put_good p w.wires k (client_end_off (w.wires k)) (off_good p (w.wires k) (i k)) i

pub cut_good : (p : ℕ) (w : World) (k : ℕ) → Keeps p w → Keeps p (cut_wires w k)
cut_good p w k i =
    either (Keeps p) (w.values.client.ready k) _ _ (λ _. by_off p w k (act w.values.client (IsCut k)) i)
    (λ _. put_good p w.wires k (client_end_off (w.wires k)) (off_good p (w.wires k) (i k)) i)

-- ---- a line's reply

op_good : (p : ℕ) (w : World) (k g : ℕ) (asking : Bool) (x : HeardMessage) (place : ℕ) → Keeps p w → Keeps p (op_heard w k g asking x place)
op_good p w k g asking x place i =
    let n = paid_in (w.wires k).client_end x.header in
    closed_good p (with_client_end w k n) k
    (act w.values.client (Hears k g asking (reply_of (command_asked w.values.client g asking) x.header x.bytes) place))
    (ended_good p w k n (i k).counter (i k).next i)

line_heard_good : (p : ℕ) (w : World) (k : ℕ) (x : HeardMessage) (place : ℕ) (o : Option Token) → Keeps p w
    → Keeps p (line_heard w k x place o)
line_heard_good p w k x place None i = cut_good p w k i
line_heard_good p w k x place (Some ForDialog) i = cut_good p w k i
line_heard_good p w k x place (Some (ForOp g)) i = op_good p w k g false x place i
line_heard_good p w k x place (Some (ForAttach g)) i = op_good p w k g true x place i

line_good : (p : ℕ) (w : World) (k place : ℕ) (o : Option HeardMessage) → Keeps p w → Keeps p (line_hears w k place o)
line_good p w k place None i = cut_good p w k i
line_good p w k place (Some x) i = line_heard_good p w k x place ((w.wires k).client_end.awaited x.header.message) i

-- ---- a dialog's response

-- where its stage is told
staged : (p n : ℕ) (s t : Stage) → s ≡ t → n ≤ sent_by s + 512 * p → n ≤ sent_by t + 512 * p
staged p n s t e l = subst (λ v. n ≤ sent_by v + 512 * p) e l

at_put : (wires : ℕ → Wires) (k : ℕ) (u : Wires) (m : ℕ) → u.client_end.purse.next ≤ m → (put wires k u k).client_end.purse.next ≤ m
at_put wires k u m l = subst (λ (v : Wires). v.client_end.purse.next ≤ m) (sym (put_same wires k u)) l

-- the next message of a dialog
asked_good : (p : ℕ) (w : World) (k : ℕ) (wires : ℕ → Wires) (a n : ClientEnd) (frame : List ℕ) (r : ℕ)
    → wires ≡ put w.wires k (record (w.wires k) { client_end = a }) → a.counter ≤ p + 1 → a.purse.next ≤ sent_by a.stage + 512 * p
    → a.purse.next ≤ r + 512 * p → n.counter ≡ (wires k).client_end.counter
    → n.purse.next ≡ (wires k).client_end.purse.next + counted 1 → sent_by n.stage ≡ r + 1 → Keeps p w
    → AreGood p (put wires k (queued (wires k) n frame))
asked_good p w k wires a n frame r is counter next low same more stage i =
    let u = record (w.wires k) { client_end = a } in
    let old : AreGood p wires = subst (AreGood p) (sym is) (ended_good p w k a counter next i) in
    let before : (wires k).client_end.purse.next ≤ r + 512 * p =
    subst (λ (f : ℕ → Wires). (f k).client_end.purse.next ≤ r + 512 * p) (sym is) (at_put w.wires k u (r + 512 * p) low) in
    sent_good p wires k n frame (subst (λ m. m ≤ p + 1) (sym same) (old k).counter)
    (total n.purse.next (wires k).client_end.purse.next (sent_by n.stage) more stage before) old
  where
    total : (x y s : ℕ) → x ≡ y + counted 1 → s ≡ r + 1 → y ≤ r + 512 * p → x ≤ s + 512 * p
    total x y s e f l = omega (arith, e, f, l)

refused_good : (p : ℕ) (z : WorldSettings) (w : World) (k : ℕ) (stage : Stage) (x : HeardMessage) (status : ℕ) → Keeps p w
    → Keeps p (dialog_wires z w k stage x (Refuses status))
refused_good p z w k stage x status i = closed_good p w k (act w.values.client (IsRefused k (HadStatus status))) i

low_four : (p n : ℕ) → n ≤ 3 + 512 * p → n ≤ 4 + 512 * p
low_four p n l = omega (arith, l)

none_sealed : (p c : ℕ) (b : Bool) → c ≡ 0 → (if b then c + 1 else c) ≤ p + 1
none_sealed p c true e = omega (arith, e)
none_sealed p c false e = omega (arith, e)

no_less : (p : ℕ) → 0 ≤ p + 1
no_less p = omega arith

four_ids : (p x s : ℕ) → x ≤ 3 + 512 * p → s ≡ 4 → x + counted 1 ≤ s + 512 * p
four_ids p x s l e = omega (arith, l, e)

-- a session is accepted: its counter begins, and its TREE_CONNECT goes up
accepted_good : (p : ℕ) (w : World) (k : ℕ) (x : HeardMessage) (wires : ℕ → Wires) (n : ClientEnd) (frame : List ℕ)
    → wires ≡ put w.wires k (record (w.wires k) { client_end = accepted_end (w.wires k).client_end x w.values.client.pending })
    → (w.wires k).client_end.purse.next ≤ 3 + 512 * p
    → n.counter ≡ (if (wires k).client_end.encrypts then (wires k).client_end.counter + 1 else (wires k).client_end.counter)
    → n.purse.next ≡ (wires k).client_end.purse.next + counted 1 → n.stage ≡ (wires k).client_end.stage → Keeps p w
    → AreGood p (put wires k (queued (wires k) n frame))
accepted_good p w k x wires n frame is low counter next stage i =
    let a = accepted_end (w.wires k).client_end x w.values.client.pending in
    let u = record (w.wires k) { client_end = a } in
    let at : wires k ≡ u = ap (λ (f : ℕ → Wires). f k) is ∙ put_same w.wires k u in
    let old : AreGood p wires = subst (AreGood p) (sym is)
    (ended_good p w k a (no_less p) (low_four p (w.wires k).client_end.purse.next low) i) in
    let zero : (wires k).client_end.counter ≡ 0 = ap (λ (v : Wires). v.client_end.counter) at in
    let four : sent_by n.stage ≡ 4 = ap sent_by stage ∙ ap (λ (v : Wires). sent_by v.client_end.stage) at in
    let before : (wires k).client_end.purse.next ≤ 3 + 512 * p =
    subst (λ (v : Wires). v.client_end.purse.next ≤ 3 + 512 * p) (sym at) low in
    sent_good p wires k n frame
    (subst (λ m. m ≤ p + 1) (sym counter) (none_sealed p (wires k).client_end.counter (wires k).client_end.encrypts zero))
    (subst (λ m. m ≤ sent_by n.stage + 512 * p) (sym next) (four_ids p (wires k).client_end.purse.next (sent_by n.stage) before four)) old

passed_good : (p : ℕ) (z : WorldSettings) (w : World) (k : ℕ) (stage : Stage) (x : HeardMessage) → (w.wires k).client_end.stage ≡ stage
    → Keeps p w → Keeps p (dialog_wires z w k stage x (dialog_step stage x.header.status))
passed_good p z w k Apart x at i = refused_good p z w k Apart x x.header.status i
passed_good p z w k (SaidNegotiate bound) x at i =
    let n = (w.wires k).client_end in
    either (λ (s : DialogStep). Keeps p (dialog_wires z w k (SaidNegotiate bound) x s)) (x.header.status == success)
    (GoesOn (SaidFirst bound))
    (Refuses x.header.status)
    (λ _. asked_good p w k _ (noted_heard n (SaidNegotiate bound) x) _ _ 1 refl (i k).counter (i k).next
    (staged p n.purse.next n.stage (SaidNegotiate bound) at (i k).next) refl refl refl i)
    (λ _. refused_good p z w k (SaidNegotiate bound) x x.header.status i)
passed_good p z w k (SaidFirst bound) x at i =
    let n = (w.wires k).client_end in
    either (λ (s : DialogStep). Keeps p (dialog_wires z w k (SaidFirst bound) x s))
    (x.header.status == more_processing_required) (GoesOn (SaidSecond bound))
    (Refuses x.header.status)
    (λ _. asked_good p w k _ (noted_heard n (SaidFirst bound) x) _ _ 2 refl (i k).counter (i k).next
    (staged p n.purse.next n.stage (SaidFirst bound) at (i k).next) refl refl refl i)
    (λ _. refused_good p z w k (SaidFirst bound) x x.header.status i)
passed_good p z w k (SaidSecond true) x at i =
    let n = (w.wires k).client_end in
    let low = staged p n.purse.next n.stage (SaidSecond true) at (i k).next in
    either (λ (s : DialogStep). Keeps p (dialog_wires z w k (SaidSecond true) x s)) (x.header.status == success) Binds
    (Refuses x.header.status)
    (λ _. closed_good p (channel_bound w k x) k (act w.values.client (IsReady k w.values.client.session w.values.client.tree))
    (ended_good p w k (bound_end n x (w.numbers + 1)) (no_less p) (low_four p n.purse.next low) i))
    (λ _. refused_good p z w k (SaidSecond true) x x.header.status i)
passed_good p z w k (SaidSecond false) x at i =
    let n = (w.wires k).client_end in
    let low = staged p n.purse.next n.stage (SaidSecond false) at (i k).next in
    either (λ (s : DialogStep). Keeps p (dialog_wires z w k (SaidSecond false) x s)) (x.header.status == success)
    Accepts (Refuses x.header.status)
    (λ _. accepted_good p w k x _ _ _ refl low refl refl refl i)
    (λ _. refused_good p z w k (SaidSecond false) x x.header.status i)
passed_good p z w k AskedTree x at i =
    let n = (w.wires k).client_end in
    either (λ (s : DialogStep). Keeps p (dialog_wires z w k AskedTree x s)) (x.header.status == success) Readies (Refuses x.header.status)
    (λ _. closed_good p (with_client_end w k (record (paid_in n x.header) { stage = Apart })) k
    (act w.values.client (IsReady k w.values.client.pending (dialog_reply w AskedTree x).tree_id))
    (ended_good p w k (record (paid_in n x.header) { stage = Apart }) (i k).counter
    (staged p n.purse.next n.stage AskedTree at (i k).next) i))
    (λ _. refused_good p z w k AskedTree x x.header.status i)

dialog_off_good : (p : ℕ) (w : World) (k : ℕ) (why : Refusal) → Keeps p w → Keeps p (dialog_off w k why)
dialog_off_good p w k why i = closed_good p w k (act w.values.client (IsRefused k why)) i

fault_good : (p : ℕ) (z : WorldSettings) (w : World) (k : ℕ) (stage : Stage) (x : HeardMessage) (o : Option Refusal)
    → (w.wires k).client_end.stage ≡ stage → Keeps p w → Keeps p (dialog_passed z w k stage x o)
fault_good p z w k stage x (Some why) at i = dialog_off_good p w k why i
fault_good p z w k stage x None at i = passed_good p z w k stage x at i

dialog_good : (p : ℕ) (z : WorldSettings) (w : World) (k : ℕ) (stage : Stage) (o : Option HeardMessage)
    → (w.wires k).client_end.stage ≡ stage
    → Keeps p w → Keeps p (dialog_hears z w k stage o)
dialog_good p z w k stage None at i = dialog_off_good p w k BadToken i
dialog_good p z w k stage (Some x) at i =
    fault_good p z w k stage x (if x.header.status == status_due stage then dialog_fault z.client (w.wires k).client_end
    stage x else None) at i

hears_good : (p : ℕ) (z : WorldSettings) (w : World) (k : ℕ) (frame : List ℕ) (place : ℕ) (stage : Stage)
    → (w.wires k).client_end.stage ≡ stage → Keeps p w → Keeps p (hears z w k frame place stage)
hears_good p z w k frame place Apart at i = line_good p w k place (line_response (w.wires k).client_end frame) i
hears_good p z w k frame place (SaidNegotiate bound) at i =
    dialog_good p z w k (SaidNegotiate bound) (dialog_response (w.wires k).client_end (SaidNegotiate bound) frame) at i
hears_good p z w k frame place (SaidFirst bound) at i =
    dialog_good p z w k (SaidFirst bound) (dialog_response (w.wires k).client_end (SaidFirst bound) frame) at i
hears_good p z w k frame place (SaidSecond bound) at i =
    dialog_good p z w k (SaidSecond bound) (dialog_response (w.wires k).client_end (SaidSecond bound) frame) at i
hears_good p z w k frame place AskedTree at i =
    dialog_good p z w k AskedTree (dialog_response (w.wires k).client_end AskedTree frame) at i

pub take_good : (p : ℕ) (z : WorldSettings) (w : World) (k : ℕ) (bs : List (List ℕ)) (ys : List Received) → Keeps p w
    → Keeps p (take_frame z w k bs ys)
take_good p z w k [] ys i = i
take_good p z w k (b ∷ bs) [] i = i
take_good p z w k (b ∷ bs) (y ∷ ys) i =
    let u = record (w.wires k) { down = bs } in
    hears_good p z (behind_frame w k bs ys) k b y.place (w.wires k).client_end.stage
    (ap (λ (v : Wires). v.client_end.stage) (put_same w.wires k u))
    (put_good p w.wires k u (record { counter = (i k).counter; next = (i k).next; full = (i k).full }) i)
