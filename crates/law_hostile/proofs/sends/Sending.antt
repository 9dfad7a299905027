-- What an event puts up on a connection whose list is empty: nothing, or one message that the model's client sends there.
use Rattle.std.proofs.Common.{◌≡◌, ℕ, ◌==◌, Bool, true, false, if◌then◌else◌, List, [], ◌∷◌, ◌++◌, ◌⊎◌, inl, inr, refl, sym, ◌∙◌, ap}
use Rattle.std.proofs.Common.{subst, Option, Some, None, eqb-true}
use Rattle.law_server.proofs.tables.Logic.{either}
use Rattle.law_records.proofs.recovery.Lists.{put_here}
use Rattle.spec_exchange.specs.Table.{put}
use Rattle.spec_exchange.specs.Status.{success, more_processing_required}
use Rattle.spec_exchange.specs.State.{Message, Reply, Accept}
use Rattle.spec_exchange.specs.Step.{step}
use Rattle.spec_exchange.specs.Operations.{Refusal, HadStatus, BadToken, weight, charge}
use Rattle.spec_exchange.specs.Client.{Client, Stage, Apart, SaidNegotiate, SaidFirst, SaidSecond, AskedTree, own_message, ask_message}
use Rattle.spec_exchange.specs.ClientStep.{Act, Nothing, Sends, Asks, CloseChannel, CloseChannels, AllSettled, IsCut, IsReady, IsRefused}
use Rattle.spec_exchange.specs.ClientStep.{Pick, Hears, Pushes, act, client_after}
use Rattle.spec_exchange.specs.Dialogs.{DialogStep, GoesOn, Accepts, Binds, Readies, Refuses, dialog_step, dialog_message, went_on, accepted}
use Rattle.spec_exchange.specs.Dialogs.{stage_command}
use Rattle.spec_exchange.specs.Network.{World as Values, Conn, Sent, Received, Token, ForDialog, ForOp, ForAttach, Event, Submit, Open, Push}
use Rattle.spec_exchange.specs.Network.{Serve, Take, Cut, Drop, Restart, Crash, Wait, Finish, cut_off, closed_by, pushed_by, send_up}
use Rattle.spec_exchange.specs.Network.{dialog_took, is_possible, moments, fresh}
use Rattle.spec_commands.specs.ReplyOf.{reply_of}
use Rattle.spec_world.specs.Settings.{WorldSettings, ClientSettings}
use Rattle.spec_world.specs.Messages.{HeardMessage}
use Rattle.spec_world.specs.Ends.{ClientEnd}
use Rattle.spec_world.specs.Dialog.{line_response, dialog_response, status_due, dialog_fault}
use Rattle.spec_world.specs.World.{World, Wires, with_values, off_by, one_off, cut_wires, line_heard, line_hears, dialog_reply}
use Rattle.spec_world.specs.World.{dialog_passed, dialog_hears, hears, take_frame, behind_frame, command_asked, paid}
use Rattle.spec_world.specs.Events.{Plain, bytes_happen, bytes_changed, bytes_later}
use Rattle.spec_hostile.specs.RepeatRuns.{uses_no_list}
use Rattle.law_hostile.specs.sends.OwnSends.{PushSends, DialogSends}
use Rattle.law_hostile.proofs.ids.Sending.{SameUps, closed_same, cut_same, same_put}

-- nothing waits, or one message of which this holds
abbrev pub NoneOr : (Sent → Type 0) → List Sent → Type 0
NoneOr P xs = (xs ≡ []) ⊎ ((x : Sent) × (xs ≡ x ∷ []) × P x)

-- on each connection whose list is empty
abbrev pub PutsBy : (ℕ → Sent → Type 0) → (ℕ → Conn) → (ℕ → Conn) → Type 0
PutsBy P f g = (j : ℕ) → (f j).up ≡ [] → NoneOr (P j) (g j).up

by_same : (P : ℕ → Sent → Type 0) (f g : ℕ → Conn) → SameUps f g → PutsBy P f g
by_same P f g s j e = inl ((s j).0 ∙ e)

pub by_self : (P : ℕ → Sent → Type 0) (f : ℕ → Conn) → PutsBy P f f
by_self P f j e = inl e

by_put : (P : ℕ → Sent → Type 0) (f : ℕ → Conn) (k : ℕ) (d : Conn) → ((f k).up ≡ [] → NoneOr (P k) d.up) → PutsBy P f (put f k d)
by_put P f k d h j e = elim (j == k) as (λ b. j == k ≡ b → NoneOr (P j) (if b then d else f j).up) [
  | true ↦ λ t. let s = eqb-true j k t in
      subst (λ i. NoneOr (P i) d.up) (sym s) (h (subst (λ i. (f i).up ≡ []) s e))
  | false ↦ λ t. inl e
] refl

by_behind : (P : ℕ → Sent → Type 0) (f g h : ℕ → Conn) → SameUps f g → PutsBy P g h → PutsBy P f h
by_behind P f g h s p j e = p j ((s j).0 ∙ e)

one_sent : (P : Sent → Type 0) (c : Conn) (token : Token) (m : Message) (n : ℕ) → P (record { token = token; message = m }) → c.up ≡ []
    → NoneOr P (send_up c token m n).up
one_sent P c token m n p none =
    inr (record { token = token; message = m }, ap (λ us. us ++ record { token = token; message = m } ∷ []) none, p)

-- ---- the client's steps

cut_by_same : (P : ℕ → Sent → Type 0) (w : World) (k : ℕ) → PutsBy P w.values.conns (cut_wires w k).values.conns
cut_by_same P w k =
    let p = by_same P w.values.conns (cut_off w.values k).conns (cut_same w.values k) in
    either (λ (v : World). PutsBy P w.values.conns v.values.conns) (w.values.client.ready k)
    (with_values (off_by w k (act w.values.client (IsCut k))) (cut_off w.values k)) (with_values (one_off w k) (cut_off w.values k))
    (λ _. p) (λ _. p)

pub pushed_sends : (P : ℕ → Sent → Type 0) (v : Values) (k : ℕ) (c : Client) (a : Act)
    → ((x : Sent) → PushSends k (v.conns k).next_id c a x → P k x) → PutsBy P v.conns (pushed_by v k c a).conns
pushed_sends P v k c (Sends g) p =
    let m = own_message c k (v.conns k).next_id g in
    by_put P v.conns k _ (one_sent (P k) (v.conns k) (ForOp g) m (charge (weight (c.op g))) (p (record { token = ForOp g; message = m }) refl))
pushed_sends P v k c (Asks g) p =
    let m = ask_message c k (v.conns k).next_id g in
    by_put P v.conns k _ (one_sent (P k) (v.conns k) (ForAttach g) m 1 (p (record { token = ForAttach g; message = m }) refl))
pushed_sends P v k c Nothing p = by_self P v.conns
pushed_sends P v k c CloseChannel p = by_self P v.conns
pushed_sends P v k c CloseChannels p = by_self P v.conns
pushed_sends P v k c AllSettled p = by_self P v.conns

closed_sends : (P : ℕ → Sent → Type 0) (v : Values) (k : ℕ) (a : Act) → PutsBy P v.conns (closed_by v k a).conns
closed_sends P v k a = by_same P v.conns (closed_by v k a).conns (closed_same v k a)

dialog_sends : (P : ℕ → Sent → Type 0) (v : Values) (k : ℕ) (r : Reply) (d : DialogStep)
    → ((x : Sent) → DialogSends k (v.conns k).next_id v.client r d x → P k x) → PutsBy P v.conns (dialog_took v k r d).conns
dialog_sends P v k r (GoesOn next) p =
    let m = dialog_message (went_on v.client k next r) k (v.conns k).next_id next in
    by_put P v.conns k _ (one_sent (P k) (v.conns k) ForDialog m 1 (p (record { token = ForDialog; message = m }) refl))
dialog_sends P v k r Accepts p =
    let m = dialog_message (accepted v.client k) k (v.conns k).next_id AskedTree in
    by_put P v.conns k _ (one_sent (P k) (v.conns k) ForDialog m 1 (p (record { token = ForDialog; message = m }) refl))
dialog_sends P v k r Binds p = closed_sends P v k (act v.client (IsReady k v.client.session v.client.tree))
dialog_sends P v k r Readies p = closed_sends P v k (act v.client (IsReady k v.client.pending r.tree_id))
dialog_sends P v k r (Refuses status) p = closed_sends P v k (act v.client (IsRefused k (HadStatus status)))

-- ---- Take: what a dialog sends at a response is at one of the status that is due, without a fault

due_if : (k id : ℕ) (c : Client) (r : Reply) (b : Bool) (d : DialogStep) (status : ℕ) (x : Sent)
    → DialogSends k id c r (if b then d else Refuses status) x → b ≡ true
due_if k id c r true d status x h = refl
due_if k id c r false d status x h = absurd h

is_due : (k id : ℕ) (c : Client) (r : Reply) (s : Stage) (status : ℕ) (x : Sent) → DialogSends k id c r (dialog_step s status) x
    → (status == status_due s) ≡ true
is_due k id c r Apart status x h = absurd h
is_due k id c r (SaidNegotiate bound) status x h = due_if k id c r (status == success) (GoesOn (SaidFirst bound)) status x h
is_due k id c r (SaidFirst bound) status x h = due_if k id c r (status == more_processing_required) (GoesOn (SaidSecond bound)) status x h
is_due k id c r (SaidSecond bound) status x h = due_if k id c r (status == success) (if bound then Binds else Accepts) status x h
is_due k id c r AskedTree status x h = due_if k id c r (status == success) Readies status x h

no_fault : (b : Bool) (o : Option Refusal) → (if b then o else None) ≡ None → b ≡ true → o ≡ None
no_fault b o e on = sym (ap (λ q. if q then o else None) on) ∙ e

-- what it sends by such a response has P
abbrev pub SendsBy : (ℕ → Sent → Type 0) → ClientSettings → ℕ → ClientEnd → ℕ → Client → Stage → List ℕ → Type 0
SendsBy P z k n next c s frame =
    (y : HeardMessage) (x : Sent) → dialog_response n s frame ≡ Some y → dialog_fault z n s y ≡ None
    → DialogSends k next c (reply_of (stage_command c s) y.header y.bytes) (dialog_step s y.header.status) x → P k x

passed_sends : (P : ℕ → Sent → Type 0) (z : WorldSettings) (w : World) (k : ℕ) (s : Stage) (frame : List ℕ) (y : HeardMessage)
    (o : Option Refusal) → dialog_response (w.wires k).client_end s frame ≡ Some y
    → (if y.header.status == status_due s then dialog_fault z.client (w.wires k).client_end s y else None) ≡ o
    → SendsBy P z.client k (w.wires k).client_end (w.values.conns k).next_id w.values.client s frame
    → PutsBy P w.values.conns (dialog_passed z w k s y o).values.conns
passed_sends P z w k s frame y (Some why) heard is p = closed_sends P w.values k (act w.values.client (IsRefused k why))
passed_sends P z w k s frame y None heard is p =
    let r = dialog_reply w s y in
    dialog_sends P w.values k r (dialog_step s y.header.status)
    (λ x h. p y x heard
    (no_fault (y.header.status == status_due s) (dialog_fault z.client (w.wires k).client_end s y) is
    (is_due k (w.values.conns k).next_id w.values.client r s y.header.status x h)) h)

response_sends : (P : ℕ → Sent → Type 0) (z : WorldSettings) (w : World) (k : ℕ) (s : Stage) (frame : List ℕ) (o : Option HeardMessage)
    → dialog_response (w.wires k).client_end s frame ≡ o
    → SendsBy P z.client k (w.wires k).client_end (w.values.conns k).next_id w.values.client s frame
    → PutsBy P w.values.conns (dialog_hears z w k s o).values.conns
response_sends P z w k s frame None is p = closed_sends P w.values k (act w.values.client (IsRefused k BadToken))
response_sends P z w k s frame (Some y) is p =
    passed_sends P z w k s frame y
    (if y.header.status == status_due s then dialog_fault z.client (w.wires k).client_end s y else None) is refl p

line_sends : (P : ℕ → Sent → Type 0) (w : World) (k : ℕ) (x : HeardMessage) (place : ℕ) (t : Option Token)
    → PutsBy P w.values.conns (line_heard w k x place t).values.conns
line_sends P w k x place (Some (ForOp g)) =
    closed_sends P w.values k
    (act w.values.client (Hears k g false (reply_of (command_asked w.values.client g false) x.header x.bytes) place))
line_sends P w k x place (Some (ForAttach g)) =
    closed_sends P w.values k
    (act w.values.client (Hears k g true (reply_of (command_asked w.values.client g true) x.header x.bytes) place))
line_sends P w k x place (Some ForDialog) = cut_by_same P w k
line_sends P w k x place None = cut_by_same P w k

on_line_sends : (P : ℕ → Sent → Type 0) (w : World) (k place : ℕ) (o : Option HeardMessage)
    → PutsBy P w.values.conns (line_hears w k place o).values.conns
on_line_sends P w k place None = cut_by_same P w k
on_line_sends P w k place (Some x) = line_sends P w k x place ((w.wires k).client_end.awaited x.header.message)

heard_sends : (P : ℕ → Sent → Type 0) (z : WorldSettings) (w : World) (k : ℕ) (frame : List ℕ) (place : ℕ) (s : Stage)
    → SendsBy P z.client k (w.wires k).client_end (w.values.conns k).next_id w.values.client s frame
    → PutsBy P w.values.conns (hears z w k frame place s).values.conns
heard_sends P z w k frame place Apart p = on_line_sends P w k place (line_response (w.wires k).client_end frame)
heard_sends P z w k frame place (SaidNegotiate bound) p =
    response_sends P z w k (SaidNegotiate bound) frame (dialog_response (w.wires k).client_end (SaidNegotiate bound) frame) refl p
heard_sends P z w k frame place (SaidFirst bound) p =
    response_sends P z w k (SaidFirst bound) frame (dialog_response (w.wires k).client_end (SaidFirst bound) frame) refl p
heard_sends P z w k frame place (SaidSecond bound) p =
    response_sends P z w k (SaidSecond bound) frame (dialog_response (w.wires k).client_end (SaidSecond bound) frame) refl p
heard_sends P z w k frame place AskedTree p =
    response_sends P z w k AskedTree frame (dialog_response (w.wires k).client_end AskedTree frame) refl p

-- its end, and its next id, of any two connections alike
pub sends_alike : (P : ℕ → Sent → Type 0) (z : ClientSettings) (k : ℕ) (n m : ClientEnd) (a b : ℕ) (c : Client) (frame : List ℕ)
    → m ≡ n → b ≡ a → SendsBy P z k n a c n.stage frame → SendsBy P z k m b c m.stage frame
sends_alike P z k n m a b c frame e f p =
    subst (λ (i : ClientEnd). SendsBy P z k i b c i.stage frame) (sym e)
    (subst (λ i. SendsBy P z k n i c n.stage frame) (sym f) p)

pub frame_sends : (P : ℕ → Sent → Type 0) (z : WorldSettings) (w : World) (k : ℕ) (bs : List (List ℕ)) (ys : List Received) (frame : List ℕ)
    → bs ≡ frame ∷ []
    → SendsBy P z.client k (w.wires k).client_end (w.values.conns k).next_id w.values.client (w.wires k).client_end.stage frame
    → PutsBy P w.values.conns (take_frame z w k bs ys).values.conns
frame_sends P z w k [] ys frame is p = by_self P w.values.conns
frame_sends P z w k (b ∷ bs) [] frame is p = by_self P w.values.conns
frame_sends P z w k (b ∷ bs) (y ∷ ys) frame is p =
    let v = behind_frame w k bs ys in
    let n = (w.wires k).client_end in
    let same : (v.wires k).client_end ≡ n = ap (λ (u : Wires). u.client_end) (put_here w.wires k _) in
    let next : (v.values.conns k).next_id ≡ (w.values.conns k).next_id = ap (λ (c : Conn). c.next_id) (put_here w.values.conns k _) in
    let b_is : frame ≡ b = cc in
    let q : SendsBy P z.client k (v.wires k).client_end (v.values.conns k).next_id v.values.client (v.wires k).client_end.stage b =
    sends_alike P z.client k n (v.wires k).client_end (w.values.conns k).next_id (v.values.conns k).next_id w.values.client b same next
    (subst (λ f. SendsBy P z.client k n (w.values.conns k).next_id w.values.client n.stage f) b_is p) in
    by_behind P w.values.conns v.values.conns (hears z v k b y.place n.stage).values.conns (same_put w.values.conns k _ refl refl)
    (heard_sends P z v k b y.place n.stage
    (subst (λ (s : Stage). SendsBy P z.client k (v.wires k).client_end (v.values.conns k).next_id v.values.client s b)
    (ap (λ (i : ClientEnd). i.stage) same) q))

-- ---- an event

pub happen_sends : (P : ℕ → Sent → Type 0) (z : WorldSettings) (w : World) (e : Event)
    → (is_possible w.values e ≡ true → PutsBy P w.values.conns (bytes_changed z w e).values.conns)
    → PutsBy P w.values.conns (bytes_happen z w (Plain e)).values.conns
happen_sends P z w e h =
    either (λ (v : World). PutsBy P w.values.conns v.values.conns) (is_possible w.values e)
    (bytes_later (bytes_changed z w e) (moments e)) w (λ on. h on) (λ _. by_self P w.values.conns)

-- the client opens a connection
opened_sends : (P : ℕ → Sent → Type 0) (z : WorldSettings) (w : World) (k : ℕ)
    → P k (record { token = ForDialog; message = dialog_message w.values.client k 0 (SaidNegotiate w.values.client.live) })
    → PutsBy P w.values.conns (bytes_changed z w (Open k)).values.conns
opened_sends P z w k p =
    let served = (step w.values.server w.values.moment (Accept k)).reply.status == success in
    by_put P w.values.conns k (fresh w.values.client k served) (λ _. by served)
  where
    by : (b : Bool) → NoneOr (P k) (fresh w.values.client k b).up
    by true = inr (
      record {
        token = ForDialog;
        message = dialog_message w.values.client k 0 (SaidNegotiate w.values.client.live);
      },
      refl,
      p,
    )
    by false = inl refl

-- what it sends at an event that uses no list has P
pub record SendsOf (P : ℕ → Sent → Type 0) (w : World) (e : Event) : Type 0 where
  pub opens :
      (k : ℕ) → e ≡ Open k → is_possible w.values e ≡ true
      → P k (record { token = ForDialog; message = dialog_message w.values.client k 0 (SaidNegotiate w.values.client.live) })
  pub pushes :
      (k : ℕ) (slotless : List ℕ) (pick : Option Pick) → e ≡ Push k slotless pick → is_possible w.values e ≡ true → (x : Sent)
      → PushSends k (w.values.conns k).next_id (client_after w.values.client (Pushes k slotless (paid w k slotless pick)))
      (act w.values.client (Pushes k slotless (paid w k slotless pick))) x → P k x

pub still_sends : (P : ℕ → Sent → Type 0) (z : WorldSettings) (w : World) (e : Event) → uses_no_list e ≡ true → SendsOf P w e
    → is_possible w.values e ≡ true → PutsBy P w.values.conns (bytes_changed z w e).values.conns
still_sends P z w (Submit g op) s p may = by_self P w.values.conns
still_sends P z w (Open k) s p may = opened_sends P z w k (p.opens k refl may)
still_sends P z w (Push k slotless pick) s p may =
    let e = Pushes k slotless (paid w k slotless pick) in
    pushed_sends P w.values k (client_after w.values.client e) (act w.values.client e) (p.pushes k slotless pick refl may)
still_sends P z w (Serve k) s p may = absurd (cc)
still_sends P z w (Take k) s p may = absurd (cc)
still_sends P z w (Cut k) s p may = cut_by_same P w k
still_sends P z w (Drop k) s p may = by_put P w.values.conns k _ (λ e. inl refl)
still_sends P z w Restart s p may = λ j e. inl refl
still_sends P z w (Crash k kept) s p may = absurd (cc)
still_sends P z w (Wait n) s p may = absurd (cc)
still_sends P z w (Finish refusal) s p may = absurd (cc)
