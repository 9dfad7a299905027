-- What an event puts up on a connection whose list is empty: nothing, or one message under the next id, which rises.
use Rattle.std.proofs.Common.{◌≡◌, ℕ, ◌+◌, ◌-◌, ◌/◌, ◌≤◌, ◌<◌, ◌==◌, Bool, true, false, if◌then◌else◌, List, [], ◌∷◌, ◌++◌, ◌⊎◌, inl, inr, refl}
use Rattle.std.proofs.Common.{sym, ◌∙◌, ap, arith, subst, Option, Some, None, eqb-true}
use Rattle.law_server.proofs.tables.Logic.{either}
use Rattle.spec_exchange.specs.Table.{put}
use Rattle.spec_exchange.specs.State.{Reply}
use Rattle.spec_exchange.specs.Operations.{Refusal, HadStatus, BadToken, weight, charge}
use Rattle.spec_exchange.specs.Client.{Client, Stage, Apart, SaidNegotiate, SaidFirst, SaidSecond, AskedTree, own_message, ask_message}
use Rattle.spec_exchange.specs.ClientStep.{Act, Nothing, Sends, Asks, CloseChannel, CloseChannels, AllSettled, IsCut, IsReady, IsRefused}
use Rattle.spec_exchange.specs.ClientStep.{Hears, Pushes, ClientEvent, act, client_after}
use Rattle.spec_exchange.specs.Dialogs.{DialogStep, GoesOn, Accepts, Binds, Readies, Refuses, dialog_step, dialog_message, went_on, accepted}
use Rattle.spec_exchange.specs.Network.{World as Values, Conn, Sent, Received, Token, ForDialog, ForOp, ForAttach, Event, Submit, Open, Push}
use Rattle.spec_exchange.specs.Network.{Serve, Take, Cut, Drop, Restart, Crash, Wait, Finish, cut_off, cut_by, closed_by, pushed_by, send_up}
use Rattle.spec_exchange.specs.Network.{dialog_ended, dialog_took, is_possible, moments}
use Rattle.spec_commands.specs.ReplyOf.{reply_of}
use Rattle.spec_world.specs.Settings.{WorldSettings}
use Rattle.spec_world.specs.Messages.{HeardMessage}
use Rattle.spec_world.specs.Dialog.{line_response, dialog_response, status_due, dialog_fault}
use Rattle.spec_world.specs.World.{World, with_values, off_by, one_off, cut_wires, op_heard, line_heard, line_hears, dialog_reply}
use Rattle.spec_world.specs.World.{dialog_passed, dialog_hears, hears, take_frame, behind_frame, command_asked}
use Rattle.spec_world.specs.World.{paid}
use Rattle.spec_world.specs.Events.{Plain, bytes_happen, bytes_changed, bytes_later}
use Rattle.spec_hostile.specs.RepeatRuns.{uses_no_list, is_opening}

-- one message waits, under this id, and the next one is above it
pub record PutsOne (id : ℕ) (d : Conn) : Type 0 where
  pub sent : Sent
  pub up : d.up ≡ sent ∷ []
  pub numbered : sent.message.message_id ≡ id
  pub below : id < d.next_id

pub record Puts (c d : Conn) : Type 0 where
  pub keeps : c.next_id ≤ d.next_id
  pub puts : (d.up ≡ []) ⊎ PutsOne c.next_id d

-- on each connection whose list is empty
abbrev pub PutsAll : (ℕ → Conn) → (ℕ → Conn) → Type 0
PutsAll f g = (j : ℕ) → (f j).up ≡ [] → Puts (f j) (g j)

abbrev pub SameUps : (ℕ → Conn) → (ℕ → Conn) → Type 0
SameUps f g = (j : ℕ) → ((g j).up ≡ (f j).up) × ((g j).next_id ≡ (f j).next_id)

-- ---- tables

le_self : (n : ℕ) → n ≤ n
le_self n = omega arith

le_same : (n m : ℕ) → m ≡ n → n ≤ m
le_same n m e = omega (arith, e)

pub none_put : (c d : Conn) → d.up ≡ [] → d.next_id ≡ c.next_id → Puts c d
none_put c d e f = record { keeps = le_same c.next_id d.next_id f; puts = inl e }

puts_same : (f g : ℕ → Conn) → SameUps f g → PutsAll f g
puts_same f g s j e = none_put (f j) (g j) ((s j).0 ∙ e) (s j).1

pub same_self : (f : ℕ → Conn) → SameUps f f
same_self f j = (refl, refl)

-- another row at k, whose list and next id are the old one's
pub same_put : (f : ℕ → Conn) (k : ℕ) (d : Conn) → d.up ≡ (f k).up → d.next_id ≡ (f k).next_id → SameUps f (put f k d)
same_put f k d e n j = elim (j == k) as (λ b. j == k ≡ b
    → ((if b then d else f j).up ≡ (f j).up) × ((if b then d else f j).next_id ≡ (f j).next_id)) [
      | true ↦ λ t. let s = eqb-true j k t in subst (λ i. (d.up ≡ (f i).up) × (d.next_id ≡ (f i).next_id)) (sym s) (e, n)
      | false ↦ λ t. (refl, refl)
    ] refl

-- another row at k
puts_put : (f : ℕ → Conn) (k : ℕ) (d : Conn) → ((f k).up ≡ [] → Puts (f k) d) → PutsAll f (put f k d)
puts_put f k d h j e = elim (j == k) as (λ b. j == k ≡ b → Puts (f j) (if b then d else f j)) [
  | true ↦ λ t. let s = eqb-true j k t in
      subst (λ i. Puts (f i) d) (sym s) (h (subst (λ i. (f i).up ≡ []) s e))
  | false ↦ λ t. none_put (f j) (f j) e refl
] refl

-- the same lists first
puts_behind : (f g h : ℕ → Conn) → SameUps f g → PutsAll g h → PutsAll f h
puts_behind f g h s p j e =
    let q = p j ((s j).0 ∙ e) in
    let n = (s j).1 in
    record {
      keeps = subst (λ i. i ≤ (h j).next_id) n q.keeps;
      puts = subst (λ i. ((h j).up ≡ []) ⊎ PutsOne i (h j)) n q.puts;
    }

-- ---- one message goes up

more_than : (n m : ℕ) → 1 ≤ m → n < n + m
more_than n m l = omega (arith, l)

no_less : (n m : ℕ) → n ≤ n + m
no_less n m = omega arith

one_sent : (c : Conn) (x : Sent) (n : ℕ) → x.message.message_id ≡ c.next_id → 1 ≤ n → c.up ≡ [] → Puts c (send_up c x.token x.message n)
one_sent c x n e l none =
    record {
      keeps = no_less c.next_id n;
      puts = inr (record {
        sent = record { token = x.token; message = x.message };
        up = ap (λ us. us ++ record { token = x.token; message = x.message } ∷ []) none;
        numbered = e;
        below = more_than c.next_id n l;
      });
    }

pub charged : (n : ℕ) → 1 ≤ charge n
charged n = either (λ m. 1 ≤ m) (n == 0) 1 ((n - 1) / 65536 + 1) (λ _. omega arith) (λ _. at_least ((n - 1) / 65536))
  where
    at_least : (m : ℕ) → 1 ≤ m + 1
    at_least m = omega arith

-- ---- the client's steps

pub closed_same : (v : Values) (k : ℕ) (a : Act) → SameUps v.conns (closed_by v k a).conns
closed_same v k CloseChannels = λ j. (refl, refl)
closed_same v k CloseChannel = same_put v.conns k _ refl refl
closed_same v k Nothing = same_self v.conns
closed_same v k (Sends g) = same_self v.conns
closed_same v k (Asks g) = same_self v.conns
closed_same v k AllSettled = same_self v.conns

cut_by_same : (v : Values) (k : ℕ) (a : Act) → SameUps v.conns (cut_by v k a).conns
cut_by_same v k CloseChannels = λ j. (refl, refl)
cut_by_same v k CloseChannel = same_put v.conns k _ refl refl
cut_by_same v k Nothing = same_put v.conns k _ refl refl
cut_by_same v k (Sends g) = same_put v.conns k _ refl refl
cut_by_same v k (Asks g) = same_put v.conns k _ refl refl
cut_by_same v k AllSettled = same_put v.conns k _ refl refl

pub cut_same : (v : Values) (k : ℕ) → SameUps v.conns (cut_off v k).conns
cut_same v k =
    either (λ (u : Values). SameUps v.conns u.conns) (v.client.ready k) _ _
    (λ _. cut_by_same v k (act v.client (IsCut k))) (λ _. same_put v.conns k _ refl refl)

cut_puts : (w : World) (k : ℕ) → PutsAll w.values.conns (cut_wires w k).values.conns
cut_puts w k =
    let p = puts_same w.values.conns (cut_off w.values k).conns (cut_same w.values k) in
    either (λ (v : World). PutsAll w.values.conns v.values.conns) (w.values.client.ready k)
    (with_values (off_by w k (act w.values.client (IsCut k))) (cut_off w.values k)) (with_values (one_off w k) (cut_off w.values k))
    (λ _. p) (λ _. p)

pushed_puts : (v : Values) (k : ℕ) (c : Client) (a : Act) → PutsAll v.conns (pushed_by v k c a).conns
pushed_puts v k c (Sends g) = puts_put v.conns k _ (one_sent (v.conns k) (record {
  token = ForOp g;
  message = own_message c k (v.conns k).next_id g;
}) (charge (weight (c.op g))) refl (charged (weight (c.op g))))
pushed_puts v k c (Asks g) = puts_put v.conns k _ (one_sent (v.conns k) (record {
  token = ForAttach g;
  message = ask_message c k (v.conns k).next_id g;
}) 1 refl (omega arith))
pushed_puts v k c Nothing = puts_same v.conns v.conns (same_self v.conns)
pushed_puts v k c CloseChannel = puts_same v.conns v.conns (same_self v.conns)
pushed_puts v k c CloseChannels = puts_same v.conns v.conns (same_self v.conns)
pushed_puts v k c AllSettled = puts_same v.conns v.conns (same_self v.conns)

closed_puts : (v : Values) (k : ℕ) (a : Act) → PutsAll v.conns (closed_by v k a).conns
closed_puts v k a = puts_same v.conns (closed_by v k a).conns (closed_same v k a)

ended_puts : (v : Values) (k : ℕ) (e : ClientEvent) → PutsAll v.conns (dialog_ended v k e).conns
ended_puts v k e = closed_puts v k (act v.client e)

went_puts : (v : Values) (c : Client) (k : ℕ) (stage : Stage)
    → PutsAll v.conns (put v.conns k (send_up (v.conns k) ForDialog (dialog_message c k (v.conns k).next_id stage) 1))
went_puts v c k stage = puts_put v.conns k _ (one_sent (v.conns k) (record {
  token = ForDialog;
  message = dialog_message c k (v.conns k).next_id stage;
}) 1 refl (omega arith))

took_puts : (v : Values) (k : ℕ) (r : Reply) (d : DialogStep) → PutsAll v.conns (dialog_took v k r d).conns
took_puts v k r (GoesOn stage) = went_puts v (went_on v.client k stage r) k stage
took_puts v k r Accepts = went_puts v (accepted v.client k) k AskedTree
took_puts v k r Binds = ended_puts v k (IsReady k v.client.session v.client.tree)
took_puts v k r Readies = ended_puts v k (IsReady k v.client.pending r.tree_id)
took_puts v k r (Refuses status) = ended_puts v k (IsRefused k (HadStatus status))

-- ---- Take

op_puts : (w : World) (k g : ℕ) (asking : Bool) (x : HeardMessage) (place : ℕ)
    → PutsAll w.values.conns (op_heard w k g asking x place).values.conns
op_puts w k g asking x place =
    closed_puts w.values k
    (act w.values.client (Hears k g asking (reply_of (command_asked w.values.client g asking) x.header x.bytes) place))

line_puts : (w : World) (k : ℕ) (x : HeardMessage) (place : ℕ) (t : Option Token)
    → PutsAll w.values.conns (line_heard w k x place t).values.conns
line_puts w k x place (Some (ForOp g)) = op_puts w k g false x place
line_puts w k x place (Some (ForAttach g)) = op_puts w k g true x place
line_puts w k x place (Some ForDialog) = cut_puts w k
line_puts w k x place None = cut_puts w k

hears_puts : (w : World) (k place : ℕ) (o : Option HeardMessage) → PutsAll w.values.conns (line_hears w k place o).values.conns
hears_puts w k place None = cut_puts w k
hears_puts w k place (Some x) = line_puts w k x place ((w.wires k).client_end.awaited x.header.message)

passed_puts : (z : WorldSettings) (w : World) (k : ℕ) (stage : Stage) (x : HeardMessage) (o : Option Refusal)
    → PutsAll w.values.conns (dialog_passed z w k stage x o).values.conns
passed_puts z w k stage x (Some why) = ended_puts w.values k (IsRefused k why)
passed_puts z w k stage x None = took_puts w.values k (dialog_reply w stage x) (dialog_step stage x.header.status)

response_puts : (z : WorldSettings) (w : World) (k : ℕ) (stage : Stage) (o : Option HeardMessage)
    → PutsAll w.values.conns (dialog_hears z w k stage o).values.conns
response_puts z w k stage None = ended_puts w.values k (IsRefused k BadToken)
response_puts z w k stage (Some x) =
    passed_puts z w k stage x (if x.header.status == status_due stage then dialog_fault z.client (w.wires k).client_end stage x else None)

heard_puts : (z : WorldSettings) (w : World) (k : ℕ) (frame : List ℕ) (place : ℕ) (s : Stage)
    → PutsAll w.values.conns (hears z w k frame place s).values.conns
heard_puts z w k frame place Apart = hears_puts w k place (line_response (w.wires k).client_end frame)
heard_puts z w k frame place (SaidNegotiate bound) =
    response_puts z w k (SaidNegotiate bound) (dialog_response (w.wires k).client_end (SaidNegotiate bound) frame)
heard_puts z w k frame place (SaidFirst bound) =
    response_puts z w k (SaidFirst bound) (dialog_response (w.wires k).client_end (SaidFirst bound) frame)
heard_puts z w k frame place (SaidSecond bound) =
    response_puts z w k (SaidSecond bound) (dialog_response (w.wires k).client_end (SaidSecond bound) frame)
heard_puts z w k frame place AskedTree = response_puts z w k AskedTree (dialog_response (w.wires k).client_end AskedTree frame)

take_puts : (z : WorldSettings) (w : World) (k : ℕ) (bs : List (List ℕ)) (ys : List Received)
    → PutsAll w.values.conns (take_frame z w k bs ys).values.conns
take_puts z w k [] ys = puts_same w.values.conns w.values.conns (same_self w.values.conns)
take_puts z w k (b ∷ bs) [] = puts_same w.values.conns w.values.conns (same_self w.values.conns)
take_puts z w k (b ∷ bs) (y ∷ ys) =
    let v = behind_frame w k bs ys in
    puts_behind w.values.conns v.values.conns (hears z v k b y.place (w.wires k).client_end.stage).values.conns
    (same_put w.values.conns k _ refl refl) (heard_puts z v k b y.place (w.wires k).client_end.stage)

-- ---- the events that put nothing on a list that they don't open

changed_puts : (z : WorldSettings) (w : World) (e : Event) → uses_no_list e ≡ true → is_opening e ≡ false
    → PutsAll w.values.conns (bytes_changed z w e).values.conns
changed_puts z w (Submit g op) s o = puts_same w.values.conns w.values.conns (same_self w.values.conns)
changed_puts z w (Open k) s o = absurd (let q : true ≡ false = o in cc)
changed_puts z w (Push k slotless pick) s o =
    let p = Pushes k slotless (paid w k slotless pick) in
    pushed_puts w.values k (client_after w.values.client p) (act w.values.client p)
changed_puts z w (Serve k) s o = absurd (cc)
changed_puts z w (Take k) s o = absurd (cc)
changed_puts z w (Cut k) s o = cut_puts w k
changed_puts z w (Drop k) s o = puts_put w.values.conns k _ (λ e. none_put (w.values.conns k) _ refl refl)
changed_puts z w Restart s o = λ j e. none_put (w.values.conns j) _ refl refl
changed_puts z w (Crash k kept) s o = absurd (cc)
changed_puts z w (Wait n) s o = absurd (cc)
changed_puts z w (Finish refusal) s o = absurd (cc)

happen_puts : (z : WorldSettings) (w : World) (e : Event) → PutsAll w.values.conns (bytes_changed z w e).values.conns
    → PutsAll w.values.conns (bytes_happen z w (Plain e)).values.conns
happen_puts z w e h =
    either (λ (v : World). PutsAll w.values.conns v.values.conns) (is_possible w.values e)
    (bytes_later (bytes_changed z w e) (moments e)) w (λ _. h) (λ _. puts_same w.values.conns w.values.conns (same_self w.values.conns))

pub same_puts : (z : WorldSettings) (w : World) (e : Event) → uses_no_list e ≡ true → is_opening e ≡ false
    → PutsAll w.values.conns (bytes_happen z w (Plain e)).values.conns
same_puts z w e s o = happen_puts z w e (changed_puts z w e s o)

pub takes_puts : (z : WorldSettings) (w : World) (k : ℕ) → PutsAll w.values.conns (bytes_happen z w (Plain (Take k))).values.conns
takes_puts z w k = happen_puts z w (Take k) (take_puts z w k (w.wires k).down (w.values.conns k).down)
