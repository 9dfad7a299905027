-- Each event makes the lists of frames and those of messages longer and shorter alike.
use Rattle.std.proofs.Common.{◌≡◌, ℕ, ◌+◌, ◌==◌, Bool, true, false, if◌then◌else◌, List, [], ◌∷◌, ◌++◌, length, refl}
use Rattle.std.proofs.Common.{sym, ◌∙◌, ap, subst, eqb-true, arith, Option, Some, None}
use Rattle.std.proofs.lemmas.List.{length-append, append-nil, append_assoc}
use Rattle.spec_exchange.specs.Table.{put}
use Rattle.spec_exchange.specs.Status.{success, more_processing_required}
use Rattle.spec_exchange.specs.State.{Message, Accept}
use Rattle.spec_exchange.specs.Operations.{Refusal, BadToken, HadStatus, weight, charge}
use Rattle.spec_exchange.specs.Client.{Client, Stage, Apart, SaidNegotiate, SaidFirst, SaidSecond, AskedTree, own_message}
use Rattle.spec_exchange.specs.Client.{ask_message, leave_dialog}
use Rattle.spec_exchange.specs.ClientStep.{Act, Nothing, Sends, Asks, CloseChannel, CloseChannels, AllSettled, IsCut}
use Rattle.spec_exchange.specs.ClientStep.{IsReady, IsRefused, Hears, act, client_after, Pushes}
use Rattle.spec_exchange.specs.Dialogs.{DialogStep, GoesOn, Accepts, Binds, Readies, Refuses, dialog_step, dialog_message}
use Rattle.spec_exchange.specs.Step.{step}
use Rattle.spec_exchange.specs.Network.{World as Values, Conn, Sent, Received, Token, ForDialog, ForOp, ForAttach, with_client, send_up}
use Rattle.spec_exchange.specs.Network.{fresh, server_off, client_off, take_front, behind_front, say_down, replied, pushed_by}
use Rattle.spec_exchange.specs.Network.{one_cut, closed_by, cut_by, dialog_took, moments, is_possible}
use Rattle.spec_exchange.specs.Network.{Event, Submit, Open, Push, Serve, Take, Cut, Drop, Restart, Crash, Wait, Finish}
use Rattle.spec_commands.specs.ReplyOf.{reply_of}
use Rattle.spec_world.specs.Settings.{WorldSettings}
use Rattle.spec_world.specs.Messages.{HeardMessage}
use Rattle.spec_world.specs.Ends.{ClientEnd, ServerEnd, ConnEnd}
use Rattle.spec_world.specs.Dialog.{status_due, dialog_fault, accepted_end, bound_end, noted_heard, paid_in, line_response, dialog_response}
use Rattle.spec_world.specs.Connection.{LastTaken, ConnectionStep}
use Rattle.spec_world.specs.World.{World, Wires, with_values, with_client_end, queued, pushed_wires, paid}
use Rattle.spec_world.specs.World.{client_end_off, one_off, closed_wires, off_by, cut_wires, op_heard, line_heard, line_hears}
use Rattle.spec_world.specs.World.{dialog_off, channel_bound}
use Rattle.spec_world.specs.World.{dialog_reply, dialog_wires, dialog_passed, dialog_hears, hears, behind_frame, take_frame, command_asked}
use Rattle.spec_world.specs.World.{opened_wires, fresh_wires, greeting_of, server_end_off, dropped_wires, values_took}
use Rattle.spec_world.specs.World.{replied_each, last_reply, served_on, served_mutely, served_by, step_at, serve_frame}
use Rattle.spec_world.specs.World.{absorb_frame, restarted_wires}
use Rattle.spec_world.specs.Events.{ByteEvent, Plain, Tamper, with_front, tampered, may_tamper, bytes_changed}
use Rattle.spec_world.specs.Events.{bytes_later, bytes_happen, bytes_run, bytes_start}
use Rattle.spec_world.specs.Statements.{AreAlong, ListsAreAlong}

-- ---- tables

either : {X : Type 0} (P : X → Type 0) (b : Bool) (x y : X) → (b ≡ true → P x) → (b ≡ false → P y) → P (if b then x else y)
either P true x y f g = f refl
either P false x y f g = g refl

-- of one connection
record IsAlong (u : Wires) (c : Conn) : Type 0 where
  up : length u.up ≡ length c.up
  down : length u.down ≡ length c.down

abbrev Along : (ℕ → Wires) → (ℕ → Conn) → Type 0
Along wires conns = (k : ℕ) → IsAlong (wires k) (conns k)

abbrev Keeps : World → Type 0
Keeps w = Along w.wires w.values.conns

-- one connection changes
put_along : (wires : ℕ → Wires) (conns : ℕ → Conn) (k : ℕ) (u : Wires) (c : Conn) → IsAlong u c → Along wires conns
    → Along (put wires k u) (put conns k c)
put_along wires conns k u c here there j = elim (j == k) as (λ b. IsAlong (if b then u else wires j) (if b then c else conns j)) [
  | true ↦ here
  | false ↦ there j
]

-- the wires alone, or the messages alone, in what isn't counted
wires_along : (wires : ℕ → Wires) (conns : ℕ → Conn) (k : ℕ) (u : Wires) → IsAlong u (conns k) → Along wires conns
    → Along (put wires k u) conns
wires_along wires conns k u here there j = elim (j == k) as (λ b. j == k ≡ b → IsAlong (if b then u else wires j) (conns j)) [
  | true ↦ λ e. subst (λ i. IsAlong u (conns i)) (sym (eqb-true j k e)) here
  | false ↦ λ _. there j
] refl

put_same : {X : Type 0} (f : ℕ → X) (k : ℕ) (v : X) → put f k v k ≡ v
put_same f k v = grind arith

put_twice : {X : Type 0} (f : ℕ → X) (k : ℕ) (a b : X) (j : ℕ) → put (put f k a) k b j ≡ put f k b j
put_twice f k a b j = elim (j == k) as (λ x. (if x then b else (if x then a else f j)) ≡ (if x then b else f j)) [
  | true ↦ refl
  | false ↦ refl
]

-- ---- one more

more : {X Y : Type 0} (xs : List X) (ys : List Y) (x : X) (y : Y) → length xs ≡ length ys → length (xs ++ x ∷ []) ≡ length (ys ++ y ∷ [])
more xs ys x y e = length-append xs (x ∷ []) ∙ ap (λ n. n + 1) e ∙ sym (length-append ys (y ∷ []))

-- ---- a request goes up

sent_along : (u : Wires) (c : Conn) (n : ClientEnd) (frame : List ℕ) (token : Token) (m : Message) (count : ℕ) → IsAlong u c
    → IsAlong (queued u n frame) (send_up c token m count)
sent_along u c n frame token m count i =
    record { up = more u.up c.up frame (record { token = token; message = m }) i.up; down = i.down }

pushed_along : (w : World) (k : ℕ) (c : Client) (a : Act) → Keeps w → Along (pushed_wires w k c a).wires (pushed_by w.values k c a).conns
pushed_along w k c (Sends g) i =
    put_along w.wires w.values.conns k _ _
    (sent_along (w.wires k) (w.values.conns k) _ _ (ForOp g) (own_message c k (w.values.conns k).next_id g)
    (charge (weight (c.op g))) (i k)) i
pushed_along w k c (Asks g) i =
    put_along w.wires w.values.conns k _ _
    (sent_along (w.wires k) (w.values.conns k) _ _ (ForAttach g) (ask_message c k (w.values.conns k).next_id g) 1 (i k)) i
pushed_along w k c Nothing i = i
pushed_along w k c CloseChannel i = i
pushed_along w k c CloseChannels i = i
pushed_along w k c AllSettled i = i

-- ---- the client's ends close

-- what a cut leaves of the values, by whether the channel is ready
abbrev cut_values : Values → ℕ → Bool → Values
cut_values v k b =
    if b then with_client (cut_by v k (act v.client (IsCut k))) (client_after v.client (IsCut k))
    else one_cut (with_client v (leave_dialog v.client k)) k

off_one : (u : Wires) (c : Conn) → IsAlong u c → IsAlong (client_end_off u) (client_off c)
off_one u c i = record { up = i.up; down = refl }

closed_along : (x : World) (v : Values) (k : ℕ) (a : Act) → Along x.wires v.conns
    → Along (closed_wires x k a).wires (closed_by v k a).conns
closed_along x v k CloseChannels i = λ j. off_one (x.wires j) (v.conns j) (i j)
closed_along x v k CloseChannel i = put_along x.wires v.conns k _ _ (off_one (x.wires k) (v.conns k) (i k)) i
closed_along x v k Nothing i = i
closed_along x v k (Sends g) i = i
closed_along x v k (Asks g) i = i
closed_along x v k AllSettled i = i

off_along : (w : World) (k : ℕ) (a : Act) → Keeps w → Along (off_by w k a).wires (cut_by w.values k a).conns
off_along w k CloseChannels i = λ j. off_one (w.wires j) (w.values.conns j) (i j)
off_along w k CloseChannel i = put_along w.wires w.values.conns k _ _ (off_one (w.wires k) (w.values.conns k) (i k)) i
off_along w k Nothing i = put_along w.wires w.values.conns k _ _ (off_one (w.wires k) (w.values.conns k) (i k)) i
off_along w k (Sends g) i = put_along w.wires w.values.conns k _ _ (off_one (w.wires k) (w.values.conns k) (i k)) i
off_along w k (Asks g) i = put_along w.wires w.values.conns k _ _ (off_one (w.wires k) (w.values.conns k) (i k)) i
off_along w k AllSettled i = put_along w.wires w.values.conns k _ _ (off_one (w.wires k) (w.values.conns k) (i k)) i

-- both tests of whether the channel is ready are one
cut_along : (w : World) (k : ℕ) → Keeps w → Keeps (cut_wires w k)
cut_along w k i = elim (w.values.client.ready k) as (λ b. Keeps (
    if b then with_values (off_by w k (act w.values.client (IsCut k))) (cut_values w.values k b)
    else with_values (one_off w k) (cut_values w.values k b)
    )) [
      | true ↦ off_along w k (act w.values.client (IsCut k)) i
      | false ↦ put_along w.wires w.values.conns k _ _ (off_one (w.wires k) (w.values.conns k) (i k)) i
    ]

-- ---- a line's reply

same_lists : (u : Wires) (c : Conn) (n : ClientEnd) → IsAlong u c → IsAlong (record u { client_end = n }) c
same_lists u c n i = record { up = i.up; down = i.down }

ended_along : (w : World) (k : ℕ) (n : ClientEnd) → Keeps w → Along (with_client_end w k n).wires w.values.conns
ended_along w k n i = wires_along w.wires w.values.conns k _ (same_lists (w.wires k) (w.values.conns k) n (i k)) i

op_along : (w : World) (k g : ℕ) (asking : Bool) (x : HeardMessage) (place : ℕ) → Keeps w → Keeps (op_heard w k g asking x place)
op_along w k g asking x place i =
    let n = paid_in (w.wires k).client_end x.header in
    closed_along (with_client_end w k n) w.values k
    (act w.values.client (Hears k g asking (reply_of (command_asked w.values.client g asking) x.header x.bytes) place))
    (ended_along w k n i)

line_heard_along : (w : World) (k : ℕ) (x : HeardMessage) (place : ℕ) (o : Option Token) → Keeps w → Keeps (line_heard w k x place o)
line_heard_along w k x place None i = cut_along w k i
line_heard_along w k x place (Some ForDialog) i = cut_along w k i
line_heard_along w k x place (Some (ForOp g)) i = op_along w k g false x place i
line_heard_along w k x place (Some (ForAttach g)) i = op_along w k g true x place i

line_along : (w : World) (k place : ℕ) (o : Option HeardMessage) → Keeps w → Keeps (line_hears w k place o)
line_along w k place None i = cut_along w k i
line_along w k place (Some x) i = line_heard_along w k x place ((w.wires k).client_end.awaited x.header.message) i

-- ---- a dialog's response

-- a request of a dialog goes up behind a change of the client's end
asked_along : (w : World) (k : ℕ) (wires : ℕ → Wires) (a : ClientEnd) (n : ClientEnd) (frame : List ℕ) (m : Message) → Keeps w
    → wires ≡ put w.wires k (record (w.wires k) { client_end = a })
    → Along (put wires k (queued (wires k) n frame)) (put w.values.conns k (send_up (w.values.conns k) ForDialog m 1))
asked_along w k wires a n frame m i is =
    let u = record (w.wires k) { client_end = a } in
    let old : Along wires w.values.conns = subst (λ f. Along f w.values.conns) (sym is) (ended_along w k a i) in
    put_along wires w.values.conns k _ _ (sent_along (wires k) (w.values.conns k) n frame ForDialog m 1 (old k)) old

abbrev Heeds : WorldSettings → World → ℕ → Stage → HeardMessage → DialogStep → Type 0
Heeds z w k stage x s = Along (dialog_wires z w k stage x s).wires (dialog_took w.values k (dialog_reply w stage x) s).conns

refused_along : (z : WorldSettings) (w : World) (k : ℕ) (stage : Stage) (x : HeardMessage) (status : ℕ) → Keeps w
    → Heeds z w k stage x (Refuses status)
refused_along z w k stage x status i = closed_along w w.values k (act w.values.client (IsRefused k (HadStatus status))) i

passed_along : (z : WorldSettings) (w : World) (k : ℕ) (stage : Stage) (x : HeardMessage) → Keeps w
    → Heeds z w k stage x (dialog_step stage x.header.status)
passed_along z w k Apart x i = refused_along z w k Apart x x.header.status i
passed_along z w k (SaidNegotiate bound) x i =
    either (Heeds z w k (SaidNegotiate bound) x) (x.header.status == success) (GoesOn (SaidFirst bound)) (Refuses x.header.status)
    (λ _. asked_along w k _ (noted_heard (w.wires k).client_end (SaidNegotiate bound) x) _ _ _ i refl)
    (λ _. refused_along z w k (SaidNegotiate bound) x x.header.status i)
passed_along z w k (SaidFirst bound) x i =
    either (Heeds z w k (SaidFirst bound) x) (x.header.status == more_processing_required) (GoesOn (SaidSecond bound))
    (Refuses x.header.status)
    (λ _. asked_along w k _ (noted_heard (w.wires k).client_end (SaidFirst bound) x) _ _ _ i refl)
    (λ _. refused_along z w k (SaidFirst bound) x x.header.status i)
passed_along z w k (SaidSecond true) x i =
    either (Heeds z w k (SaidSecond true) x) (x.header.status == success) Binds (Refuses x.header.status)
    (λ _. closed_along (channel_bound w k x) w.values k
    (act w.values.client (IsReady k w.values.client.session w.values.client.tree))
    (ended_along w k (bound_end (w.wires k).client_end x (w.numbers + 1)) i))
    (λ _. refused_along z w k (SaidSecond true) x x.header.status i)
passed_along z w k (SaidSecond false) x i =
    either (Heeds z w k (SaidSecond false) x) (x.header.status == success) Accepts (Refuses x.header.status)
    (λ _. asked_along w k _ (accepted_end (w.wires k).client_end x w.values.client.pending) _ _ _ i refl)
    (λ _. refused_along z w k (SaidSecond false) x x.header.status i)
passed_along z w k AskedTree x i =
    either (Heeds z w k AskedTree x) (x.header.status == success) Readies (Refuses x.header.status)
    (λ _. closed_along (with_client_end w k (record (paid_in (w.wires k).client_end x.header) { stage = Apart })) w.values k
    (act w.values.client (IsReady k w.values.client.pending (dialog_reply w AskedTree x).tree_id))
    (ended_along w k (record (paid_in (w.wires k).client_end x.header) { stage = Apart }) i))
    (λ _. refused_along z w k AskedTree x x.header.status i)

dialog_off_along : (w : World) (k : ℕ) (why : Refusal) → Keeps w → Keeps (dialog_off w k why)
dialog_off_along w k why i = closed_along w w.values k (act w.values.client (IsRefused k why)) i

fault_along : (z : WorldSettings) (w : World) (k : ℕ) (stage : Stage) (x : HeardMessage) (o : Option Refusal) → Keeps w
    → Keeps (dialog_passed z w k stage x o)
fault_along z w k stage x (Some why) i = dialog_off_along w k why i
fault_along z w k stage x None i = passed_along z w k stage x i

dialog_along : (z : WorldSettings) (w : World) (k : ℕ) (stage : Stage) (o : Option HeardMessage) → Keeps w
    → Keeps (dialog_hears z w k stage o)
dialog_along z w k stage None i = dialog_off_along w k BadToken i
dialog_along z w k stage (Some x) i =
    fault_along z w k stage x (if x.header.status == status_due stage then dialog_fault z.client (w.wires k).client_end stage x else None) i

hears_along : (z : WorldSettings) (w : World) (k : ℕ) (frame : List ℕ) (place : ℕ) (stage : Stage) → Keeps w
    → Keeps (hears z w k frame place stage)
hears_along z w k frame place Apart i = line_along w k place (line_response (w.wires k).client_end frame) i
hears_along z w k frame place (SaidNegotiate bound) i =
    dialog_along z w k (SaidNegotiate bound) (dialog_response (w.wires k).client_end (SaidNegotiate bound) frame) i
hears_along z w k frame place (SaidFirst bound) i =
    dialog_along z w k (SaidFirst bound) (dialog_response (w.wires k).client_end (SaidFirst bound) frame) i
hears_along z w k frame place (SaidSecond bound) i =
    dialog_along z w k (SaidSecond bound) (dialog_response (w.wires k).client_end (SaidSecond bound) frame) i
hears_along z w k frame place AskedTree i = dialog_along z w k AskedTree (dialog_response (w.wires k).client_end AskedTree frame) i

-- of lists that are as long, what is behind their fronts is
behind_front_of : {X Y : Type 0} (x : X) (xs : List X) (y : Y) (ys : List Y) → length (x ∷ xs) ≡ length (y ∷ ys) → length xs ≡ length ys
behind_front_of x xs y ys e = omega (arith, e)

take_along : (z : WorldSettings) (w : World) (k : ℕ) (bs : List (List ℕ)) (ys : List Received) → (w.wires k).down ≡ bs
    → (w.values.conns k).down ≡ ys → Keeps w → Keeps (take_frame z w k bs ys)
take_along z w k [] ys b y i = i
take_along z w k (f ∷ bs) [] b y i = i
take_along z w k (f ∷ bs) (r ∷ ys) b y i =
    let old = i k in
    let rest = behind_front_of f bs r ys (sym (ap length b) ∙ (old.down ∙ ap length y)) in
    hears_along z (behind_frame w k bs ys) k f r.place (w.wires k).client_end.stage
    (put_along w.wires w.values.conns k (record (w.wires k) { down = bs }) (take_front (w.values.conns k) ys)
    (record { up = old.up; down = rest }) i)

-- ---- a frame that a server takes

-- behind its front
front_along : (u : Wires) (c : Conn) (f : ServerEnd) (b : List ℕ) (bs : List (List ℕ)) (x : Sent) (xs : List Sent) → u.up ≡ b ∷ bs
    → c.up ≡ x ∷ xs → IsAlong u c → IsAlong (record u { server_end = f; up = bs }) (behind_front c xs)
front_along u c f b bs x xs e h i =
    record { up = behind_front_of b bs x xs (sym (ap length e) ∙ (i.up ∙ ap length h)); down = i.down }

mutely_along : (w : World) (k : ℕ) (b : List ℕ) (bs : List (List ℕ)) (x : Sent) (xs : List Sent) (S : ConnectionStep)
    → (w.wires k).up ≡ b ∷ bs → (w.values.conns k).up ≡ x ∷ xs → Keeps w → Keeps (served_mutely w k bs xs x.token S)
mutely_along w k b bs x xs S e h i =
    took S.taken
  where
    here : IsAlong (record (w.wires k) { server_end = S.server_end; up = bs }) (behind_front (w.values.conns k) xs)
    here = front_along (w.wires k) (w.values.conns k) S.server_end b bs x xs e h (i k)

    took : (o : Option LastTaken) → Along (put w.wires k (record (w.wires k) { server_end = S.server_end; up = bs }))
        (values_took w.values k x.token xs o).conns
    took None = put_along w.wires w.values.conns k _ _ here i
    took (Some t) = put_along w.wires w.values.conns k _ _ here i

-- each frame of the answer goes down in both
abbrev said_wires : Wires → Bool → List (List ℕ) → Wires
said_wires u heard fs = record u { down = if heard then u.down ++ fs else u.down }

none_said : (u : Wires) (c : Conn) (heard : Bool) → IsAlong u c → IsAlong (said_wires u heard []) c
none_said u c true i = record { up = i.up; down = ap length (append-nil u.down) ∙ i.down }
none_said u c false i = record { up = i.up; down = i.down }

one_said : (u : Wires) (c : Conn) (y : Received) (f : List ℕ) → IsAlong u c → IsAlong (said_wires u c.client_open (f ∷ [])) (say_down c y)
one_said u c y f i = elim (c.client_open) as (λ b. IsAlong (record u { down = if b then u.down ++ f ∷ [] else u.down })
    (if b then record c { down = c.down ++ y ∷ [] } else c)) [
      | true ↦ record { up = i.up; down = more u.down c.down f y i.down }
      | false ↦ record { up = i.up; down = i.down }
    ]

two_said : (u : Wires) (heard : Bool) (f : List ℕ) (fs : List (List ℕ)) (c : Conn)
    → IsAlong (said_wires (said_wires u heard (f ∷ [])) heard fs) c → IsAlong (said_wires u heard (f ∷ fs)) c
two_said u true f fs c i = record { up = i.up; down = sym (ap length (append_assoc u.down (f ∷ []) fs)) ∙ i.down }
two_said u false f fs c i = record { up = i.up; down = i.down }

still_open : (c : Conn) (y : Received) → (say_down c y).client_open ≡ c.client_open
still_open c y = either (λ (d : Conn). d.client_open ≡ c.client_open) c.client_open _ c (λ _. refl) (λ _. refl)

said_along : (v : Values) (k : ℕ) (y : Received) (fs : List (List ℕ)) (u : Wires) → IsAlong u (v.conns k)
    → IsAlong (said_wires u (v.conns k).client_open fs) ((replied_each v k y fs).conns k)
unfolding replied_each
said_along v k y [] u i = none_said u (v.conns k) (v.conns k).client_open i
said_along v k y (f ∷ fs) u i =
    let heard = (v.conns k).client_open in
    let one = said_wires u heard (f ∷ []) in
    let next = replied v k y in
    let is = put_same v.conns k (say_down (v.conns k) y) in
    let open_is : (next.conns k).client_open ≡ heard = ap (λ (c : Conn). c.client_open) is ∙ still_open (v.conns k) y in
    let old : IsAlong one (next.conns k) = subst (IsAlong one) (sym is) (one_said u (v.conns k) y f i) in
    two_said u heard f fs ((replied_each next k y fs).conns k)
    (subst (λ b. IsAlong (said_wires one b fs) ((replied_each next k y fs).conns k)) open_is (said_along next k y fs one old))

put_other : {X : Type 0} (f : ℕ → X) (k j : ℕ) (v : X) → (j == k) ≡ false → put f k v j ≡ f j
put_other f k j v e = ap (λ b. if b then v else f j) e

said_elsewhere : (v : Values) (k j : ℕ) (y : Received) (fs : List (List ℕ)) → (j == k) ≡ false
    → (replied_each v k y fs).conns j ≡ v.conns j
unfolding replied_each
said_elsewhere v k j y [] off = refl
said_elsewhere v k j y (f ∷ fs) off =
    said_elsewhere (replied v k y) k j y fs off ∙ put_other v.conns k j (say_down (v.conns k) y) off

-- at the connection, and at every other
at_key : (wires : ℕ → Wires) (conns : ℕ → Conn) (k : ℕ) (u : Wires) → IsAlong u (conns k)
    → ((j : ℕ) → (j == k) ≡ false → IsAlong (wires j) (conns j)) → Along (put wires k u) conns
at_key wires conns k u here there j = elim (j == k) as (λ b. j == k ≡ b → IsAlong (if b then u else wires j) (conns j)) [
  | true ↦ λ e. subst (λ i. IsAlong u (conns i)) (sym (eqb-true j k e)) here
  | false ↦ λ e. there j e
] refl

took_here : (v : Values) (k : ℕ) (token : Token) (xs : List Sent) (o : Option LastTaken) → (values_took v k token xs o).conns k
    ≡ behind_front (v.conns k) xs
took_here v k token xs None = put_same v.conns k (behind_front (v.conns k) xs)
took_here v k token xs (Some t) = put_same v.conns k (behind_front (v.conns k) xs)

took_elsewhere : (v : Values) (k j : ℕ) (token : Token) (xs : List Sent) (o : Option LastTaken) → (j == k) ≡ false
    → (values_took v k token xs o).conns j ≡ v.conns j
took_elsewhere v k j token xs None off = put_other v.conns k j (behind_front (v.conns k) xs) off
took_elsewhere v k j token xs (Some t) off = put_other v.conns k j (behind_front (v.conns k) xs) off

served_along : (w : World) (k : ℕ) (b : List ℕ) (bs : List (List ℕ)) (x : Sent) (xs : List Sent) (S : ConnectionStep)
    → (w.wires k).up ≡ b ∷ bs → (w.values.conns k).up ≡ x ∷ xs → Keeps w → Keeps (served_on w k bs xs x.token S)
served_along w k b bs x xs S e h i =
    let v = values_took w.values k x.token xs S.taken in
    let y : Received = record { token = x.token; reply = last_reply S.taken; place = w.values.log.places } in
    let u = record (w.wires k) { server_end = S.server_end; up = bs } in
    let is = took_here w.values k x.token xs S.taken in
    let old : IsAlong u (v.conns k) =
    subst (IsAlong u) (sym is) (front_along (w.wires k) (w.values.conns k) S.server_end b bs x xs e h (i k)) in
    let told : IsAlong (said_wires u (w.values.conns k).client_open S.frames) ((replied_each v k y S.frames).conns k) =
    subst (λ c. IsAlong (said_wires u c S.frames) ((replied_each v k y S.frames).conns k)) (ap (λ (c : Conn). c.client_open) is)
    (said_along v k y S.frames u old) in
    at_key w.wires (replied_each v k y S.frames).conns k _ (record { up = told.up; down = told.down })
    (λ j off. subst (IsAlong (w.wires j))
    (sym (said_elsewhere v k j y S.frames off ∙ took_elsewhere w.values k j x.token xs S.taken off)) (i j))

-- ---- a server's end closes

server_off_along : (u : Wires) (c : Conn) → IsAlong u c → IsAlong (server_end_off u) (server_off c)
server_off_along u c i = record { up = refl; down = i.down }

dropped_along : (w : World) (k : ℕ) → Keeps w → Keeps (dropped_wires w k)
dropped_along w k i = put_along w.wires w.values.conns k _ _ (server_off_along (w.wires k) (w.values.conns k) (i k)) i

restarted_along : (w : World) → Keeps w → Keeps (restarted_wires w)
restarted_along w i = λ j. server_off_along (w.wires j) (w.values.conns j) (i j)

by_end : (w : World) (k : ℕ) (b : List ℕ) (bs : List (List ℕ)) (x : Sent) (xs : List Sent) (S : ConnectionStep) (o : Option ConnEnd)
    → (w.wires k).up ≡ b ∷ bs → (w.values.conns k).up ≡ x ∷ xs → Keeps w → Keeps (served_by w k bs xs x.token S o)
by_end w k b bs x xs S None e h i = served_along w k b bs x xs S e h i
by_end w k b bs x xs S (Some why) e h i =
    dropped_along (served_mutely w k bs xs x.token S) k (mutely_along w k b bs x xs S e h i)

serve_along : (z : WorldSettings) (w : World) (k : ℕ) (bs : List (List ℕ)) (xs : List Sent) → (w.wires k).up ≡ bs
    → (w.values.conns k).up ≡ xs → Keeps w → Keeps (serve_frame z w k bs xs)
serve_along z w k [] xs e h i = i
serve_along z w k (b ∷ bs) [] e h i = i
serve_along z w k (b ∷ bs) (x ∷ xs) e h i = by_end w k b bs x xs (step_at z w k b) (step_at z w k b).ends e h i

absorb_along : (z : WorldSettings) (w : World) (k : ℕ) (bs : List (List ℕ)) (xs : List Sent) → (w.wires k).up ≡ bs
    → (w.values.conns k).up ≡ xs → Keeps w → Keeps (absorb_frame z w k bs xs)
absorb_along z w k [] xs e h i = i
absorb_along z w k (b ∷ bs) [] e h i = i
absorb_along z w k (b ∷ bs) (x ∷ xs) e h i = mutely_along w k b bs x xs (step_at z w k b) e h i

-- ---- a connection opens

one_or_none : {X Y : Type 0} (served : Bool) (x : X) (y : Y) → length (if served then x ∷ [] else [])
    ≡ length (if served then y ∷ [] else [])
one_or_none true x y = refl
one_or_none false x y = refl

opened_along : (z : WorldSettings) (w : World) (k : ℕ) → Keeps w → Keeps (opened_wires z w k)
opened_along z w k i =
    let served = (step w.values.server w.values.moment (Accept k)).reply.status == success in
    put_along w.wires w.values.conns k (fresh_wires z w (greeting_of z w k) served) (fresh w.values.client k served)
    (record {
      up = one_or_none served (greeting_of z w k) (record {
        token = ForDialog;
        message = dialog_message w.values.client k 0 (SaidNegotiate w.values.client.live);
      });
      down = refl;
    }) i

-- ---- a front that is changed stays one

front_length : (change : List ℕ → List ℕ) (bs : List (List ℕ)) → length (with_front change bs) ≡ length bs
front_length change [] = refl
front_length change (b ∷ bs) = refl

tampered_along : (w : World) (k : ℕ) (up : Bool) (change : List ℕ → List ℕ) → Keeps w → Keeps (tampered w k up change)
tampered_along w k true change i =
    let old = i k in
    wires_along w.wires w.values.conns k _ (record { up = front_length change (w.wires k).up ∙ old.up; down = old.down }) i
tampered_along w k false change i =
    let old = i k in
    wires_along w.wires w.values.conns k _ (record { up = old.up; down = front_length change (w.wires k).down ∙ old.down }) i

-- ---- each event, and each run

changed_along : (z : WorldSettings) (w : World) (e : Event) → Keeps w → Keeps (bytes_changed z w e)
changed_along z w (Submit g op) i = i
changed_along z w (Open k) i = opened_along z w k i
changed_along z w (Push k slotless pick) i =
    let picked = paid w k slotless pick in
    pushed_along w k (client_after w.values.client (Pushes k slotless picked)) (act w.values.client (Pushes k slotless picked)) i
changed_along z w (Serve k) i = serve_along z w k (w.wires k).up (w.values.conns k).up refl refl i
changed_along z w (Take k) i = take_along z w k (w.wires k).down (w.values.conns k).down refl refl i
changed_along z w (Cut k) i = cut_along w k i
changed_along z w (Drop k) i = dropped_along w k i
changed_along z w Restart i = restarted_along w i
changed_along z w (Crash k true) i =
    restarted_along (absorb_frame z w k (w.wires k).up (w.values.conns k).up)
    (absorb_along z w k (w.wires k).up (w.values.conns k).up refl refl i)
changed_along z w (Crash k false) i = restarted_along w i
changed_along z w (Wait n) i = i
changed_along z w (Finish refusal) i = i

happen_along : (z : WorldSettings) (w : World) (e : ByteEvent) → Keeps w → Keeps (bytes_happen z w e)
happen_along z w (Plain e) i =
    either Keeps (is_possible w.values e) (bytes_later (bytes_changed z w e) (moments e)) w (λ _. changed_along z w e i) (λ _. i)
happen_along z w (Tamper k up change) i =
    either Keeps (may_tamper w k up) (bytes_later (tampered w k up change) 1) w (λ _. tampered_along w k up change i) (λ _. i)

run_along : (z : WorldSettings) (es : List ByteEvent) (w : World) → Keeps w → Keeps (bytes_run z es w)
unfolding bytes_run
run_along z [] w i = i
run_along z (e ∷ es) w i = run_along z es (bytes_happen z w e) (happen_along z w e i)

told : (w : World) → Keeps w → AreAlong w
told w i = record { up = λ k. (let h = i k in h.up); down = λ k. (let h = i k in h.down) }

pub always : ListsAreAlong
always = λ z es. told (bytes_run z es (bytes_start z)) (run_along z es (bytes_start z) (λ k. record { up = refl; down = refl }))
