-- How many sessions a client has counted, with the one that is in the making: an Open makes one more at most, and nothing else does.
use Rattle.std.proofs.lemmas.Bool.Decides.{nat_tests}
use Rattle.std.proofs.Common.{◌≡◌, ℕ, ◌+◌, ◌≤◌, ◌==◌, nat_lt, Bool, true, false, not, ◌&&◌, if◌then◌else◌, List, [], ◌∷◌, refl}
use Rattle.std.proofs.Common.{sym, ap, ◌∙◌, subst, arith, Option, Some, None}
use Rattle.spec_exchange.specs.Status.{success, more_processing_required}
use Rattle.spec_exchange.specs.State.{Reply}
use Rattle.spec_exchange.specs.Operations.{is_lock}
use Rattle.spec_exchange.specs.Client.{Client, Stage, Apart, SaidNegotiate, SaidFirst, SaidSecond, AskedTree, again}
use Rattle.spec_exchange.specs.Client.{asked, begin, begin_session}
use Rattle.spec_exchange.specs.Client.{begun, bind_channel, cut_channel, end_session, ends_at_cut, goes_itself, has_its_slot}
use Rattle.spec_exchange.specs.Client.{lacks_slot, leave_dialog, may_push, may_take, outstanding, settle_no_slot, settle_no_slots}
use Rattle.spec_exchange.specs.Client.{take_op, unmade}
use Rattle.spec_exchange.specs.ClientStep.{Act, Nothing, Sends, Asks, CloseChannel, CloseChannels, AllSettled, Pick, Pushes, Hears}
use Rattle.spec_exchange.specs.ClientStep.{act, becomes_ready, client_after, itself_after, last_number, pick_after, ready_after}
use Rattle.spec_exchange.specs.Dialogs.{DialogStep, GoesOn, Accepts, Binds, Readies, Refuses, dialog_step}
use Rattle.spec_exchange.specs.Settling.{Heard as Hearing, Settles, GoesAgain, Attaches, EndsSession, hear, heard, is_awaited, settle}
use Rattle.spec_exchange.specs.Network.{World, Event, Submit, Open, Push, Serve, Take, Cut, Drop, Restart, Crash, Wait}
use Rattle.spec_exchange.specs.Network.{Finish, Received, Sent}
use Rattle.spec_exchange.specs.Network.{Token, ForDialog, ForOp, ForAttach, absorb_front, behind_reply, changed}
use Rattle.spec_exchange.specs.Network.{dialog_took, happens, later}
use Rattle.spec_exchange.specs.Network.{may_open, may_serve, may_take_reply, pushed_by, serve_front, take_reply, took_by}
use Rattle.law_server.proofs.tables.Logic.{either, front_of}
use Rattle.law_sessions.specs.sessions.Sessions.{makes_session}
use Rattle.law_sessions.proofs.sessions.Channels.{same_settle}
use Rattle.law_answers.proofs.completeness.Columns.{rows_settle}
use Rattle.law_answers.proofs.completeness.Facts.{Facts}

abbrev pub made_of : Option ℕ → ℕ
made_of None = 0
made_of (Some k) = 1

abbrev pub numbered : Client → ℕ
numbered c = c.session_number + made_of c.making

abbrev pub opens_of : Event → ℕ
opens_of (Open k) = 1
opens_of _ = 0

-- no more than before
abbrev IsNoMore : Client → Client → Type 0
IsNoMore c d = numbered d ≤ numbered c

no_more_sum : (a b n m : ℕ) → n ≡ a → m ≡ b → n + m ≤ a + b
no_more_sum a b n m e f = omega (arith, e, f)

same_low : (n : ℕ) → n ≤ n
same_low n = omega arith

record Same (c d : Client) : Type 0 where
  number : d.session_number ≡ c.session_number
  making : d.making ≡ c.making

same_no_more : (c d : Client) → Same c d → IsNoMore c d
same_no_more c d s = no_more_sum c.session_number (made_of c.making) d.session_number (made_of d.making) s.number (ap made_of s.making)

itself : (c : Client) → Same c c
itself c = record { number = refl; making = refl }

same_so : (c d e : Client) → Same c d → Same d e → Same c e
same_so c d e a b = record { number = b.number ∙ a.number; making = b.making ∙ a.making }

-- ---- a push

slot_same : (c : Client) (k g : ℕ) → Same c (settle_no_slot c k g)
slot_same c k g = either (Same c) (lacks_slot c k g) _ c (λ _. record { number = refl; making = refl }) (λ _. itself c)

slots_same : (c : Client) (k : ℕ) (gs : List ℕ) → Same c (settle_no_slots c k gs)
unfolding settle_no_slots
slots_same c k [] = itself c
slots_same c k (g ∷ gs) =
    let d = settle_no_slot c k g in same_so c d (settle_no_slots d k gs) (slot_same c k g) (slots_same d k gs)

begun_same : (c : Client) (k g i : ℕ) → Same c (outstanding (begun c g i) k g)
begun_same c k g i =
    let P : Client → Type 0 = λ d. Same c (outstanding d k g) in
    either P (c.sent g) (again c g) (begin c g i)
    (λ _. either P (is_lock (c.op g)) _ c (λ _. record { number = refl; making = refl }) (λ _. record { number = refl; making = refl }))
    (λ _. either P (is_lock (c.op g)) _ _ (λ _. record { number = refl; making = refl }) (λ _. record { number = refl; making = refl }))

picked_same : (c : Client) (k : ℕ) (pick : Option Pick) → Same c (pick_after c k pick)
picked_same c k None = itself c
picked_same c k (Some p) =
    either (Same c) (may_push c k p.op) (if goes_itself c p.op then itself_after c k p.op p.slot else asked c k p.op) c
    (λ _. either (Same c) (goes_itself c p.op) (itself_after c k p.op p.slot) (asked c k p.op)
    (λ _. either (Same c) (has_its_slot c p.op p.slot) (outstanding (begun c p.op p.slot) k p.op) c (λ _. begun_same c k p.op p.slot)
    (λ _. itself c))
    (λ _. record { number = refl; making = refl }))
    (λ _. itself c)

push_same : (c : Client) (k : ℕ) (slotless : List ℕ) (pick : Option Pick) → Same c (client_after c (Pushes k slotless pick))
push_same c k slotless pick =
    let v = settle_no_slots c k slotless in
    either (Same c) (c.ready k) (pick_after v k pick) c
    (λ _. same_so c v (pick_after v k pick) (slots_same c k slotless) (picked_same v k pick)) (λ _. itself c)

pushed_client : (w : World) (k : ℕ) (c : Client) (a : Act) → (pushed_by w k c a).client ≡ c
pushed_client w k c (Sends g) = refl
pushed_client w k c (Asks g) = refl
pushed_client w k c Nothing = refl
pushed_client w k c CloseChannel = refl
pushed_client w k c CloseChannels = refl
pushed_client w k c AllSettled = refl

abbrev NoMore : World → World → Type 0
NoMore w v = IsNoMore w.client v.client

push_no_more : (w : World) (k : ℕ) (slotless : List ℕ) (pick : Option Pick) → NoMore w (happens w (Push k slotless pick))
push_no_more w k slotless pick =
    let c = w.client in
    let d = client_after c (Pushes k slotless pick) in
    either (NoMore w) (w.client.ready k) (later (changed w (Push k slotless pick)) 1) w
    (λ _. subst (IsNoMore c) (sym (pushed_client w k d (act c (Pushes k slotless pick)))) (same_no_more c d (push_same c k slotless pick)))
    (λ _. same_low (numbered c))

-- ---- a dialog that ends

unmade_low : (k : ℕ) (o : Option ℕ) → made_of (unmade k o) ≤ made_of o
unmade_low k None = same_low 0
unmade_low k (Some j) = either (λ (o : Option ℕ). made_of o ≤ 1) (j == k) None (Some j) (λ _. none_low) (λ _. same_low 1)
  where
    none_low : 0 ≤ 1
    none_low = omega arith

add_low : (n a b : ℕ) → a ≤ b → n + a ≤ n + b
add_low n a b l = omega (arith, l)

left_low : (c : Client) (k : ℕ) → IsNoMore c (leave_dialog c k)
left_low c k = add_low c.session_number (made_of (unmade k c.making)) (made_of c.making) (unmade_low k c.making)

made_one : (n m : ℕ) → m ≡ 1 → (n + 1) + 0 ≤ n + m
made_one n m e = omega (arith, e)

-- a session begins where one was in the making
ready_low : (c : Client) (k session tree : ℕ) → (becomes_ready c session ≡ true → c.live ≡ false → made_of c.making ≡ 1)
    → IsNoMore c (ready_after c k session tree)
ready_low c k session tree made =
    either (IsNoMore c) (becomes_ready c session) (if c.live then bind_channel c k else begin_session c k session tree) (leave_dialog c k)
    (λ e. either (IsNoMore c) c.live (bind_channel c k) (begin_session c k session tree) (λ _. same_low (numbered c))
    (λ dead. made_one c.session_number (made_of c.making) (made e dead)))
    (λ _. left_low c k)

-- none begins of the session that has ended
not_below : (n : ℕ) → nat_lt n n ≡ true → ⊥
not_below n e = absurd (grind (arith, nat_tests))

not_newer : (c : Client) (live : Bool) → live ≡ false
    → (if live then c.session == c.session else nat_lt c.session c.session && nat_lt c.session_number last_number) ≡ true → ⊥
not_newer c true off e = absurd (let q : true ≡ false = off in cc)
not_newer c false off e = not_below c.session (front_of (nat_lt c.session c.session) _ e)

made_some : (o : Option ℕ) (k : ℕ) → o ≡ Some k → made_of o ≡ 1
made_some o k e = ap made_of e

dialog_low : (w : World) (k : ℕ) (r : Reply) (rest : List Received) → (w.client.stage k ≡ AskedTree → made_of w.client.making ≡ 1)
    → (s : Stage) → w.client.stage k ≡ s → NoMore w (dialog_took (behind_reply w k rest) k r (dialog_step s r.status))
dialog_low w k r rest made Apart at = left_low w.client k
dialog_low w k r rest made (SaidNegotiate bound) at =
    either (λ (d : DialogStep). NoMore w (dialog_took (behind_reply w k rest) k r d)) (r.status == success) (GoesOn (SaidFirst bound))
    (Refuses r.status) (λ _. same_low (numbered w.client)) (λ _. left_low w.client k)
dialog_low w k r rest made (SaidFirst bound) at =
    either (λ (d : DialogStep). NoMore w (dialog_took (behind_reply w k rest) k r d)) (r.status == more_processing_required)
    (GoesOn (SaidSecond bound)) (Refuses r.status) (λ _. same_low (numbered w.client)) (λ _. left_low w.client k)
dialog_low w k r rest made (SaidSecond true) at =
    either (λ (d : DialogStep). NoMore w (dialog_took (behind_reply w k rest) k r d)) (r.status == success) Binds (Refuses r.status)
    (λ _. ready_low w.client k w.client.session w.client.tree (λ e dead. absurd (not_newer w.client w.client.live dead e)))
    (λ _. left_low w.client k)
dialog_low w k r rest made (SaidSecond false) at =
    either (λ (d : DialogStep). NoMore w (dialog_took (behind_reply w k rest) k r d)) (r.status == success) Accepts (Refuses r.status)
    (λ _. same_low (numbered w.client)) (λ _. left_low w.client k)
dialog_low w k r rest made AskedTree at =
    either (λ (d : DialogStep). NoMore w (dialog_took (behind_reply w k rest) k r d)) (r.status == success) Readies (Refuses r.status)
    (λ _. ready_low w.client k w.client.pending r.tree_id (λ e dead. made at)) (λ _. left_low w.client k)

-- ---- a reply to an operation

ended_low : (c : Client) → c.session_number + 0 ≤ numbered c
ended_low c = add_low c.session_number 0 (made_of c.making) (zero_low (made_of c.making))
  where
    zero_low : (n : ℕ) → 0 ≤ n
    zero_low n = omega arith

hear_low : (c : Client) (g : ℕ) (asking : Bool) (r : Reply) (place : ℕ) (h : Hearing) → IsNoMore c (hear c g asking r place h)
hear_low c g asking r place (Settles o) =
    same_no_more c (settle c g asking r place o)
    (record { number = (rows_settle c g asking r place o).number; making = (same_settle c g asking r place o).making })
hear_low c g asking r place GoesAgain = same_low (numbered c)
hear_low c g asking r place Attaches = same_low (numbered c)
hear_low c g asking r place EndsSession = ended_low c

op_low : (c : Client) (k g : ℕ) (asking : Bool) (r : Reply) (place : ℕ) → IsNoMore c (client_after c (Hears k g asking r place))
op_low c k g asking r place =
    either (IsNoMore c) (is_awaited c k g asking) (hear c g asking r place (heard c g asking r)) c
    (λ _. hear_low c g asking r place (heard c g asking r)) (λ _. same_low (numbered c))

took_low : (w : World) (k : ℕ) (y : Received) (rest : List Received) → Facts w → (t : Token)
    → NoMore w (took_by (behind_reply w k rest) k y.reply y.place t)
took_low w k y rest F ForDialog =
    dialog_low w k y.reply rest (λ e. made_some w.client.making k (F.making k (ap makes_session e))) (w.client.stage k) refl
took_low w k y rest F (ForOp g) = op_low w.client k g false y.reply y.place
took_low w k y rest F (ForAttach g) = op_low w.client k g true y.reply y.place

take_low : (w : World) (k : ℕ) (ys : List Received) → Facts w → NoMore w (take_reply w k ys)
take_low w k [] F = same_low (numbered w.client)
take_low w k (y ∷ rest) F = took_low w k y rest F y.token

-- ---- the other events

cut_low : (w : World) (k : ℕ) → NoMore w (changed w (Cut k))
cut_low w k =
    either (NoMore w) (w.client.ready k) _ _
    (λ _. either (IsNoMore w.client) (w.client.ready k) _ w.client
    (λ _. either (IsNoMore w.client) (ends_at_cut w.client) (end_session w.client) (cut_channel w.client k) (λ _. ended_low w.client)
    (λ _. same_low (numbered w.client)))
    (λ _. same_low (numbered w.client)))
    (λ _. left_low w.client k)

open_sum : (n : ℕ) (b : Bool) (o : Option ℕ) (k : ℕ) → n + made_of (if b then o else Some k) ≤ (n + made_of o) + 1
open_sum n true o k = open_by n (made_of o)
  where
    open_by : (n m : ℕ) → n + m ≤ (n + m) + 1
    open_by n m = omega arith
open_sum n false o k = open_new n (made_of o)
  where
    open_new : (n m : ℕ) → n + 1 ≤ (n + m) + 1
    open_new n m = omega arith

one_more : (n : ℕ) → n ≤ n + 1
one_more n = omega arith

absorbed_client : (w : World) (k : ℕ) (xs : List Sent) → (absorb_front w k xs).client ≡ w.client
absorbed_client w k [] = refl
absorbed_client w k (x ∷ xs) = refl

served_client : (w : World) (k : ℕ) (xs : List Sent) → (serve_front w k xs).client ≡ w.client
served_client w k [] = refl
served_client w k (x ∷ xs) = refl

alike : (c d : Client) → d ≡ c → IsNoMore c d
alike c d e = subst (IsNoMore c) (sym e) (same_low (numbered c))

no_event : (a b : ℕ) → a ≤ b → a ≤ b + 0
no_event a b l = omega (arith, l)

abbrev Within : World → Event → Type 0
Within w e = numbered (happens w e).client ≤ numbered w.client + opens_of e

within : (w v : World) → NoMore w v → numbered v.client ≤ numbered w.client + 0
within w v l = no_event (numbered v.client) (numbered w.client) l

pub numbered_on : (w : World) (e : Event) → Facts w → Within w e
numbered_on w (Submit g op) F =
    within w (happens w (Submit g op))
    (either (IsNoMore w.client) (may_take w.client g op) (take_op w.client g op) w.client (λ _. same_low (numbered w.client))
    (λ _. same_low (numbered w.client)))
numbered_on w (Open k) F =
    either (λ (v : World). numbered v.client ≤ numbered w.client + 1) (may_open w k) (later (changed w (Open k)) 1) w
    (λ _. open_sum w.client.session_number w.client.live w.client.making k) (λ _. one_more (numbered w.client))
numbered_on w (Push k slotless pick) F = within w (happens w (Push k slotless pick)) (push_no_more w k slotless pick)
numbered_on w (Serve k) F =
    within w (happens w (Serve k))
    (either (NoMore w) (may_serve w k) (later (changed w (Serve k)) 1) w
    (λ _. alike w.client (serve_front w k (w.conns k).up).client (served_client w k (w.conns k).up)) (λ _. same_low (numbered w.client)))
numbered_on w (Take k) F =
    within w (happens w (Take k))
    (either (NoMore w) (may_take_reply w k) (later (changed w (Take k)) 1) w (λ _. take_low w k (w.conns k).down F)
    (λ _. same_low (numbered w.client)))
numbered_on w (Cut k) F =
    within w (happens w (Cut k))
    (either (NoMore w) (w.conns k).client_open (later (changed w (Cut k)) 1) w (λ _. cut_low w k) (λ _. same_low (numbered w.client)))
numbered_on w (Drop k) F =
    within w (happens w (Drop k))
    (either (NoMore w) (w.conns k).server_open (later (changed w (Drop k)) 1) w (λ _. same_low (numbered w.client))
    (λ _. same_low (numbered w.client)))
numbered_on w Restart F = within w (happens w Restart) (same_low (numbered w.client))
numbered_on w (Crash k true) F =
    within w (happens w (Crash k true))
    (either (NoMore w) (may_serve w k) (later (changed w (Crash k true)) 1) w
    (λ _. alike w.client (absorb_front w k (w.conns k).up).client (absorbed_client w k (w.conns k).up)) (λ _. same_low (numbered w.client)))
numbered_on w (Crash k false) F =
    within w (happens w (Crash k false))
    (either (NoMore w) (may_serve w k) (later (changed w (Crash k false)) 1) w (λ _. same_low (numbered w.client))
    (λ _. same_low (numbered w.client)))
numbered_on w (Wait n) F = within w (happens w (Wait n)) (same_low (numbered w.client))
numbered_on w (Finish refusal) F =
    within w (happens w (Finish refusal))
    (either (NoMore w) (not w.client.live) (later (changed w (Finish refusal)) 1) w (λ _. same_low (numbered w.client))
    (λ _. same_low (numbered w.client)))
