-- What a client does doesn't rest on the stages of its dialogs, its refusals, the places that settled its operations, or the session that a
-- dialog waits for: each step of its own does the same to two clients that differ in these alone.
use Rattle.std.proofs.Common.{◌≡◌, ℕ, zero, suc, ◌+◌, ◌==◌, Bool, true, false, not, ◌&&◌, ◌||◌, if◌then◌else◌, List, [], ◌∷◌, ◌++◌, refl, sym}
use Rattle.std.proofs.Common.{ap, ◌∙◌, subst, Option, Some, None}
use Rattle.std.specs.Prelude.{is_none}
use Rattle.spec_exchange.specs.Table.{put}
use Rattle.spec_exchange.specs.Status.{disk_full}
use Rattle.spec_exchange.specs.State.{Body, Reply}
use Rattle.spec_exchange.specs.Operations.{Op, Outcome, Unsettled, WasOk, WasRefused, NoSlot, NoOpen, Unknown, Refusal, is_unsettled, is_create}
use Rattle.spec_exchange.specs.Operations.{is_close, is_lock, holds_up}
use Rattle.spec_exchange.specs.Dialogs.{went_on, told_session, accepted}
use Rattle.spec_exchange.specs.Client.{Client, Stage, Apart, AskedTree, RefusedDialog, create_for, may_take, take_op, waits, has_free, is_free, may_push, is_taken}
use Rattle.spec_exchange.specs.Client.{has_open, goes_itself, needs_slot, has_its_slot, lacks_slot, settle_no_slot, settle_no_slots, begun, again}
use Rattle.spec_exchange.specs.Client.{begin, outstanding, asked, cut_channel, ends_at_cut, end_session, bind_channel, begin_session, leave_dialog}
use Rattle.spec_exchange.specs.Client.{note_refusal}
use Rattle.spec_exchange.specs.Settling.{Heard as Hearing, Settles, GoesAgain, Attaches, EndsSession, heard, hear, settle, settled, noted}
use Rattle.spec_exchange.specs.Settling.{noted_full, settles_open, with_no_opens, answered, joined, is_awaited}
use Rattle.spec_exchange.specs.ClientStep.{Pick, TakesOp, Pushes, Hears, IsCut, IsReady, IsRefused, Nothing, Sends}
use Rattle.spec_exchange.specs.ClientStep.{Asks, CloseChannels, AllSettled, client_after, act, some_unsettled, op_after}
use Rattle.spec_exchange.specs.ClientStep.{pick_act, op_act, pick_after, becomes_ready}

-- ---- what differs

pub record Mask : Type 0 where
  pub stage : ℕ → Stage
  pub refusals : List RefusedDialog
  pub settled_by : ℕ → Option ℕ
  pub pending : ℕ

abbrev pub masked : Client → Mask → Client
masked c m = record c { stage = m.stage; refusals = m.refusals; settled_by = m.settled_by; pending = m.pending }

pub record Alike (c d : Client) : Type 0 where
  pub mask : Mask
  pub is : d ≡ masked c mask

with_mask : (c : Client) (m : Mask) → Alike c (masked c m)
with_mask c m = record { mask = m; is = refl }

alike_if : (b d : Bool) (x y v u : Client) → d ≡ b → Alike x v → Alike y u → Alike (if b then x else y) (if d then v else u)
alike_if true d x y v u e a b = subst (λ q. Alike x (if q then v else u)) (sym e) a
alike_if false d x y v u e a b = subst (λ q. Alike y (if q then v else u)) (sym e) b

-- ---- tests that walk

waits_same : (c : Client) (m : Mask) (g n : ℕ) → waits (masked c m) g n ≡ waits c g n
unfolding waits
waits_same c m g zero = refl
waits_same c m g (suc n) =
    ap (λ r. if (create_for c n == create_for c g) && holds_up (c.op n) (c.op g) then (if is_unsettled (c.outcome n) then true else r) else r)
    (waits_same c m g n)

free_same : (c : Client) (m : Mask) (create n : ℕ) → has_free (masked c m) create n ≡ has_free c create n
unfolding has_free
free_same c m create zero = refl
free_same c m create (suc n) = ap (λ r. is_free c create (n + 1) || r) (free_same c m create n)

some_same : (c : Client) (m : Mask) (n : ℕ) → some_unsettled (masked c m) n ≡ some_unsettled c n
unfolding some_unsettled
some_same c m zero = refl
some_same c m (suc n) = ap (λ r. elim (is_unsettled (c.outcome (n + 1))) as (λ x. Bool) [ true ↦ true | false ↦ r ]) (some_same c m n)

push_same : (c : Client) (m : Mask) (k g : ℕ) → may_push (masked c m) k g ≡ may_push c k g
push_same c m k g =
    ap (λ w. c.ready k && (is_taken c g && (is_unsettled (c.outcome g) && (is_none (c.outstanding_on g) && (has_open c g && not w)))))
    (waits_same c m g g)

lacks_same : (c : Client) (m : Mask) (k g : ℕ) → lacks_slot (masked c m) k g ≡ lacks_slot c k g
lacks_same c m k g =
    ap (λ p. p && (goes_itself c g && (needs_slot c g && not (has_free (masked c m) (create_for c g) 64)))) (push_same c m k g)
    ∙ ap (λ f. may_push c k g && (goes_itself c g && (needs_slot c g && not f))) (free_same c m (create_for c g) 64)

-- ---- Push

no_slot_alike : (c : Client) (m : Mask) (k g : ℕ) → Alike (settle_no_slot c k g) (settle_no_slot (masked c m) k g)
no_slot_alike c m k g =
    alike_if (lacks_slot c k g) (lacks_slot (masked c m) k g) _ _ _ _ (lacks_same c m k g)
    (with_mask (record c { outcome = put c.outcome g (NoSlot (create_for c g)) }) m) (with_mask c m)

no_slots_alike : (c : Client) (m : Mask) (k : ℕ) (gs : List ℕ) → Alike (settle_no_slots c k gs) (settle_no_slots (masked c m) k gs)
unfolding settle_no_slots
no_slots_alike c m k [] = with_mask c m
no_slots_alike c m k (g ∷ gs) =
    let a = no_slot_alike c m k g in
    subst (λ d. Alike (settle_no_slots (settle_no_slot c k g) k gs) (settle_no_slots d k gs)) (sym a.is)
    (no_slots_alike (settle_no_slot c k g) a.mask k gs)

again_alike : (c : Client) (m : Mask) (g : ℕ) → Alike (again c g) (again (masked c m) g)
again_alike c m g = alike_if (is_lock (c.op g)) (is_lock (c.op g)) _ _ _ _ refl (with_mask _ m) (with_mask c m)

begin_alike : (c : Client) (m : Mask) (g i : ℕ) → Alike (begin c g i) (begin (masked c m) g i)
begin_alike c m g i = alike_if (is_lock (c.op g)) (is_lock (c.op g)) _ _ _ _ refl (with_mask _ m) (with_mask _ m)

begun_alike : (c : Client) (m : Mask) (g i : ℕ) → Alike (begun c g i) (begun (masked c m) g i)
begun_alike c m g i = alike_if (c.sent g) (c.sent g) _ _ _ _ refl (again_alike c m g) (begin_alike c m g i)

out_alike : (c d : Client) (k g : ℕ) → Alike c d → Alike (outstanding c k g) (outstanding d k g)
out_alike c d k g a = subst (λ x. Alike (outstanding c k g) (outstanding x k g)) (sym a.is) (with_mask (outstanding c k g) a.mask)

op_alike : (c : Client) (m : Mask) (k g i : ℕ) → Alike (op_after c k g i) (op_after (masked c m) k g i)
op_alike c m k g i =
    alike_if (may_push c k g) (may_push (masked c m) k g) _ _ _ _ (push_same c m k g)
    (alike_if (goes_itself c g) (goes_itself c g) _ _ _ _ refl
    (alike_if (has_its_slot c g i) (has_its_slot c g i) _ _ _ _ refl (out_alike (begun c g i) (begun (masked c m) g i) k g (begun_alike c m g i))
    (with_mask c m)) (with_mask (asked c k g) m)) (with_mask c m)

pick_alike : (c : Client) (m : Mask) (k : ℕ) (pick : Option Pick) → Alike (pick_after c k pick) (pick_after (masked c m) k pick)
pick_alike c m k None = with_mask c m
pick_alike c m k (Some p) = op_alike c m k p.op p.slot

picked_alike : (c d : Client) (k : ℕ) (pick : Option Pick) → Alike c d → Alike (pick_after c k pick) (pick_after d k pick)
picked_alike c d k pick a = subst (λ x. Alike (pick_after c k pick) (pick_after x k pick)) (sym a.is) (pick_alike c a.mask k pick)

-- ---- a reply

noted_alike : (c : Client) (m : Mask) (g : ℕ) (o : Outcome) (body : Body) → Alike (noted c g o body) (noted (masked c m) g o body)
noted_alike c m g (WasOk reply) body =
    alike_if (is_create (c.op g)) (is_create (c.op g)) _ _ _ _ refl (with_mask _ m)
    (alike_if (is_close (c.op g)) (is_close (c.op g)) _ _ _ _ refl (with_mask _ m) (with_mask c m))
noted_alike c m g Unsettled body = with_mask c m
noted_alike c m g (WasRefused status) body = with_mask c m
noted_alike c m g (NoSlot create) body = with_mask c m
noted_alike c m g (NoOpen create) body = with_mask c m
noted_alike c m g (Unknown why) body = with_mask c m

full_alike : (c d : Client) (g : ℕ) (asking : Bool) (status : ℕ) → Alike c d → Alike (noted_full c g asking status) (noted_full d g asking status)
full_alike c d g asking status a =
    let m = a.mask in
    let b = is_lock (c.op g) && (not asking && (status == disk_full)) in
    subst (λ x. Alike (noted_full c g asking status) (noted_full x g asking status)) (sym a.is)
    (alike_if b b _ _ _ _ refl (with_mask _ m) (with_mask c m))

-- the places may differ
settled_alike : (c d : Client) (g : ℕ) (o : Outcome) (p q : ℕ) → Alike c d → Alike (settled c g o p) (settled d g o q)
settled_alike c d g o p q a =
    let m = a.mask in
    subst (λ x. Alike (settled c g o p) (settled x g o q)) (sym a.is)
    (with_mask (settled c g o p) (record m { settled_by = put m.settled_by g (Some q) }))

opens_alike : (c d : Client) (create : ℕ) → Alike c d → Alike (with_no_opens c create) (with_no_opens d create)
opens_alike c d create a =
    subst (λ x. Alike (with_no_opens c create) (with_no_opens x create)) (sym a.is) (with_mask (with_no_opens c create) a.mask)

settle_alike : (c : Client) (m : Mask) (g : ℕ) (asking : Bool) (r : Reply) (p q : ℕ) (o : Outcome)
    → Alike (settle c g asking r p o) (settle (masked c m) g asking r q o)
settle_alike c m g asking r p q o =
    let n = noted_alike c m g o r.body in
    let f = full_alike (noted c g o r.body) (noted (masked c m) g o r.body) g asking r.status n in
    let s = settled_alike (noted_full (noted c g o r.body) g asking r.status) (noted_full (noted (masked c m) g o r.body) g asking r.status) g o p q f in
    alike_if (settles_open (c.op g)) (settles_open (c.op g)) _ _ _ _ refl (opens_alike _ _ (create_for c g) s) s

hear_alike : (c : Client) (m : Mask) (g : ℕ) (asking : Bool) (r : Reply) (p q : ℕ) (h : Hearing)
    → Alike (hear c g asking r p h) (hear (masked c m) g asking r q h)
hear_alike c m g asking r p q (Settles o) = settle_alike c m g asking r p q o
hear_alike c m g asking r p q GoesAgain = with_mask (answered c g) m
hear_alike c m g asking r p q Attaches = with_mask (joined c g) m
hear_alike c m g asking r p q EndsSession =
    with_mask (end_session (answered c g)) (record m { stage = (end_session (answered c g)).stage })

-- ---- each step of the client

pub takes_alike : (c : Client) (m : Mask) (g : ℕ) (op : Op) → Alike (client_after c (TakesOp g op)) (client_after (masked c m) (TakesOp g op))
takes_alike c m g op = alike_if (may_take c g op) (may_take c g op) _ _ _ _ refl (with_mask (take_op c g op) m) (with_mask c m)

pub pushes_alike : (c : Client) (m : Mask) (k : ℕ) (slotless : List ℕ) (pick : Option Pick)
    → Alike (client_after c (Pushes k slotless pick)) (client_after (masked c m) (Pushes k slotless pick))
pushes_alike c m k slotless pick =
    alike_if (c.ready k) (c.ready k) _ _ _ _ refl
    (picked_alike (settle_no_slots c k slotless) (settle_no_slots (masked c m) k slotless) k pick (no_slots_alike c m k slotless)) (with_mask c m)

pub hears_alike : (c : Client) (m : Mask) (k g : ℕ) (asking : Bool) (r : Reply) (p q : ℕ)
    → Alike (client_after c (Hears k g asking r p)) (client_after (masked c m) (Hears k g asking r q))
hears_alike c m k g asking r p q =
    alike_if (is_awaited c k g asking) (is_awaited c k g asking) _ _ _ _ refl (hear_alike c m g asking r p q (heard c g asking r)) (with_mask c m)

pub cut_alike : (c : Client) (m : Mask) (k : ℕ) → Alike (client_after c (IsCut k)) (client_after (masked c m) (IsCut k))
cut_alike c m k =
    alike_if (c.ready k) (c.ready k) _ _ _ _ refl
    (alike_if (ends_at_cut c) (ends_at_cut c) _ _ _ _ refl (with_mask (end_session c) (record m { stage = (end_session c).stage }))
    (with_mask (cut_channel c k) m)) (with_mask c m)

-- ---- the steps of a dialog

pub ready_alike : (c : Client) (m : Mask) (k session tree : ℕ)
    → Alike (client_after c (IsReady k session tree)) (client_after (masked c m) (IsReady k session tree))
ready_alike c m k session tree =
    let n = record m { stage = put m.stage k Apart } in
    alike_if (becomes_ready c session) (becomes_ready c session) _ _ _ _ refl
    (alike_if c.live c.live _ _ _ _ refl (with_mask (bind_channel c k) n) (with_mask (begin_session c k session tree) n))
    (with_mask (leave_dialog c k) n)

pub ready_act_same : (c : Client) (m : Mask) (k session tree : ℕ)
    → act (masked c m) (IsReady k session tree) ≡ act c (IsReady k session tree)
ready_act_same c m k session tree = refl

-- for one reason or another
pub refused_alike : (c : Client) (m : Mask) (k : ℕ) (why other : Refusal)
    → Alike (client_after c (IsRefused k why)) (client_after (masked c m) (IsRefused k other))
refused_alike c m k why other =
    with_mask (note_refusal c k why) (record m {
      stage = put m.stage k Apart;
      refusals = m.refusals ++ record { connection = k; refusal = other } ∷ [];
    })

-- one that goes on, and another that stands still
pub went_alike : (c : Client) (m : Mask) (k : ℕ) (s : Stage) (r : Reply) → Alike (went_on c k s r) (masked c m)
went_alike c m k s r = with_mask (went_on c k s r) m

pub went_both : (c : Client) (m : Mask) (k : ℕ) (s : Stage) (r : Reply) → Alike (went_on c k s r) (went_on (masked c m) k s r)
went_both c m k s r =
    with_mask (went_on c k s r) (record m { stage = put m.stage k s; pending = told_session (masked c m) s r })

-- that wait for the same session
pub accepted_alike : (c : Client) (m : Mask) (k : ℕ) → m.pending ≡ c.pending → Alike (accepted c k) (accepted (masked c m) k)
accepted_alike c m k e =
    subst (λ p. Alike (accepted c k) (accepted (masked c (record m { pending = p })) k)) (sym e)
    (with_mask (accepted c k) (record m { stage = put m.stage k AskedTree; pending = c.pending }))

-- ---- and what it is to do then

op_act_same : (c : Client) (m : Mask) (k g i : ℕ) → op_act (masked c m) k g i ≡ op_act c k g i
op_act_same c m k g i =
    ap (λ b. if b then (if goes_itself c g then (if has_its_slot c g i then Sends g else Nothing) else Asks g) else Nothing) (push_same c m k g)

pick_act_same : (c : Client) (m : Mask) (k : ℕ) (pick : Option Pick) → pick_act (masked c m) k pick ≡ pick_act c k pick
pick_act_same c m k None = ap (λ b. if b then Nothing else AllSettled) (some_same c m c.taken)
pick_act_same c m k (Some p) = op_act_same c m k p.op p.slot

picked_act_same : (c d : Client) (k : ℕ) (pick : Option Pick) → Alike c d → pick_act d k pick ≡ pick_act c k pick
picked_act_same c d k pick a = subst (λ x. pick_act x k pick ≡ pick_act c k pick) (sym a.is) (pick_act_same c a.mask k pick)

pub pushes_act_same : (c : Client) (m : Mask) (k : ℕ) (slotless : List ℕ) (pick : Option Pick)
    → act (masked c m) (Pushes k slotless pick) ≡ act c (Pushes k slotless pick)
pushes_act_same c m k slotless pick =
    ap (λ a. if c.ready k then a else if some_unsettled (masked c m) c.taken then CloseChannels else AllSettled)
    (picked_act_same (settle_no_slots c k slotless) (settle_no_slots (masked c m) k slotless) k pick (no_slots_alike c m k slotless))
    ∙ ap (λ b. if c.ready k then pick_act (settle_no_slots c k slotless) k pick else if b then CloseChannels else AllSettled)
    (some_same c m c.taken)

pub heard_act_same : (c : Client) (m : Mask) (k g : ℕ) (asking : Bool) (r : Reply) (p q : ℕ)
    → act (masked c m) (Hears k g asking r q) ≡ act c (Hears k g asking r p)
heard_act_same c m k g asking r p q = refl

pub cut_act_same : (c : Client) (m : Mask) (k : ℕ) → act (masked c m) (IsCut k) ≡ act c (IsCut k)
cut_act_same c m k = refl
