-- What a reply leaves of the client's operations, its session, its dialogs and the sessions that it accepted.
use Rattle.std.proofs.Common.{◌≡◌, ℕ, ◌==◌, Bool, true, false, not, ◌&&◌, if◌then◌else◌, List, [], ◌∷◌, refl, ◌∙◌}
use Rattle.std.proofs.Common.{Option, Some, None}
use Rattle.spec_exchange.specs.Table.{put, put2}
use Rattle.spec_exchange.specs.Status.{disk_full}
use Rattle.spec_exchange.specs.State.{Body, Reply}
use Rattle.spec_exchange.specs.Operations.{Outcome, Unsettled, WasOk, WasRefused, NoSlot, NoOpen, Unknown, is_create, is_close}
use Rattle.spec_exchange.specs.Operations.{is_lock, id_in}
use Rattle.spec_exchange.specs.Client.{Client, create_for, may_push, goes_itself, has_its_slot, take_slot, begin, again, begun}
use Rattle.spec_exchange.specs.Client.{outstanding, asked, lacks_slot, settle_no_slot, settle_no_slots}
use Rattle.spec_exchange.specs.ClientStep.{Pick, Pushes, client_after, itself_after, op_after, pick_after}
use Rattle.spec_exchange.specs.Settling.{Heard, Settles, GoesAgain, Attaches, EndsSession, noted_ok, noted, noted_full, settled, settle}
use Rattle.spec_exchange.specs.Settling.{settles_open, with_no_opens, hear}

pub record Keeps (c d : Client) : Type 0 where
  pub op : d.op ≡ c.op
  pub session : d.session ≡ c.session
  pub pending : d.pending ≡ c.pending
  pub stage : d.stage ≡ c.stage
  pub rank : d.rank ≡ c.rank
  pub accepted : d.accepted ≡ c.accepted

pub keeps : (c : Client) → Keeps c c
keeps c = record { op = refl; session = refl; pending = refl; stage = refl; rank = refl; accepted = refl }

keeps_if : (c : Client) (b : Bool) (x y : Client) → Keeps c x → Keeps c y → Keeps c (if b then x else y)
keeps_if c true x y e f = e
keeps_if c false x y e f = f

ok_keeps : (c : Client) (g : ℕ) (body : Body) → Keeps c (noted_ok c g body)
ok_keeps c g body =
    let closed : Client = record c { closed_ok = put c.closed_ok (create_for c g) true } in
    let opened : Client = record c { file = put c.file g (id_in body); attached = put c.attached g c.session_number } in
    keeps_if c (is_create (c.op g)) opened (if is_close (c.op g) then closed else c)
    (record { op = refl; session = refl; pending = refl; stage = refl; rank = refl; accepted = refl })
    (keeps_if c (is_close (c.op g)) closed c
    (record { op = refl; session = refl; pending = refl; stage = refl; rank = refl; accepted = refl }) (keeps c))

noted_keeps : (c : Client) (g : ℕ) (o : Outcome) (body : Body) → Keeps c (noted c g o body)
noted_keeps c g Unsettled body = keeps c
noted_keeps c g (WasOk reply) body = ok_keeps c g body
noted_keeps c g (WasRefused status) body = keeps c
noted_keeps c g (NoSlot create) body = keeps c
noted_keeps c g (NoOpen create) body = keeps c
noted_keeps c g (Unknown why) body = keeps c

full_keeps : (c d : Client) (g : ℕ) (asking : Bool) (status : ℕ) → Keeps c d → Keeps c (noted_full d g asking status)
full_keeps c d g asking status s =
    keeps_if c (is_lock (d.op g) && (not asking && (status == disk_full)))
    (record d { full = put2 d.full (create_for d g) (d.slot_of g) true }) d
    (record { op = s.op; session = s.session; pending = s.pending; stage = s.stage; rank = s.rank; accepted = s.accepted }) s

settled_keeps : (c d : Client) (g : ℕ) (o : Outcome) (place : ℕ) → Keeps c d → Keeps c (settled d g o place)
settled_keeps c d g o place s =
    record { op = s.op; session = s.session; pending = s.pending; stage = s.stage; rank = s.rank; accepted = s.accepted }

settle_keeps : (c : Client) (g : ℕ) (asking : Bool) (r : Reply) (place : ℕ) (o : Outcome) → Keeps c (settle c g asking r place o)
settle_keeps c g asking r place o =
    let n = noted c g o r.body in
    let f = noted_full n g asking r.status in
    let d = settled f g o place in
    let s = settled_keeps c f g o place (full_keeps c n g asking r.status (noted_keeps c g o r.body)) in
    keeps_if c (settles_open (c.op g)) (with_no_opens d (create_for c g)) d
    (record { op = s.op; session = s.session; pending = s.pending; stage = s.stage; rank = s.rank; accepted = s.accepted }) s

abbrev pub goes_on : Heard → Bool
goes_on EndsSession = false
goes_on _ = true

pub hear_keeps : (c : Client) (g : ℕ) (asking : Bool) (r : Reply) (place : ℕ) (h : Heard) → goes_on h ≡ true
    → Keeps c (hear c g asking r place h)
hear_keeps c g asking r place (Settles o) e = settle_keeps c g asking r place o
hear_keeps c g asking r place GoesAgain e =
    record { op = refl; session = refl; pending = refl; stage = refl; rank = refl; accepted = refl }
hear_keeps c g asking r place Attaches e =
    record { op = refl; session = refl; pending = refl; stage = refl; rank = refl; accepted = refl }
hear_keeps c g asking r place EndsSession e = absurd (let h : false ≡ true = e in cc)

-- ---- Push

joined : (c d e : Client) → Keeps c d → Keeps d e → Keeps c e
joined c d e a b = record {
  op = b.op ∙ a.op;
  session = b.session ∙ a.session;
  pending = b.pending ∙ a.pending;
  stage = b.stage ∙ a.stage;
  rank = b.rank ∙ a.rank;
  accepted = b.accepted ∙ a.accepted;
}

no_slot : (c : Client) (k g : ℕ) → Keeps c (settle_no_slot c k g)
no_slot c k g =
    keeps_if c (lacks_slot c k g) (record c { outcome = put c.outcome g (NoSlot (create_for c g)) }) c
    (record { op = refl; session = refl; pending = refl; stage = refl; rank = refl; accepted = refl }) (keeps c)

no_slots : (c : Client) (k : ℕ) (gs : List ℕ) → Keeps c (settle_no_slots c k gs)
unfolding settle_no_slots
no_slots c k [] = keeps c
no_slots c k (g ∷ gs) =
    joined c (settle_no_slot c k g) (settle_no_slots (settle_no_slot c k g) k gs) (no_slot c k g) (no_slots (settle_no_slot c k g) k gs)

again_keeps : (c : Client) (g : ℕ) → Keeps c (again c g)
again_keeps c g =
    keeps_if c (is_lock (c.op g)) (record c { retried = put2 c.retried (create_for c g) (c.slot_of g) c.session_number }) c
    (record { op = refl; session = refl; pending = refl; stage = refl; rank = refl; accepted = refl }) (keeps c)

begin_keeps : (c : Client) (g i : ℕ) → Keeps c (begin c g i)
begin_keeps c g i =
    keeps_if c (is_lock (c.op g)) (record (take_slot c g i) { sent = put c.sent g true }) (record c { sent = put c.sent g true })
    (record { op = refl; session = refl; pending = refl; stage = refl; rank = refl; accepted = refl })
    (record { op = refl; session = refl; pending = refl; stage = refl; rank = refl; accepted = refl })

begun_keeps : (c : Client) (g i : ℕ) → Keeps c (begun c g i)
begun_keeps c g i = keeps_if c (c.sent g) (again c g) (begin c g i) (again_keeps c g) (begin_keeps c g i)

out_keeps : (c d : Client) (k g : ℕ) → Keeps c d → Keeps c (outstanding d k g)
out_keeps c d k g s =
    record { op = s.op; session = s.session; pending = s.pending; stage = s.stage; rank = s.rank; accepted = s.accepted }

op_keeps : (c : Client) (k g i : ℕ) → Keeps c (op_after c k g i)
op_keeps c k g i =
    keeps_if c (may_push c k g) (if goes_itself c g then itself_after c k g i else asked c k g) c
    (keeps_if c (goes_itself c g) (itself_after c k g i) (asked c k g)
    (keeps_if c (has_its_slot c g i) (outstanding (begun c g i) k g) c (out_keeps c (begun c g i) k g (begun_keeps c g i)) (keeps c))
    (record { op = refl; session = refl; pending = refl; stage = refl; rank = refl; accepted = refl })) (keeps c)

pick_keeps : (c : Client) (k : ℕ) (pick : Option Pick) → Keeps c (pick_after c k pick)
pick_keeps c k None = keeps c
pick_keeps c k (Some p) = op_keeps c k p.op p.slot

pub push_keeps : (c : Client) (k : ℕ) (slotless : List ℕ) (pick : Option Pick) → Keeps c (client_after c (Pushes k slotless pick))
push_keeps c k slotless pick =
    keeps_if c (c.ready k) (pick_after (settle_no_slots c k slotless) k pick) c
    (joined c (settle_no_slots c k slotless) (pick_after (settle_no_slots c k slotless) k pick) (no_slots c k slotless)
    (pick_keeps (settle_no_slots c k slotless) k pick)) (keeps c)
