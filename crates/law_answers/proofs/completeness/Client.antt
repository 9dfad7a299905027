-- What each small step of the client keeps, each event keeps.
use Rattle.std.proofs.lemmas.List.{append-nil, append_assoc}
use Rattle.std.proofs.Common.{◌≡◌, ◌≢◌, ℕ, ◌==◌, Bool, true, false, not, ◌&&◌, if◌then◌else◌, List, [], ◌∷◌, ◌++◌, refl}
use Rattle.std.proofs.Common.{arith, sym, subst, ◌∙◌, ap, Option, Some, None}
use Rattle.spec_exchange.specs.Table.{put, is_filled}
use Rattle.spec_exchange.specs.Status.{success, more_processing_required}
use Rattle.spec_exchange.specs.State.{Reply}
use Rattle.spec_exchange.specs.Operations.{Op, Outcome, NoSlot, NoSession, Why, Refusal, is_unsettled}
use Rattle.spec_exchange.specs.Client.{Client, Stage, Apart, SaidNegotiate, SaidFirst, SaidSecond, AskedTree}
use Rattle.spec_exchange.specs.Client.{RefusedDialog, create_for, may_take, take_op, may_push, goes_itself}
use Rattle.spec_exchange.specs.Client.{has_its_slot, lacks_slot, settle_no_slot, settle_no_slots, begun, outstanding}
use Rattle.spec_exchange.specs.Client.{asked, cut_channel, ends_at_cut, end_session, bind_channel, begin_session}
use Rattle.spec_exchange.specs.Client.{leave_dialog, finish}
use Rattle.spec_exchange.specs.Settling.{Heard as Hearing, Settles, GoesAgain, Attaches, EndsSession, heard, hear}
use Rattle.spec_exchange.specs.Settling.{is_awaited, settle, answered, joined}
use Rattle.spec_exchange.specs.Dialogs.{GoesOn, Accepts, Binds, Readies, Refuses, dialog_step, open_channel, went_on, accepted}
use Rattle.spec_exchange.specs.ClientStep.{Pick, Act, pick_after, pick_act, some_unsettled}
use Rattle.spec_exchange.specs.Network.{World, Event, Submit, Open, Push, Serve, Take, Cut, Drop, Restart, Crash, Wait}
use Rattle.spec_exchange.specs.Network.{Finish, Received, Token, ForDialog, ForOp, ForAttach, happens, changed, later}
use Rattle.spec_exchange.specs.Network.{may_open, may_serve, pushed_by, serve_front, take_reply, took_by, dialog_took}
use Rattle.spec_exchange.specs.Network.{op_took, behind_reply}
use Rattle.law_sessions.proofs.messages.Run.{both_ways, heard_firm, awaited_of, ended_well}
use Rattle.law_server.proofs.tables.Logic.{either, front_of}
use Rattle.law_sessions.proofs.sessions.DialogFacts.{same_served, crash_client}

-- the reply that settled an operation: the front of what waits on the channel where it is outstanding
pub record Took (w : World) (e : Event) (k g : ℕ) (asking : Bool) (r : Reply) (place : ℕ) (o : Outcome) : Type 0 where
  pub takes : e ≡ Take k
  pub reply : Received
  pub rest : List Received
  pub is : (w.conns k).down ≡ reply ∷ rest
  pub token : reply.token ≡ (if asking then ForAttach g else ForOp g)
  pub says : reply.reply ≡ r
  pub at : reply.place ≡ place
  pub asks : w.client.asks_attach g ≡ asking
  pub heard_as : heard w.client g asking r ≡ Settles o

-- an operation settles because no slot is free, behind those before it in the list of a push
pub record Slotless (w : World) (e : Event) (c : Client) (k g : ℕ) : Type 0 where
  pub front : List ℕ
  pub rest : List ℕ
  pub pick : Option Pick
  pub pushes : e ≡ Push k (front ++ g ∷ rest) pick
  pub is : c ≡ settle_no_slots w.client k front

-- a push sends an operation, or asks for its open
pub record Pushing (e : Event) (k : ℕ) : Type 0 where
  pub slotless : List ℕ
  pub pick : Option Pick
  pub is : e ≡ Push k slotless pick

-- a reply tells that the session is gone
pub record Ending (w : World) (e : Event) (g : ℕ) : Type 0 where
  pub channel : ℕ
  pub asking : Bool
  pub takes : e ≡ Take channel
  pub reply : Received
  pub rest : List Received
  pub is : (w.conns channel).down ≡ reply ∷ rest
  pub token : reply.token ≡ (if asking then ForAttach g else ForOp g)
  pub heard_as : heard w.client g asking reply.reply ≡ EndsSession

-- no session is to be had
pub record Finishing (e : Event) (why : Why) : Type 0 where
  pub refusal : Refusal
  pub is : e ≡ Finish refusal
  pub because : why ≡ NoSession refusal

-- the small steps; behind a push the client may be another one that P holds of
pub record Small (P : Client → Type 0) (w : World) (e : Event) : Type 0 where
  pub opens : (k : ℕ) → P (open_channel w.client k)
  pub slotless : (c : Client) (k g : ℕ) → lacks_slot c k g ≡ true → Slotless w e c k g → P c → P (record c {
    outcome = put c.outcome g (NoSlot (create_for c g));
  })
  pub begins_op : (c : Client) (k g i : ℕ) → may_push c k g ≡ true → Pushing e k → P c → P (outstanding (begun c g i) k g)
  pub asks : (c : Client) (k g : ℕ) → may_push c k g ≡ true → Pushing e k → P c → P (asked c k g)
  pub settles : (k g : ℕ) (asking : Bool) (r : Reply) (place : ℕ) (o : Outcome) → w.client.outstanding_on g ≡ Some k
      → is_unsettled o ≡ false → Took w e k g asking r place o → P (settle w.client g asking r place o)
  pub answers : (g : ℕ) → P (answered w.client g)
  pub joins : (k g : ℕ) → w.client.outstanding_on g ≡ Some k → P (joined w.client g)
  pub ends : (g : ℕ) → Ending w e g → P (end_session (answered w.client g))
  pub cut_ends : (k : ℕ) → w.client.ready k ≡ true → e ≡ Cut k → P (end_session w.client)
  pub cuts : (k : ℕ) → w.client.ready k ≡ true → ends_at_cut w.client ≡ false → e ≡ Cut k → P (cut_channel w.client k)
  pub goes : (k : ℕ) → e ≡ Take k → (s : Stage) (y : Received) (rest : List Received) → (w.conns k).down ≡ y ∷ rest
      → y.token ≡ ForDialog → dialog_step (w.client.stage k) y.reply.status ≡ GoesOn s
      → P (went_on w.client k s y.reply)
  pub accepts : (k : ℕ) (r : Reply) → dialog_step (w.client.stage k) r.status ≡ Accepts → P (accepted w.client k)
  pub binds : (k : ℕ) → w.client.stage k ≢ Apart → (w.conns k).client_open ≡ true → w.client.live ≡ true → P (bind_channel w.client k)
  pub begins : (k tree : ℕ) → w.client.stage k ≡ AskedTree → (w.conns k).client_open ≡ true → w.client.live ≡ false
      → P (begin_session w.client k w.client.pending tree)
  pub leaves : (k : ℕ) (rs : List RefusedDialog) → P (record (leave_dialog w.client k) { refusals = rs })
  pub finishes : (why : Why) → Finishing e why → P (finish w.client why)

slotless_one : (P : Client → Type 0) (w : World) (ev : Event) → Small P w ev → (c : Client) (k g : ℕ)
    → Slotless w ev c k g → P c → P (settle_no_slot c k g)
slotless_one P w ev s c k g a h = either P (lacks_slot c k g) (record c {
  outcome = put c.outcome g (NoSlot (create_for c g));
}) c (λ e. s.slotless c k g e a h) (λ _. h)

-- one more of the list
one_slotless : (c : Client) (k g : ℕ) (front : List ℕ) → settle_no_slots c k (front ++ g ∷ [])
    ≡ settle_no_slot (settle_no_slots c k front) k g
unfolding settle_no_slots
one_slotless c k g [] = refl
one_slotless c k g (x ∷ xs) = one_slotless (settle_no_slot c k x) k g xs

slotless_all : (P : Client → Type 0) (w : World) (ev : Event) → Small P w ev → (k : ℕ) (front gs : List ℕ)
    (pick : Option Pick) → ev ≡ Push k (front ++ gs) pick → P (settle_no_slots w.client k front)
    → P (settle_no_slots w.client k (front ++ gs))
slotless_all P w ev s k front [] pick e h = subst (λ xs. P (settle_no_slots w.client k xs)) (sym (append-nil front)) h
slotless_all P w ev s k front (g ∷ gs) pick e h =
    let more = slotless_one P w ev s (settle_no_slots w.client k front) k g (record {
      front = front;
      rest = gs;
      pick = pick;
      pushes = e;
      is = refl;
    }) h in
    let same : (front ++ g ∷ []) ++ gs ≡ front ++ g ∷ gs = append_assoc front (g ∷ []) gs in
    subst (λ xs. P (settle_no_slots w.client k xs)) same
    (slotless_all P w ev s k (front ++ g ∷ []) gs pick (e ∙ ap (λ xs. Push k xs pick) (sym same))
    (subst P (sym (one_slotless w.client k g front)) more))

slotless_from : (P : Client → Type 0) (w : World) (ev : Event) → Small P w ev
    → (k : ℕ) (gs : List ℕ) (pick : Option Pick) → ev ≡ Push k gs pick → P w.client → P (settle_no_slots w.client k gs)
unfolding settle_no_slots
slotless_from P w ev s k gs pick e h = slotless_all P w ev s k [] gs pick e h

pushes_op : (P : Client → Type 0) (w : World) (ev : Event) → Small P w ev → (k g i : ℕ) (c : Client) → Pushing ev k
    → P c → P (pushed_by w k (pick_after c k (Some (record { op = g; slot = i })))
    (pick_act c k (Some (record { op = g; slot = i })))).client
pushes_op P w ev s k g i c e h =
    let Q : Client → Act → Type 0 = λ d x. P (pushed_by w k d x).client in
    both_ways Q (may_push c k g) _ _ _ _
    (λ may. both_ways Q (goes_itself c g) _ _ _ _ (λ _. both_ways Q (has_its_slot c g i) _ _ _ _
    (λ _. s.begins_op c k g i may e h) (λ _. h)) (λ _. s.asks c k g may e h))
    (λ _. h)

picks : (P : Client → Type 0) (w : World) (ev : Event) → Small P w ev → (k : ℕ) (c : Client) (pick : Option Pick)
    → Pushing ev k → P c → P (pushed_by w k (pick_after c k pick) (pick_act c k pick)).client
picks P w ev s k c None e h = either (λ x. P (pushed_by w k c x).client) (some_unsettled c c.taken) _ _ (λ _. h) (λ _. h)
picks P w ev s k c (Some p) e h = pushes_op P w ev s k p.op p.slot c e h

pushes : (P : Client → Type 0) (w : World) (ev : Event) → Small P w ev → (k : ℕ) (slotless : List ℕ)
    (pick : Option Pick) → ev ≡ Push k slotless pick → P w.client → P (changed w (Push k slotless pick)).client
pushes P w ev s k slotless pick e h =
    both_ways (λ d x. P (pushed_by w k d x).client) (w.client.ready k) _ _ _ _
    (λ _. picks P w ev s k (settle_no_slots w.client k slotless) pick (record {
      slotless = slotless;
      pick = pick;
      is = e;
    }) (slotless_from P w ev s k slotless pick e h))
    (λ _. either (λ x. P (pushed_by w k w.client x).client) (some_unsettled w.client w.client.taken) _ _ (λ _. h) (λ _. h))

hears : (P : Client → Type 0) (w : World) (ev : Event) → Small P w ev → (k g : ℕ) (asking : Bool) (r : Reply)
    (place : ℕ) → ((o : Outcome) → w.client.asks_attach g ≡ asking → heard w.client g asking r ≡ Settles o
    → Took w ev k g asking r place o) → (heard w.client g asking r ≡ EndsSession → Ending w ev g)
    → is_awaited w.client k g asking ≡ true → (h : Hearing) → heard w.client g asking r ≡ h
    → P (hear w.client g asking r place h)
hears P w ev s k g asking r place took gone awaited (Settles o) e = let a = awaited_of w.client k g asking awaited in
    s.settles k g asking r place o a.0 (heard_firm w.client g asking r o e) (took o a.1 e)
hears P w ev s k g asking r place took gone awaited GoesAgain e = s.answers g
hears P w ev s k g asking r place took gone awaited Attaches e = s.joins k g (awaited_of w.client k g asking awaited).0
hears P w ev s k g asking r place took gone awaited EndsSession e = s.ends g (gone e)

second_not : {s : Stage} → s ≡ Apart → s ≡ SaidSecond true → ⊥
second_not z at = absurd (grind arith)

asked_not : {s : Stage} → s ≡ Apart → s ≡ AskedTree → ⊥
asked_not z at = absurd (grind arith)

dialogs : (P : Client → Type 0) (w : World) (ev : Event) → Small P w ev → (k : ℕ) → ev ≡ Take k
    → (y : Received) (rest : List Received) → (w.conns k).down ≡ y ∷ rest → y.token ≡ ForDialog
    → (w.conns k).client_open ≡ true → (t : Stage) → w.client.stage k ≡ t
    → P (dialog_took (behind_reply w k rest) k y.reply (dialog_step t y.reply.status)).client
dialogs P w ev s k te y rest is token o Apart at = s.leaves k _
dialogs P w ev s k te y rest is token o (SaidNegotiate bound) at =
    either (λ d. P (dialog_took (behind_reply w k rest) k y.reply d).client) (y.reply.status == success)
    (GoesOn (SaidFirst bound)) (Refuses y.reply.status)
    (λ e. s.goes k te (SaidFirst bound) y rest is token (ap (λ t. dialog_step t y.reply.status) at
    ∙ ap (λ b. if b then GoesOn (SaidFirst bound) else Refuses y.reply.status) e)) (λ _. s.leaves k _)
dialogs P w ev s k te y rest is token o (SaidFirst bound) at =
    either (λ d. P (dialog_took (behind_reply w k rest) k y.reply d).client)
    (y.reply.status == more_processing_required) (GoesOn (SaidSecond bound)) (Refuses y.reply.status)
    (λ e. s.goes k te (SaidSecond bound) y rest is token (ap (λ t. dialog_step t y.reply.status) at
    ∙ ap (λ b. if b then GoesOn (SaidSecond bound) else Refuses y.reply.status) e)) (λ _. s.leaves k _)
dialogs P w ev s k te y rest is token o (SaidSecond true) at =
    either (λ d. P (dialog_took (behind_reply w k rest) k y.reply d).client) (y.reply.status == success) Binds (Refuses y.reply.status)
    (λ e. ended_well (λ (v : World). P v.client) (behind_reply w k rest) k w.client.session w.client.tree
    (λ live. s.binds k (λ z. second_not z at) o live)
    (λ dead newer. absurd (omega (arith, newer))) (s.leaves k w.client.refusals)) (λ _. s.leaves k _)
dialogs P w ev s k te y rest is token o (SaidSecond false) at =
    either (λ d. P (dialog_took (behind_reply w k rest) k y.reply d).client) (y.reply.status == success) Accepts (Refuses y.reply.status)
    (λ e. s.accepts k y.reply (ap (λ t. dialog_step t y.reply.status) at
    ∙ ap (λ b. if b then Accepts else Refuses y.reply.status) e)) (λ _. s.leaves k _)
dialogs P w ev s k te y rest is token o AskedTree at =
    either (λ d. P (dialog_took (behind_reply w k rest) k y.reply d).client) (y.reply.status == success) Readies (Refuses y.reply.status)
    (λ e. ended_well (λ (v : World). P v.client) (behind_reply w k rest) k w.client.pending y.reply.tree_id
    (λ live. s.binds k (λ z. asked_not z at) o live) (λ dead newer. s.begins k y.reply.tree_id at o dead)
    (s.leaves k w.client.refusals)) (λ _. s.leaves k _)

takes : (P : Client → Type 0) (w : World) (ev : Event) → Small P w ev → (k : ℕ) → ev ≡ Take k → (w.conns k).client_open
    ≡ true → P w.client → (ys : List Received) → (w.conns k).down ≡ ys → P (take_reply w k ys).client
takes P w ev s k te o h [] is = h
takes P w ev s k te o h (y ∷ rest) is = by y.token refl
  where
    op : (g : ℕ) (asking : Bool) → y.token ≡ (if asking then ForAttach g else ForOp g)
        → P (op_took (behind_reply w k rest) k g asking y.reply y.place).client
    op g asking e =
        either P (is_awaited w.client k g asking) _ _
        (λ a. hears P w ev s k g asking y.reply y.place (λ o asks he. record {
          takes = te;
          reply = y;
          rest = rest;
          is = is;
          token = e;
          says = refl;
          at = refl;
          asks = asks;
          heard_as = he;
        })
        (λ he. record {
          channel = k;
          asking = asking;
          takes = te;
          reply = y;
          rest = rest;
          is = is;
          token = e;
          heard_as = he;
        }) a (heard w.client g asking y.reply) refl) (λ _. h)

    by : (t : Token) → y.token ≡ t → P (took_by (behind_reply w k rest) k y.reply y.place t).client
    by ForDialog e = dialogs P w ev s k te y rest is e o (w.client.stage k) refl
    by (ForOp g) e = op g false e
    by (ForAttach g) e = op g true e

cut_off : (P : Client → Type 0) (w : World) (ev : Event) → Small P w ev → (k : ℕ) → ev ≡ Cut k → P (changed w (Cut k)).client
cut_off P w ev s k te =
    either (λ (v : World). P v.client) (w.client.ready k) _ _
    (λ on. either P (w.client.ready k) _ _ (λ _. either P (ends_at_cut w.client) (end_session w.client)
    (cut_channel w.client k) (λ _. s.cut_ends k on te) (λ e. s.cuts k on e te))
    (λ off. both (w.client.ready k) _ on off))
    (λ _. s.leaves k w.client.refusals)
  where
    both : (b : Bool) (P : Type 0) → b ≡ true → b ≡ false → P
    both b P e f = absurd (cc)

-- a Submit is taken apart
abbrev pub Takes : (Client → Type 0) → World → Event → Type 0
Takes P w e = (g : ℕ) (op : Op) → e ≡ Submit g op → may_take w.client g op ≡ true → P (take_op w.client g op)

pub client_keeps : (P : Client → Type 0) (w : World) (e : Event) → Takes P w e → Small P w e → P w.client → P (happens w e).client
client_keeps P w (Submit g op) t s h = either P (may_take w.client g op) _ _ (λ m. t g op refl m) (λ _. h)
client_keeps P w (Open k) t s h = either (λ (v : World). P v.client) (may_open w k) _ _ (λ _. s.opens k) (λ _. h)
client_keeps P w (Push k slotless pick) t s h = either (λ (v : World). P v.client) (w.client.ready k) _ _
    (λ _. pushes P w (Push k slotless pick) s k slotless pick refl h) (λ _. h)
client_keeps P w (Serve k) t s h = either (λ (v : World). P v.client) (may_serve w k)
    (later (serve_front w k (w.conns k).up) 1) w (λ _. subst P (sym (same_served w k (w.conns k).up)) h) (λ _. h)
client_keeps P w (Take k) t s h = either (λ (v : World). P v.client) ((w.conns k).client_open
    && is_filled (w.conns k).down) _ _ (λ m. takes P w (Take k) s k refl (front_of (w.conns k).client_open _ m) h
    (w.conns k).down refl) (λ _. h)
client_keeps P w (Cut k) t s h = either (λ (v : World). P v.client) (w.conns k).client_open _ _ (λ _. cut_off P w (Cut k) s k refl) (λ _. h)
client_keeps P w (Drop k) t s h = either (λ (v : World). P v.client) (w.conns k).server_open _ _ (λ _. h) (λ _. h)
client_keeps P w Restart t s h = h
client_keeps P w (Crash k kept) t s h = either (λ (v : World). P v.client) (may_serve w k) _ _
    (λ _. subst P (sym (crash_client w k kept)) h) (λ _. h)
client_keeps P w (Wait n) t s h = h
client_keeps P w (Finish refusal) t s h = either (λ (v : World). P v.client) (not w.client.live) _ _
    (λ _. s.finishes (NoSession refusal) (record { refusal = refusal; is = refl; because = refl })) (λ _. h)
