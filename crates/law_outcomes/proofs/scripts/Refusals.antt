-- Refused dialogs are never forgotten, so a client that has none at the end gave nothing up.
use Rattle.std.proofs.Common.{◌≡◌, ℕ, Bool, true, false, not, ◌&&◌, ◌||◌, List, [], ◌∷◌, ◌++◌, refl, sym, subst, ◌∙◌, ap}
use Rattle.std.proofs.Common.{Option, Some, None}
use Rattle.spec_exchange.specs.Table.{put, put2, is_filled}
use Rattle.spec_exchange.specs.State.{Reply, Body}
use Rattle.spec_exchange.specs.Operations.{Outcome, Unsettled, WasOk, WasRefused, NoSlot, NoOpen, Unknown, Refusal}
use Rattle.spec_exchange.specs.Operations.{is_create, is_lock, is_close}
use Rattle.spec_exchange.specs.Operations.{id_in}
use Rattle.spec_exchange.specs.Status.{disk_full}
use Rattle.std.proofs.Common.{◌==◌, if◌then◌else◌}
use Rattle.spec_exchange.specs.Client.{Client, RefusedDialog, create_for, may_take, may_push, goes_itself, has_its_slot, lacks_slot}
use Rattle.spec_exchange.specs.Client.{settle_no_slot, settle_no_slots, begin, again, begun, take_slot, outstanding, asked, ends_at_cut}
use Rattle.spec_exchange.specs.Client.{end_session, cut_channel}
use Rattle.spec_exchange.specs.Settling.{Heard as Hearing, Settles, GoesAgain, Attaches, EndsSession, heard, hear, is_awaited, settle}
use Rattle.spec_exchange.specs.Settling.{settled, noted, noted_full, settles_open, with_no_opens}
use Rattle.spec_exchange.specs.Dialogs.{DialogStep, GoesOn, Accepts, Binds, Readies, Refuses, dialog_step}
use Rattle.spec_exchange.specs.ClientStep.{Pick, Act, pick_after, pick_act, some_unsettled, IsReady}
use Rattle.spec_exchange.specs.Schedules.{last_refusal}
use Rattle.spec_exchange.specs.Network.{World, Event, Submit, Open, Push, Serve, Take, Cut, Drop, Restart, Crash, Wait}
use Rattle.spec_exchange.specs.Network.{Finish, Received, Token, ForDialog, ForOp, ForAttach, happens, changed, later, may_open}
use Rattle.spec_exchange.specs.Network.{may_serve, pushed_by, serve_front, take_reply, took_by, dialog_took, op_took, behind_reply}
use Rattle.spec_exchange.specs.Network.{dialog_ended, run}
use Rattle.law_sessions.proofs.messages.Run.{both_ways, ended_well}
use Rattle.law_server.proofs.tables.Logic.{either}
use Rattle.law_sessions.proofs.sessions.DialogFacts.{same_served, crash_client}
use Rattle.law_outcomes.specs.scripts.Scripts.{gives_up, has_given_up}
use Rattle.law_outcomes.proofs.scripts.Paired.{absent}
use Rattle.law_outcomes.proofs.scripts.Due.{Due, AllDue}

-- ---- the same refusals

abbrev Same : Client → Client → Type 0
Same c d = d.refusals ≡ c.refusals

same_no_slot : (c : Client) (k g : ℕ) → Same c (settle_no_slot c k g)
same_no_slot c k g = either (λ d. Same c d) (lacks_slot c k g) (record c {
  outcome = put c.outcome g (NoSlot (create_for c g));
}) c (λ _. refl) (λ _. refl)

same_no_slots : (c : Client) (k : ℕ) (gs : List ℕ) → Same c (settle_no_slots c k gs)
unfolding settle_no_slots
same_no_slots c k [] = refl
same_no_slots c k (g ∷ gs) = same_no_slots (settle_no_slot c k g) k gs ∙ same_no_slot c k g

same_begun : (c : Client) (g i : ℕ) → Same c (begun c g i)
same_begun c g i =
    let P : Client → Type 0 = λ d. Same c d in
    either P (c.sent g) (again c g) (begin c g i)
    (λ _. either P (is_lock (c.op g)) (record c {
      retried = put2 c.retried (create_for c g) (c.slot_of g) c.session_number;
    }) c (λ _. refl) (λ _. refl))
    (λ _. either P (is_lock (c.op g)) (record (take_slot c g i) { sent = put c.sent g true }) (record c {
      sent = put c.sent g true;
    }) (λ _. refl) (λ _. refl))

same_noted : (c : Client) (g : ℕ) (o : Outcome) (body : Body) → Same c (noted c g o body)
same_noted c g (WasOk reply) body =
    either (λ d. Same c d) (is_create (c.op g)) (record c {
      file = put c.file g (id_in body);
      attached = put c.attached g c.session_number;
    })
    (if is_close (c.op g) then record c { closed_ok = put c.closed_ok (create_for c g) true } else c) (λ _. refl)
    (λ _. either (λ d. Same c d) (is_close (c.op g)) (record c { closed_ok = put c.closed_ok (create_for c g) true }) c
    (λ _. refl) (λ _. refl))
same_noted c g Unsettled body = refl
same_noted c g (WasRefused status) body = refl
same_noted c g (NoSlot create) body = refl
same_noted c g (NoOpen create) body = refl
same_noted c g (Unknown why) body = refl

same_full : (c : Client) (g : ℕ) (asking : Bool) (status : ℕ) → Same c (noted_full c g asking status)
same_full c g asking status =
    either (λ d. Same c d) (is_lock (c.op g) && (not asking && (status == disk_full))) (record c {
      full = put2 c.full (create_for c g) (c.slot_of g) true;
    }) c (λ _. refl) (λ _. refl)

same_settle : (c : Client) (g : ℕ) (asking : Bool) (r : Reply) (place : ℕ) (o : Outcome) → Same c (settle c g asking r place o)
same_settle c g asking r place o =
    let n = noted c g o r.body in let f = noted_full n g asking r.status in let d = settled f g o place in
    let s : Same c d = same_full n g asking r.status ∙ same_noted c g o r.body in
    either (λ e. Same c e) (settles_open (c.op g)) (with_no_opens d (create_for c g)) d (λ _. s) (λ _. s)

-- ---- none is forgotten

abbrev pub Grows : Client → Client → Type 0
Grows c d = is_filled c.refusals ≡ true → is_filled d.refusals ≡ true

by_same : (c d : Client) → Same c d → Grows c d
by_same c d e f = ap is_filled e ∙ f

one_more : (xs : List RefusedDialog) (x : RefusedDialog) → is_filled (xs ++ x ∷ []) ≡ true
unfolding is_filled
one_more [] x = refl
one_more (y ∷ xs) x = refl

grows_op : (w : World) (k g s : ℕ) (c : Client) → Same w.client c
    → Grows w.client (pushed_by w k (pick_after c k (Some (record { op = g; slot = s })))
    (pick_act c k (Some (record { op = g; slot = s })))).client
grows_op w k g s c q =
    let P : Client → Act → Type 0 = λ d x. Grows w.client (pushed_by w k d x).client in
    both_ways P (may_push c k g) _ _ _ _
    (λ _. both_ways P (goes_itself c g) _ _ _ _
    (λ _. both_ways P (has_its_slot c g s) _ _ _ _ (λ _. by_same w.client (outstanding (begun c g s) k g)
    (same_begun c g s ∙ q)) (λ _. by_same w.client c q))
    (λ _. by_same w.client (asked c k g) q))
    (λ _. by_same w.client c q)

grows_pick : (w : World) (k : ℕ) (c : Client) (pick : Option Pick) → Same w.client c
    → Grows w.client (pushed_by w k (pick_after c k pick) (pick_act c k pick)).client
grows_pick w k c None q = either (λ x. Grows w.client (pushed_by w k c x).client) (some_unsettled c c.taken) _ _
    (λ _. by_same w.client c q) (λ _. by_same w.client c q)
grows_pick w k c (Some p) q = grows_op w k p.op p.slot c q

grows_push : (w : World) (k : ℕ) (slotless : List ℕ) (pick : Option Pick) → Grows w.client (changed w (Push k slotless pick)).client
grows_push w k slotless pick =
    both_ways (λ d x. Grows w.client (pushed_by w k d x).client) (w.client.ready k) _ _ _ _
    (λ _. grows_pick w k (settle_no_slots w.client k slotless) pick (same_no_slots w.client k slotless))
    (λ off. either (λ x. Grows w.client (pushed_by w k w.client x).client) (some_unsettled w.client w.client.taken) _ _
    (λ _ f. f) (λ _ f. f))

grows_hear : (c : Client) (g : ℕ) (asking : Bool) (r : Reply) (place : ℕ) (h : Hearing) → Grows c (hear c g asking r place h)
grows_hear c g asking r place (Settles o) = by_same c (settle c g asking r place o) (same_settle c g asking r place o)
grows_hear c g asking r place GoesAgain = λ f. f
grows_hear c g asking r place Attaches = λ f. f
grows_hear c g asking r place EndsSession = λ f. f

grows_ended : (w : World) (k session tree : ℕ) → Grows w.client (dialog_ended w k (IsReady k session tree)).client
grows_ended w k session tree = ended_well (λ v. Grows w.client v.client) w k session tree (λ _ f. f) (λ _ _ f. f) (λ f. f)

grows_dialog : (w : World) (k : ℕ) (r : Reply) (d : DialogStep) → Grows w.client (dialog_took w k r d).client
grows_dialog w k r (GoesOn s) = λ f. f
grows_dialog w k r Accepts = λ f. f
grows_dialog w k r Binds = grows_ended w k w.client.session w.client.tree
grows_dialog w k r Readies = grows_ended w k w.client.pending r.tree_id
grows_dialog w k r (Refuses status) = λ f. one_more w.client.refusals _

grows_take : (w : World) (k : ℕ) (ys : List Received) → Grows w.client (take_reply w k ys).client
grows_take w k [] = λ f. f
grows_take w k (y ∷ rest) = by y.token
  where
    op : (g : ℕ) (asking : Bool) → Grows w.client (op_took (behind_reply w k rest) k g asking y.reply y.place).client
    op g asking = either (λ d. Grows w.client d) (is_awaited w.client k g asking) _ _
        (λ _. grows_hear w.client g asking y.reply y.place (heard w.client g asking y.reply)) (λ _ f. f)

    by : (t : Token) → Grows w.client (took_by (behind_reply w k rest) k y.reply y.place t).client
    by ForDialog = grows_dialog (behind_reply w k rest) k y.reply (dialog_step (w.client.stage k) y.reply.status)
    by (ForOp g) = op g false
    by (ForAttach g) = op g true

grows_cut : (w : World) (k : ℕ) → Grows w.client (changed w (Cut k)).client
grows_cut w k =
    either (λ (v : World). Grows w.client v.client) (w.client.ready k) _ _
    (λ _. either (λ d. Grows w.client d) (w.client.ready k) _ _
    (λ _. either (λ d. Grows w.client d) (ends_at_cut w.client) (end_session w.client) (cut_channel w.client k) (λ _ f. f) (λ _ f. f))
    (λ _ f. f))
    (λ _ f. f)

grows : (w : World) (e : Event) → Grows w.client (happens w e).client
grows w (Submit g op) = either (λ d. Grows w.client d) (may_take w.client g op) _ _ (λ _ f. f) (λ _ f. f)
grows w (Open k) = either (λ (v : World). Grows w.client v.client) (may_open w k) _ _ (λ _ f. f) (λ _ f. f)
grows w (Push k slotless pick) = either (λ (v : World). Grows w.client v.client) (w.client.ready k) _ _
    (λ _. grows_push w k slotless pick) (λ _ f. f)
grows w (Serve k) = either (λ (v : World). Grows w.client v.client) (may_serve w k) (later (serve_front w k (w.conns k).up) 1) w
    (λ _. subst (λ d. Grows w.client d) (sym (same_served w k (w.conns k).up)) (λ f. f)) (λ _ f. f)
grows w (Take k) = either (λ (v : World). Grows w.client v.client) ((w.conns k).client_open && is_filled (w.conns k).down) _ _
    (λ _. grows_take w k (w.conns k).down) (λ _ f. f)
grows w (Cut k) = either (λ (v : World). Grows w.client v.client) (w.conns k).client_open _ _ (λ _. grows_cut w k) (λ _ f. f)
grows w (Drop k) = either (λ (v : World). Grows w.client v.client) (w.conns k).server_open _ _ (λ _ f. f) (λ _ f. f)
grows w Restart = λ f. f
grows w (Crash k kept) = either (λ (v : World). Grows w.client v.client) (may_serve w k) _ _
    (λ _. subst (λ d. Grows w.client d) (sym (crash_client w k kept)) (λ f. f)) (λ _ f. f)
grows w (Wait n) = λ f. f
grows w (Finish refusal) = either (λ (v : World). Grows w.client v.client) (not w.client.live) _ _ (λ _ f. f) (λ _ f. f)

grown : (es : List Event) (w : World) → Grows w.client (run es w).client
unfolding run
grown [] w = λ f. f
grown (e ∷ es) w = λ f. grown es (happens w e) (grows w e f)

-- ---- nothing is given up

some_last : (ds : List RefusedDialog) (r : Refusal) → last_refusal ds ≡ Some r → is_filled ds ≡ true
unfolding last_refusal is_filled
some_last [] r e = absurd (cc)
some_last (d ∷ ds) r e = refl

keeps_up : (w : World) (e : Event) → Due w e → is_filled w.client.refusals ≡ false → gives_up w e ≡ false
keeps_up w (Finish refusal) d off = absent (is_filled w.client.refusals) _ (some_last w.client.refusals refusal (d refusal refl)) off
keeps_up w (Submit n op) d off = refl
keeps_up w (Open k) d off = refl
keeps_up w (Push k slotless pick) d off = refl
keeps_up w (Serve k) d off = refl
keeps_up w (Take k) d off = refl
keeps_up w (Cut k) d off = refl
keeps_up w (Drop k) d off = refl
keeps_up w Restart d off = refl
keeps_up w (Crash k kept) d off = refl
keeps_up w (Wait n) d off = refl

still_off : (a b : Bool) → (a ≡ true → b ≡ true) → b ≡ false → a ≡ false
still_off true b f e = absurd (let h = f refl in cc)
still_off false b f e = refl

neither : (a b : Bool) → a ≡ false → b ≡ false → (a || b) ≡ false
neither true b e f = absurd (cc)
neither false b e f = f

pub nothing_given_up : (es : List Event) (w : World) → AllDue es w → is_filled (run es w).client.refusals ≡ false
    → has_given_up es w ≡ false
unfolding AllDue has_given_up run
nothing_given_up [] w d off = refl
nothing_given_up (e ∷ es) w d off =
    let first = still_off (is_filled w.client.refusals) _ (λ f. grown es (happens w e) (grows w e f)) off in
    neither (gives_up w e) (has_given_up es (happens w e)) (keeps_up w e d.0 first) (nothing_given_up es (happens w e) d.1 off)
